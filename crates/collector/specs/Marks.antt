-- A collection as contracts see it: which blobs it knows, and how their nodes are marked.
-- A blob has two nodes: as an object, which leads to its attachments, and as a binary, which leads nowhere.
use Rattle.std.specs.Prelude.{◌≡◌, ℕ, suc, Bool, false, ◌||◌, cond, List, [], ◌∷◌, Option, None, Some, is_some, option_map, slice_index_or, refl}
use Rattle.std.specs.Coded.{Coded, code_by, coded×, coded_ℕ, coded_bool, coded_list}
use Rattle.std.specs.BTreeMap.{is_at}
use Rattle.ddc_names.specs.declared.hash.IoHash.{IoHash}
use Rattle.ddc_names.specs.Orders.{io_hash_cmp, coded_io_hash, coded_name}
use Rattle.cb_fields.specs.declared.links.Link.{Link}
use Rattle.cb_fields.specs.declared.links.LinkKind.{LinkKind}
use Rattle.cb_fields.specs.declared.links.LinkKind.TheVariants.{Object, Binary}
use Rattle.ddc_model.specs.Closure.{object}
use Rattle.collector.specs.declared.nodes.NodeMark.{NodeMark}

-- the namespace and the hour of a collection; the known hashes by their numbers, and how the two nodes of each are
-- marked; for how many blobs more there is room; and whether a sweep list was empty, with nothing shaded since
pub record Marks : Type 0 where
  pub space : List ℕ
  pub hour : ℕ
  pub hashes : List IoHash
  pub objects : List NodeMark
  pub binaries : List NodeMark
  pub spare : ℕ
  pub ended : Bool

abbrev pub coded_mark : Coded NodeMark
coded_mark = code_by (Bool × Bool) (coded× coded_bool coded_bool) (λ m. (m.marked, m.grey)) (λ p. record { marked = p.0; grey = p.1 }) (λ _. refl)

abbrev pub coded_marks : Coded Marks
coded_marks = code_by (List ℕ × (ℕ × (List IoHash × (List NodeMark × (List NodeMark × (ℕ × Bool))))))
    (coded× coded_name (coded× coded_ℕ (coded× (coded_list coded_io_hash) (coded× (coded_list coded_mark) (coded× (coded_list coded_mark) (coded× coded_ℕ coded_bool))))))
    (λ c. (c.space, (c.hour, (c.hashes, (c.objects, (c.binaries, (c.spare, c.ended)))))))
    (λ p. record { space = p.0; hour = p.1.0; hashes = p.1.1.0; objects = p.1.1.1.0; binaries = p.1.1.1.1.0; spare = p.1.1.1.1.1.0; ended = p.1.1.1.1.1.1 }) (λ _. refl)

-- the number of a hash in a list
abbrev pub number_in : List IoHash → IoHash → Option ℕ
number_in [] hash = None
number_in (x ∷ xs) hash = cond (is_at (io_hash_cmp hash) x) (Some 0) (option_map suc (number_in xs hash))

-- neither marked nor grey
abbrev pub white : NodeMark
white = record { marked = false; grey = false }

-- the mark of a number; what has no number is white
abbrev pub mark_at : List NodeMark → Option ℕ → NodeMark
mark_at marks None = white
mark_at marks (Some number) = slice_index_or marks number white

abbrev pub marks_of : Marks → LinkKind → List NodeMark
marks_of c Object = c.objects
marks_of c Binary = c.binaries

abbrev pub mark_of : Marks → Link → NodeMark
mark_of c node = mark_at (marks_of c node.kind) (number_in c.hashes node.hash)

-- whether the collection knows a blob
abbrev pub knows : Marks → IoHash → Bool
knows c hash = is_some (number_in c.hashes hash)

abbrev pub is_marked : Marks → Link → Bool
is_marked c node = let m = mark_of c node in m.marked

abbrev pub is_grey : Marks → Link → Bool
is_grey c node = let m = mark_of c node in m.grey

-- whether a node, or the object node of its hash, is marked or grey: such a node is safe from the sweep
abbrev pub is_safe : Marks → Link → Bool
is_safe c node = (is_marked c node || is_grey c node) || (is_marked c (object node.hash) || is_grey c (object node.hash))

-- no node is grey: marking is over
abbrev pub NoneGrey : Marks → Type 0
NoneGrey c = (node : Link) → is_grey c node ≡ false
