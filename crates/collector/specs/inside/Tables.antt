-- The tables of a collection: hashes by number, and the marks of the nodes of a kind by number.
use Rattle.std.specs.Prelude.{◌≡◌, ℕ, ◌+◌, ◌<◌, Bool, true, false, cond, List, length, Some, refl, slice_index_or, nat_eq}
use Rattle.std.specs.List.{count_by}
use Rattle.std.specs.Ordering.{is_lt}
use Rattle.std.specs.BTreeMap.{is_at}
use Rattle.std.specs.Coded.{Coded, code_by, coded×, coded_ℕ, coded_list}
use Rattle.ddc_names.specs.declared.hash.IoHash.{IoHash}
use Rattle.ddc_names.specs.Orders.{io_hash_cmp, coded_io_hash}
use Rattle.collector.specs.declared.nodes.NodeMark.{NodeMark}
use Rattle.collector.specs.Marks.{white, coded_mark, number_in}

-- the marks of the nodes of a kind, and for how many more there is room
pub record NodesView : Type 0 where
  pub marks : List NodeMark
  pub spare : ℕ

abbrev pub coded_nodes : Coded NodesView
coded_nodes = code_by (List NodeMark × ℕ) (coded× (coded_list coded_mark) coded_ℕ) (λ n. (n.marks, n.spare)) (λ p. record { marks = p.0; spare = p.1 }) (λ _. refl)

-- whether the node of a number is grey
abbrev pub grey_at : List NodeMark → ℕ → Bool
grey_at marks number = let m : NodeMark = slice_index_or marks number white in m.grey

abbrev pub one_if : Bool → ℕ
one_if b = cond b 1 0

-- how many nodes are grey
abbrev pub count_grey : List NodeMark → ℕ
count_grey marks = count_by (λ m. m.grey) marks

-- each grey node stands once in the list, and no other
abbrev pub AreListed : List NodeMark → List ℕ → Type 0
AreListed marks grey = (number : ℕ) → count_by (nat_eq number) grey ≡ one_if (grey_at marks number)

abbrev pub greyed : NodeMark → NodeMark
greyed m = record { marked = m.marked; grey = true }

abbrev pub taken : NodeMark
taken = record { marked = true; grey = false }

-- hashes by number, and for how many more there is room
pub record NumbersView : Type 0 where
  pub hashes : List IoHash
  pub spare : ℕ

abbrev pub coded_numbers : Coded NumbersView
coded_numbers = code_by (List IoHash × ℕ) (coded× (coded_list coded_io_hash) coded_ℕ) (λ n. (n.hashes, n.spare)) (λ p. record { hashes = p.0; spare = p.1 }) (λ _. refl)

-- each hash stands once
abbrev pub AreDistinct : List IoHash → Type 0
AreDistinct hashes = (number : ℕ) (d : IoHash) → number < length hashes → number_in hashes (slice_index_or hashes number d) ≡ Some number

-- no hash of the first so many is below the one before it
abbrev pub AreAscendingTo : ℕ → List IoHash → Type 0
AreAscendingTo sorted hashes = (k : ℕ) (d : IoHash) → k + 1 < sorted → is_lt (io_hash_cmp (slice_index_or hashes (k + 1) d) (slice_index_or hashes k d)) ≡ false

-- the hash is none of the first so many
abbrev pub IsNoneOfFirst : ℕ → List IoHash → IoHash → Type 0
IsNoneOfFirst count hashes hash = (k : ℕ) (d : IoHash) → k < count → is_at (io_hash_cmp hash) (slice_index_or hashes k d) ≡ false
