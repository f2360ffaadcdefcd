-- What a change of the tables of a collection is of its marks by node.
use Rattle.std.specs.Prelude.{◌≡◌, ℕ, ◌+◌, ◌<◌, ◌≤◌, Bool, true, false, not, ◌||◌, cond, List, [], ◌∷◌, ◌++◌, length, set, Option, None, Some, is_some, slice_index_or, refl, ◌⊎◌, ◌↔◌}
use Rattle.std.proofs.Common.{ap, sym, ◌∙◌, subst, inl, inr, arith}
use Rattle.std.specs.BTreeMap.{is_at}
use Rattle.std.proofs.lemmas.Bool.{cases_lt}
use Rattle.std.proofs.lemmas.List.{get_or-set_same, get_or-set_other}
use Rattle.ddc_names.specs.declared.hash.IoHash.{IoHash}
use Rattle.ddc_names.specs.Orders.{io_hash_cmp}
use Rattle.cb_fields.specs.declared.links.Link.{Link}
use Rattle.cb_fields.specs.declared.links.LinkKind.{LinkKind}
use Rattle.cb_fields.specs.declared.links.LinkKind.TheVariants.{Object, Binary}
use Rattle.collector.specs.declared.nodes.NodeMark.{NodeMark}
use Rattle.collector.specs.Marks.{Marks, white, number_in, mark_at, marks_of, mark_of, knows, is_marked, is_grey, is_safe, NoneGrey}
use Rattle.collector.specs.inside.Tables.{AreDistinct, grey_at, greyed, taken}
use Rattle.collector.specs.inside.Steps.{IsEntered, IsGreyed, IsGreyedIf, IsPicked, PicksOf, PicksNode, is_safe_by}
use Rattle.collector.proofs.Lists.{node_of, same_node, same_hash, number_gives, or_last, number_added, last_number, at_white, mark_added, beyond}

-- ---- one mark is written

abbrev pub set_mark : Marks → LinkKind → ℕ → NodeMark → Marks
set_mark c Object n v = record c { objects = set c.objects n v }
set_mark c Binary n v = record c { binaries = set c.binaries n v }

module _ (c : Marks) (h : IoHash) (n : ℕ) (is : number_in c.hashes h ≡ Some n) (v : NodeMark) where
  set_here : (kind : LinkKind) → n < length (marks_of c kind) → mark_of (set_mark c kind n v) (node_of kind h) ≡ v
  set_here Object lt = ap (λ (o : Option ℕ). mark_at (set c.objects n v) o) is ∙ get_or-set_same c.objects n v white lt
  set_here Binary lt = ap (λ (o : Option ℕ). mark_at (set c.binaries n v) o) is ∙ get_or-set_same c.binaries n v white lt

  else_mark : (ms : List NodeMark) (o : Option ℕ) → (o ≡ Some n → ⊥) → mark_at (set ms n v) o ≡ mark_at ms o
  else_mark ms None d = refl
  else_mark ms (Some m) d = get_or-set_other ms n m v white (λ e. d (ap Some e))

  not_its_number : (g : IoHash) → (g ≡ h → ⊥) → number_in c.hashes g ≡ Some n → ⊥
  not_its_number g d e = d (sym (number_gives c.hashes g n h e).1 ∙ (number_gives c.hashes h n h is).1)

  set_else : (kind l : LinkKind) (g : IoHash) → (node_of l g ≡ node_of kind h → ⊥) → mark_of (set_mark c kind n v) (node_of l g) ≡ mark_of c (node_of l g)
  set_else Object Object g d = else_mark c.objects (number_in c.hashes g) (not_its_number g (λ e. d (ap (node_of Object) e)))
  set_else Binary Binary g d = else_mark c.binaries (number_in c.hashes g) (not_its_number g (λ e. d (ap (node_of Binary) e)))
  set_else Object Binary g d = refl
  set_else Binary Object g d = refl

-- the mark of a node by its number
by_number : (c : Marks) (kind : LinkKind) (h : IoHash) (n : ℕ) → number_in c.hashes h ≡ Some n → mark_of c (node_of kind h) ≡ slice_index_or (marks_of c kind) n white
by_number c kind h n is = ap (λ (o : Option ℕ). mark_at (marks_of c kind) o) is

pub number_below : (xs : List IoHash) (h : IoHash) (n : ℕ) → number_in xs h ≡ Some n → n < length xs
number_below xs h n is = (number_gives xs h n h is).0

-- ---- a node is made grey

module _ (c : Marks) (kind : LinkKind) (h : IoHash) (n : ℕ) (is : number_in c.hashes h ≡ Some n) (lt : n < length (marks_of c kind)) where
  abbrev own : NodeMark
  own = greyed (slice_index_or (marks_of c kind) n white)

  marked_still : (other : Link) → is_marked (set_mark c kind n own) other ≡ is_marked c other
  marked_still other = split (same_node other (node_of kind h)) where
    split : (other ≡ node_of kind h) ⊎ (other ≡ node_of kind h → ⊥) → is_marked (set_mark c kind n own) other ≡ is_marked c other
    split (inl e) =
        ap (is_marked (set_mark c kind n own)) e
        ∙ ap (λ (m : NodeMark). m.marked) (set_here c h n is own kind lt)
        ∙ sym (ap (λ (m : NodeMark). m.marked) (by_number c kind h n is))
        ∙ sym (ap (is_marked c) e)
    split (inr d) = ap (λ (m : NodeMark). m.marked) (set_else c h n is own kind other.kind other.hash d)

  grey_here : is_grey (set_mark c kind n own) (node_of kind h) ≡ true
  grey_here = ap (λ (m : NodeMark). m.grey) (set_here c h n is own kind lt)

  grey_else : (other : Link) → (other ≡ node_of kind h → ⊥) → is_grey (set_mark c kind n own) other ≡ is_grey c other
  grey_else other d = ap (λ (m : NodeMark). m.grey) (set_else c h n is own kind other.kind other.hash d)

greyed_set : (c : Marks) (kind : LinkKind) (h : IoHash) (n : ℕ) → number_in c.hashes h ≡ Some n → n < length (marks_of c kind)
    → IsGreyed c (node_of kind h) (record (set_mark c kind n (greyed (slice_index_or (marks_of c kind) n white))) { ended = false })
greyed_set c Object h n is lt = record {
  space = refl;
  hour = refl;
  hashes = refl;
  spare = refl;
  marked = marked_still c Object h n is lt;
  grey = grey_here c Object h n is lt;
  others = grey_else c Object h n is lt;
  ended = refl;
}
greyed_set c Binary h n is lt = record {
  space = refl;
  hour = refl;
  hashes = refl;
  spare = refl;
  marked = marked_still c Binary h n is lt;
  grey = grey_here c Binary h n is lt;
  others = grey_else c Binary h n is lt;
  ended = refl;
}

pub greyed_as : (v old new : Marks) (node : Link) (n : ℕ) (kind : LinkKind) → v ≡ old → node.kind ≡ kind → number_in old.hashes node.hash ≡ Some n → length (marks_of v kind) ≡ length v.hashes
    → new ≡ record (set_mark v kind n (greyed (slice_index_or (marks_of v kind) n white))) { ended = false } → IsGreyed old node new
greyed_as v old new node n kind view kinds is len e =
    let in_v : number_in v.hashes node.hash ≡ Some n = subst (λ (m : Marks). number_in m.hashes node.hash ≡ Some n) (sym view) is in
    let below : n < length v.hashes = number_below v.hashes node.hash n in_v in
    let lt : n < length (marks_of v kind) = omega arith in
    subst (λ (m : Marks). IsGreyed m node new) view
    (subst (λ (m : Marks). IsGreyed v node m) (sym e)
    (subst (λ (k : LinkKind). IsGreyed v (node_of k node.hash) (record (set_mark v kind n (greyed (slice_index_or (marks_of v kind) n white))) { ended = false })) (sym kinds) (greyed_set v kind node.hash n in_v lt)))

pub greyed_if : (o : Option ℕ) (n : ℕ) (old new : Marks) (node : Link) → Some n ≡ o → IsGreyed old node new → IsGreyedIf (is_some o) old node new
greyed_if o n old new node e g = subst (λ (p : Option ℕ). IsGreyedIf (is_some p) old node new) e g

-- ---- a grey node is marked

module _ (c : Marks) (kind : LinkKind) (h : IoHash) (n : ℕ) (is : number_in c.hashes h ≡ Some n) (lt : n < length (marks_of c kind)) where
  picked_here : mark_of (set_mark c kind n taken) (node_of kind h) ≡ taken
  picked_here = set_here c h n is taken kind lt

  picked_else : (other : Link) → (other ≡ node_of kind h → ⊥) → mark_of (set_mark c kind n taken) other ≡ mark_of c other
  picked_else other d = set_else c h n is taken kind other.kind other.hash d

  was : grey_at (marks_of c kind) n ≡ true → is_grey c (node_of kind h) ≡ true
  was e = ap (λ (m : NodeMark). m.grey) (by_number c kind h n is) ∙ e

picked_set : (c : Marks) (kind : LinkKind) (h : IoHash) (n : ℕ) → number_in c.hashes h ≡ Some n → n < length (marks_of c kind) → grey_at (marks_of c kind) n ≡ true → c.ended ≡ false
    → IsPicked c (node_of kind h) (record (set_mark c kind n taken) { ended = false })
picked_set c Object h n is lt grey going = record {
  same = record { space = refl; hour = refl; hashes = refl; spare = refl; ended = sym going };
  was_grey = was c Object h n is lt grey;
  marked_now = ap (λ (m : NodeMark). m.marked) (picked_here c Object h n is lt);
  grey_no_more = ap (λ (m : NodeMark). m.grey) (picked_here c Object h n is lt);
  marked = λ other d. ap (λ (m : NodeMark). m.marked) (picked_else c Object h n is lt other d);
  grey = λ other d. ap (λ (m : NodeMark). m.grey) (picked_else c Object h n is lt other d);
  going = refl;
}
picked_set c Binary h n is lt grey going = record {
  same = record { space = refl; hour = refl; hashes = refl; spare = refl; ended = sym going };
  was_grey = was c Binary h n is lt grey;
  marked_now = ap (λ (m : NodeMark). m.marked) (picked_here c Binary h n is lt);
  grey_no_more = ap (λ (m : NodeMark). m.grey) (picked_here c Binary h n is lt);
  marked = λ other d. ap (λ (m : NodeMark). m.marked) (picked_else c Binary h n is lt other d);
  grey = λ other d. ap (λ (m : NodeMark). m.grey) (picked_else c Binary h n is lt other d);
  going = refl;
}

pub not_ended : (b : Bool) → (b ≡ true → ⊥) → b ≡ false
not_ended true d = absurd (d refl)
not_ended false d = refl

pub picked_as : (v old new : Marks) (h : IoHash) (n : ℕ) (kind : LinkKind) → v ≡ old → number_in v.hashes h ≡ Some n → n < length (marks_of v kind) → grey_at (marks_of v kind) n ≡ true → (v.ended ≡ true → ⊥)
    → new ≡ record (set_mark v kind n taken) { ended = false } → IsPicked old (node_of kind h) new
picked_as v old new h n kind view is lt grey going e =
    subst (λ (m : Marks). IsPicked m (node_of kind h) new) view
    (subst (IsPicked v (node_of kind h)) (sym e) (picked_set v kind h n is lt grey (not_ended v.ended going)))

white_at : (ms : List NodeMark) → ((n : ℕ) → grey_at ms n ≡ false) → (o : Option ℕ) → (let m : NodeMark = mark_at ms o in m.grey) ≡ false
white_at ms none None = refl
white_at ms none (Some n) = none n

pub none_picked : (v old new : Marks) (kind : LinkKind) → v ≡ old → ((n : ℕ) → grey_at (marks_of v kind) n ≡ false) → new ≡ v → PicksOf kind old None new
none_picked v old new kind view none e =
    subst (λ (m : Marks). PicksOf kind m None new) view ((λ hash. white_at (marks_of v kind) none (number_in v.hashes hash)), e)

-- ---- a blob is entered

module _ (c : Marks) (h : IoHash) (spare : ℕ) (none : number_in c.hashes h ≡ None) (objects : length c.objects ≡ length c.hashes) (binaries : length c.binaries ≡ length c.hashes) (room : spare + 1 ≡ c.spare) where
  abbrev pub grown : Marks
  grown = record c { hashes = c.hashes ++ h ∷ []; objects = c.objects ++ white ∷ []; binaries = c.binaries ++ white ∷ []; spare = spare }

  grown_mark : (ms : List NodeMark) → length ms ≡ length c.hashes → (o : Option ℕ) (b : Bool) → mark_at (ms ++ white ∷ []) (or_last o b (length c.hashes)) ≡ mark_at ms o
  grown_mark ms len (Some m) b = mark_added ms (Some m)
  grown_mark ms len None true = at_white ms (length c.hashes) ∙ beyond ms (length c.hashes) (omega arith)
  grown_mark ms len None false = refl

  entered_mark : (kind : LinkKind) (g : IoHash) → mark_of grown (node_of kind g) ≡ mark_of c (node_of kind g)
  entered_mark Object g = ap (λ (o : Option ℕ). mark_at (c.objects ++ white ∷ []) o) (number_added c.hashes h g) ∙ grown_mark c.objects objects (number_in c.hashes g) (is_at (io_hash_cmp g) h)
  entered_mark Binary g = ap (λ (o : Option ℕ). mark_at (c.binaries ++ white ∷ []) o) (number_added c.hashes h g) ∙ grown_mark c.binaries binaries (number_in c.hashes g) (is_at (io_hash_cmp g) h)

  is_it : (other : IoHash) (o : Option ℕ) (b : Bool) → is_at (io_hash_cmp other) h ≡ b → is_some (or_last o b (length c.hashes)) ≡ true → (is_some o ≡ true) ⊎ (other ≡ h)
  is_it other (Some n) b e t = inl refl
  is_it other None true e t = inr (same_hash other h e)
  is_it other None false e t = absurd (cc)

  some_still : (o : Option ℕ) (b : Bool) → is_some o ≡ true → is_some (or_last o b (length c.hashes)) ≡ true
  some_still (Some n) b t = refl
  some_still None b t = absurd (cc)

  entered_known : (other : IoHash) → (knows grown other ≡ true) ↔ ((knows c other ≡ true) ⊎ (other ≡ h))
  entered_known other = (forth, back) where
    added : knows grown other ≡ is_some (or_last (number_in c.hashes other) (is_at (io_hash_cmp other) h) (length c.hashes))
    added = ap is_some (number_added c.hashes h other)

    forth : knows grown other ≡ true → (knows c other ≡ true) ⊎ (other ≡ h)
    forth t = is_it other (number_in c.hashes other) (is_at (io_hash_cmp other) h) refl (sym added ∙ t)

    back : (knows c other ≡ true) ⊎ (other ≡ h) → knows grown other ≡ true
    back (inl t) = added ∙ some_still (number_in c.hashes other) (is_at (io_hash_cmp other) h) t
    back (inr e) = subst (λ (x : IoHash). knows grown x ≡ true) (sym e) (ap is_some (last_number c.hashes h none))

  entered : IsEntered c h grown
  entered = record {
    space = refl;
    hour = refl;
    known = entered_known;
    marks = λ node. entered_mark node.kind node.hash;
    room = ap (λ (o : Option ℕ). spare + cond (is_some o) 0 1) none ∙ room;
    ended = refl;
  }

pub none_if : (o : Option ℕ) → is_some o ≡ false → o ≡ None
none_if None e = refl
none_if (Some n) e = absurd (cc)

pub entered_as : (v old new : Marks) (h : IoHash) (spare : ℕ) → v ≡ old → number_in v.hashes h ≡ None → length v.objects ≡ length v.hashes → length v.binaries ≡ length v.hashes → spare + 1 ≡ v.spare
    → new ≡ record v { hashes = v.hashes ++ h ∷ []; objects = v.objects ++ white ∷ []; binaries = v.binaries ++ white ∷ []; spare = spare } → IsEntered old h new
entered_as v old new h spare view none objects binaries room e =
    subst (λ (m : Marks). IsEntered m h new) view (subst (IsEntered v h) (sym e) (entered v h spare none objects binaries room))

-- a blob that is known stays as it is
pub entered_same : (c : Marks) (h : IoHash) → knows c h ≡ true → IsEntered c h c
entered_same c h t = record {
  space = refl;
  hour = refl;
  known = λ other. ((λ k. inl k), back other);
  marks = λ node. refl;
  room = ap (λ (b : Bool). c.spare + cond b 0 1) t ∙ omega arith;
  ended = refl;
} where
  back : (other : IoHash) → (knows c other ≡ true) ⊎ (other ≡ h) → knows c other ≡ true
  back other (inl k) = k
  back other (inr e) = subst (λ (x : IoHash). knows c x ≡ true) (sym e) t

-- ---- what is grey by number and by node

pub grey_as : (v old : Marks) (kind : LinkKind) → v ≡ old → AreDistinct v.hashes → length (marks_of v kind) ≡ length v.hashes
    → (n : ℕ) × (n < length (marks_of v kind)) × (grey_at (marks_of v kind) n ≡ true) → (node : Link) × (is_grey old node ≡ true)
grey_as v old kind view distinct len found =
    let d : IoHash = record { 0 = [] } in
    let below : found.0 < length (marks_of v kind) = found.1 in
    let h : IoHash = slice_index_or v.hashes found.0 d in
    let is : number_in v.hashes h ≡ Some found.0 = distinct found.0 d (omega arith) in
    subst (λ (m : Marks). (node : Link) × (is_grey m node ≡ true)) view (node_of kind h, ap (λ (m : NodeMark). m.grey) (by_number v kind h found.0 is) ∙ found.2)

pub no_grey_at : (v old : Marks) (kind : LinkKind) → v ≡ old → AreDistinct v.hashes → length (marks_of v kind) ≡ length v.hashes → NoneGrey old → (n : ℕ) → grey_at (marks_of v kind) n ≡ false
no_grey_at v old kind view distinct len none n = split (cases_lt n (length v.hashes)) where
  none_in : NoneGrey v
  none_in = subst NoneGrey (sym view) none

  split : (n < length v.hashes) ⊎ (length v.hashes ≤ n) → grey_at (marks_of v kind) n ≡ false
  split (inl lt) =
      let d : IoHash = record { 0 = [] } in
      let h : IoHash = slice_index_or v.hashes n d in
      sym (ap (λ (m : NodeMark). m.grey) (by_number v kind h n (distinct n d lt))) ∙ none_in (node_of kind h)
  split (inr from) = ap (λ (m : NodeMark). m.grey) (beyond (marks_of v kind) n (omega arith))

-- ---- safety by number

pub safe_by : (c : Marks) (node : Link) (n : ℕ) → number_in c.hashes node.hash ≡ Some n → is_safe_by c node.kind n ≡ is_safe c node
safe_by c node n is = ap (λ (o : Option ℕ). let own : NodeMark = mark_at (marks_of c node.kind) o in let obj : NodeMark = mark_at c.objects o in (own.marked || own.grey) || (obj.marked || obj.grey)) (sym is)

pub loose_by : (c : Marks) (h : IoHash) (n : ℕ) (b : Bool) → number_in c.hashes h ≡ Some n → b ≡ is_safe_by c Binary n → not b ≡ not (is_safe c (node_of Binary h))
loose_by c h n b is e = ap not (e ∙ safe_by c (node_of Binary h) n is)

pub grown_is : (v : Marks) (hs hs' : List IoHash) (os os' bs bs' : List NodeMark) (spare : ℕ) → hs ≡ hs' → os ≡ os' → bs ≡ bs'
    → record v { hashes = hs; objects = os; binaries = bs; spare = spare } ≡ record v { hashes = hs'; objects = os'; binaries = bs'; spare = spare }
grown_is v hs hs' os os' bs bs' spare h o b =
    ap (λ (x : List IoHash). record v { hashes = x; objects = os; binaries = bs; spare = spare }) h
    ∙ ap (λ (x : List NodeMark). record v { hashes = hs'; objects = x; binaries = bs; spare = spare }) o
    ∙ ap (λ (x : List NodeMark). record v { hashes = hs'; objects = os'; binaries = x; spare = spare }) b

pub picks_both : (a m b : Marks) (r : Option Link) → PicksOf Object a None m → PicksOf Binary m r b → PicksNode a r b
picks_both a m b (Some node) p q = subst (λ (x : Marks). IsPicked x node b) p.1 q
picks_both a m b None p q = ((λ node. by_kind node.kind node.hash), q.1 ∙ p.1) where
  by_kind : (kind : LinkKind) (h : IoHash) → is_grey a (node_of kind h) ≡ false
  by_kind Object h = p.0 h
  by_kind Binary h = subst (λ (x : Marks). is_grey x (node_of Binary h) ≡ false) p.1 (q.0 h)
