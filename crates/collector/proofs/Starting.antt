-- How a collection starts.
use Rattle.std.specs.Prelude.{◌≡◌, ℕ, ◌+◌, ◌<◌, ◌≤◌, Bool, true, false, not, ◌&&◌, List, [], length, Option, None, Some, is_some, option_map, slice_index_or, refl, ◌⊎◌}
use Rattle.std.proofs.Common.{ap, sym, ◌∙◌, subst, inl, inr, arith}
use Rattle.std.specs.List.{Contains}
use Rattle.std.specs.FinMap.{get}
use Rattle.std.specs.declared.cmp.Ordering.{Ordering}
use Rattle.std.specs.declared.cmp.Ordering.TheVariants.{Less, Equal, Greater}
use Rattle.std.specs.Ordering.{is_lt, is_eq, ordering_reverse}
use Rattle.std.specs.Cmp.{eq_by_cmp_equiv}
use Rattle.std.proofs.lemmas.Bool.{cases_lt}
use Rattle.std.proofs.lemmas.List.Elements.{Contains-get_or}
use Rattle.ddc_names.specs.declared.hash.IoHash.{IoHash}
use Rattle.ddc_names.specs.declared.reference.RefName.{RefName}
use Rattle.ddc_names.specs.Orders.{io_hash_cmp, name_cmp, name_total, ref_name_cmp, ref_name_total, ref_name_exact}
use Rattle.cb_fields.specs.declared.links.Link.{Link}
use Rattle.cb_fields.specs.declared.links.LinkKind.TheVariants.{Object, Binary}
use Rattle.ref_store.specs.declared.slot.Slot.{Slot}
use Rattle.ref_store.specs.Nexts.{is_behind, IsNext, Next}
use Rattle.ddc_model.specs.declared.rows.Blob.{Blob}
use Rattle.ddc_model.specs.declared.rows.BlobRow.{BlobRow}
use Rattle.ddc_model.specs.declared.rows.SpaceRow.{SpaceRow}
use Rattle.ddc_model.specs.State.{State, blob_at, has_blob}
use Rattle.ddc_model.specs.Closure.{object}
use Rattle.ddc_state.specs.NextKeys.{is_past, NextBlob}
use Rattle.collector.specs.declared.nodes.NodeMark.{NodeMark}
use Rattle.collector.specs.Marks.{Marks, white, number_in, mark_of, mark_at, marks_of, knows, is_marked, is_grey}
use Rattle.collector.specs.Roots.{IsRootNode, done_root, pending_root, pinned_root, leased_root}
use Rattle.collector.specs.Cover.{IsBegun, Covers, AllKnown}
use Rattle.collector.specs.inside.Steps.{IsEntered, IsGreyed, IsGreyedIf, GreyMore}
use Rattle.collector.specs.inside.Starts.{AreKnownTo, AreKnown, GreyRoots, IsObjectGrey, IsPinnedBlob, ArePinnedGreyTo, ArePinnedGrey, IsObjectOf, IsSlotGrey, AreSlotsGreyTo, AreSlotsGrey, AreLeasedGreyTo, PinnedHash}
use Rattle.collector.specs.inside.Sweeps.{IsNextBlob}
use Rattle.collector.proofs.Lists.{node_of, same_node, same_or_not, number_gives}
use Rattle.collector.proofs.Views.{number_below}
use Rattle.collector.proofs.Turning.{grey_is_safe}
use Rattle.collector.proofs.Sweeps.{before_past, not_past_greater, not_past_itself, below_or_same}

same_some : {X : Type 0} (o : Option X) (x y : X) → o ≡ Some x → o ≡ Some y → x ≡ y
same_some o x y e f = cc

not_both : {X : Type 0} (o : Option X) (x : X) → o ≡ None → o ≡ Some x → ⊥
not_both o x e f = cc

alike : (a b : Bool) → (a ≡ true → b ≡ true) → (b ≡ true → a ≡ true) → a ≡ b
alike true b f g = sym (f refl)
alike false true f g = g refl
alike false false f g = refl

and_left : (a b : Bool) → (a && b) ≡ true → a ≡ true
and_left true b e = refl
and_left false b e = absurd (cc)

and_right : (a b : Bool) → (a && b) ≡ true → b ≡ true
and_right true b e = e
and_right false b e = absurd (cc)

and_both : (a b : Bool) → a ≡ true → b ≡ true → (a && b) ≡ true
and_both true b e f = f
and_both false b e f = absurd (cc)

and_false : (a : Bool) → (a && false) ≡ false
and_false true = refl
and_false false = refl

is_not : (b : Bool) → b ≡ false → not b ≡ true
is_not b e = ap not e

not_is : (b : Bool) → not b ≡ true → b ≡ false
not_is true e = absurd (cc)
not_is false e = refl

-- ---- the blobs are known, one after another

pub none_known : (s : State) (c : Marks) → c.hashes ≡ [] → AreKnownTo s c None c
none_known s c none = record {
  white = record { space = refl; hour = refl; marked = λ node. ap (λ (m : NodeMark). m.marked) (plain node); grey = λ node. ap (λ (m : NodeMark). m.grey) (plain node); ended = refl };
  known = λ hash. ap (λ (xs : List IoHash). is_some (number_in xs hash)) none ∙ sym (and_false (has_blob s c.space hash));
} where
  plain : (node : Link) → mark_of c node ≡ white
  plain node = ap (λ (xs : List IoHash). mark_at (marks_of c node.kind) (number_in xs node.hash)) none

-- room changes nothing that is known
pub roomier : (s : State) (old c : Marks) (last : Option IoHash) (n : ℕ) → AreKnownTo s old last c → AreKnownTo s old last (record c { spare = n })
roomier s old c last n k = record {
  white = record { space = k.white.space; hour = k.white.hour; marked = k.white.marked; grey = k.white.grey; ended = k.white.ended };
  known = k.known;
}

-- the next blob isn't known yet
pub not_yet : (s : State) (old c : Marks) (last : Option IoHash) (hash : IoHash) → AreKnownTo s old last c → IsNextBlob s.blobs old.space last hash → knows c hash ≡ false
not_yet s old c last hash k next = k.known hash ∙ ap (λ (b : Bool). has_blob s old.space hash && not b) next.past ∙ and_false (has_blob s old.space hash)

not_there : (o : Option Blob) → o ≡ None → is_some o ≡ true → ⊥
not_there None e t = cc
not_there (Some b) e t = cc

pub known_more : (s : State) (old c new : Marks) (last : Option IoHash) (hash : IoHash) → AreKnownTo s old last c → IsNextBlob s.blobs old.space last hash → IsEntered c hash new → AreKnownTo s old (Some hash) new
known_more s old c new last hash k next e = record {
  white = record {
    space = e.space ∙ k.white.space;
    hour = e.hour ∙ k.white.hour;
    marked = λ node. ap (λ (m : NodeMark). m.marked) (e.marks node) ∙ k.white.marked node;
    grey = λ node. ap (λ (m : NodeMark). m.grey) (e.marks node) ∙ k.white.grey node;
    ended = e.ended ∙ k.white.ended;
  };
  known = λ h. alike (knows new h) (has_blob s old.space h && not (is_past io_hash_cmp (Some hash) h)) (λ t. forth h ((e.known h).0 t)) (λ t. (e.known h).1 (back h t));
} where
  forth : (h : IoHash) → (knows c h ≡ true) ⊎ (h ≡ hash) → (has_blob s old.space h && not (is_past io_hash_cmp (Some hash) h)) ≡ true
  forth h (inl t) =
      let both : (has_blob s old.space h && not (is_past io_hash_cmp last h)) ≡ true = sym (k.known h) ∙ t in
      let early : is_past io_hash_cmp last h ≡ false = not_is (is_past io_hash_cmp last h) (and_right (has_blob s old.space h) (not (is_past io_hash_cmp last h)) both) in
      and_both (has_blob s old.space h) (not (is_past io_hash_cmp (Some hash) h)) (and_left (has_blob s old.space h) (not (is_past io_hash_cmp last h)) both) (is_not (is_past io_hash_cmp (Some hash) h) (not_past_greater hash h (before_past last h hash early next.past)))
  forth h (inr same) =
      subst (λ (x : IoHash). (has_blob s old.space x && not (is_past io_hash_cmp (Some hash) x)) ≡ true) (sym same)
      (and_both (has_blob s old.space hash) (not (is_past io_hash_cmp (Some hash) hash)) next.there (is_not (is_past io_hash_cmp (Some hash) hash) (not_past_itself hash)))

  back : (h : IoHash) → (has_blob s old.space h && not (is_past io_hash_cmp (Some hash) h)) ≡ true → (knows c h ≡ true) ⊎ (h ≡ hash)
  back h t = split (same_or_not h hash) where
    here : has_blob s old.space h ≡ true
    here = and_left (has_blob s old.space h) (not (is_past io_hash_cmp (Some hash) h)) t

    upto : is_past io_hash_cmp (Some hash) h ≡ false
    upto = not_is (is_past io_hash_cmp (Some hash) h) (and_right (has_blob s old.space h) (not (is_past io_hash_cmp (Some hash) h)) t)

    early : (h ≡ hash → ⊥) → (b : Bool) → is_past io_hash_cmp last h ≡ b → b ≡ false
    early d true p = absurd (not_there (blob_at s old.space h) (next.first h p (below_or_same hash h upto d)) here)
    early d false p = refl

    split : (h ≡ hash) ⊎ (h ≡ hash → ⊥) → (knows c h ≡ true) ⊎ (h ≡ hash)
    split (inl same) = inr same
    split (inr d) = inl (k.known h ∙ and_both (has_blob s old.space h) (not (is_past io_hash_cmp last h)) here (is_not (is_past io_hash_cmp last h) (early d (is_past io_hash_cmp last h) refl)))

pub all_known : (s : State) (old c : Marks) (last : Option IoHash) → AreKnownTo s old last c → NextBlob s.blobs old.space last None → AreKnown s old c
all_known s old c last k end = record { white = k.white; known = λ h. k.known h ∙ step h (is_past io_hash_cmp last h) refl } where
  none : (h : IoHash) → is_past io_hash_cmp last h ≡ true → (b : Bool) → has_blob s old.space h ≡ b → false ≡ b
  none h p true t = absurd (not_there (blob_at s old.space h) (end h p) t)
  none h p false t = refl

  step : (h : IoHash) (b : Bool) → is_past io_hash_cmp last h ≡ b → (has_blob s old.space h && not b) ≡ has_blob s old.space h
  step h true p = and_false (has_blob s old.space h) ∙ none h p (has_blob s old.space h) refl
  step h false p = same (has_blob s old.space h) where
    same : (a : Bool) → (a && true) ≡ a
    same true = refl
    same false = refl

-- ---- more is grey

pub grey_none : (some : Link → Type 0) (a b : Marks) → b ≡ a → GreyMore some a b
grey_none some a b same = subst (GreyMore some a) (sym same) (record { space = refl; hour = refl; hashes = refl; ended = λ e. e; marked = λ o. refl; grey_still = λ o e. e; grey_new = λ o e. inl e })

pub grey_then : (some : Link → Type 0) (a b c : Marks) → GreyMore some a b → GreyMore some b c → GreyMore some a c
grey_then some a b c m n = record {
  space = n.space ∙ m.space;
  hour = n.hour ∙ m.hour;
  hashes = n.hashes ∙ m.hashes;
  ended = λ e. n.ended (m.ended e);
  marked = λ o. n.marked o ∙ m.marked o;
  grey_still = λ o e. n.grey_still o (m.grey_still o e);
  grey_new = λ o e. either o (n.grey_new o e);
} where
  either : (o : Link) → (is_grey b o ≡ true) ⊎ (some o × (knows b o.hash ≡ true)) → (is_grey a o ≡ true) ⊎ (some o × (knows a o.hash ≡ true))
  either o (inl e) = m.grey_new o e
  either o (inr p) = inr (p.0, sym (ap (λ (xs : List IoHash). is_some (number_in xs o.hash)) m.hashes) ∙ p.1)

pub grey_as_well : (some other : Link → Type 0) (a b : Marks) → ((o : Link) → some o → other o) → GreyMore some a b → GreyMore other a b
grey_as_well some other a b f m = record {
  space = m.space;
  hour = m.hour;
  hashes = m.hashes;
  ended = m.ended;
  marked = m.marked;
  grey_still = m.grey_still;
  grey_new = λ o e. either o (m.grey_new o e);
} where
  either : (o : Link) → (is_grey a o ≡ true) ⊎ (some o × (knows a o.hash ≡ true)) → (is_grey a o ≡ true) ⊎ (other o × (knows a o.hash ≡ true))
  either o (inl e) = inl e
  either o (inr p) = inr (f o p.0, p.1)

known_still : (some : Link → Type 0) (a b : Marks) → GreyMore some a b → (h : IoHash) → knows a h ≡ true → knows b h ≡ true
known_still some a b m h t = ap (λ (xs : List IoHash). is_some (number_in xs h)) m.hashes ∙ t

-- one node that is known is
greyed_more : (a b : Marks) (node : Link) → IsGreyed a node b → knows a node.hash ≡ true → GreyMore (λ (o : Link). o ≡ node) a b
greyed_more a b node g known = record {
  space = g.space;
  hour = g.hour;
  hashes = g.hashes;
  ended = λ e. g.ended;
  marked = g.marked;
  grey_still = still;
  grey_new = new;
} where
  still : (o : Link) → is_grey a o ≡ true → is_grey b o ≡ true
  still o e = split (same_node o node) where
    split : (o ≡ node) ⊎ (o ≡ node → ⊥) → is_grey b o ≡ true
    split (inl s) = ap (is_grey b) s ∙ g.grey
    split (inr d) = g.others o d ∙ e

  new : (o : Link) → is_grey b o ≡ true → (is_grey a o ≡ true) ⊎ ((o ≡ node) × (knows a o.hash ≡ true))
  new o e = split (same_node o node) where
    split : (o ≡ node) ⊎ (o ≡ node → ⊥) → (is_grey a o ≡ true) ⊎ ((o ≡ node) × (knows a o.hash ≡ true))
    split (inl s) = inr (s, ap (λ (n : Link). knows a n.hash) s ∙ known)
    split (inr d) = inl (sym (g.others o d) ∙ e)

pub if_more : (a b : Marks) (node : Link) → IsGreyedIf (knows a node.hash) a node b → GreyMore (λ (o : Link). o ≡ node) a b
if_more a b node g = split (knows a node.hash) refl g where
  split : (t : Bool) → knows a node.hash ≡ t → IsGreyedIf t a node b → GreyMore (λ (o : Link). o ≡ node) a b
  split true e g = greyed_more a b node g e
  split false e g = grey_none (λ (o : Link). o ≡ node) a b g

pub if_grey : (a b : Marks) (node : Link) → IsGreyedIf (knows a node.hash) a node b → knows a node.hash ≡ true → is_grey b node ≡ true
if_grey a b node g t = let h : IsGreyed a node b = subst (λ (k : Bool). IsGreyedIf k a node b) t g in h.grey

pub object_some : (a b : Marks) (hash : Option IoHash) (h : IoHash) → hash ≡ Some h → IsGreyedIf (knows a h) a (node_of Object h) b → IsObjectGrey a hash b
object_some a b hash h is g = record {
  more = grey_as_well (λ (o : Link). o ≡ node_of Object h) (λ (o : Link). (x : IoHash) × (hash ≡ Some x) × (o ≡ object x)) a b (λ o e. (h, is, e)) (if_more a b (node_of Object h) g);
  all = λ x e known. subst (λ (y : IoHash). knows a y ≡ true → is_grey b (object y) ≡ true) (same_some hash h x is e) (if_grey a b (node_of Object h) g) known;
}

pub object_none : (a b : Marks) (hash : Option IoHash) → hash ≡ None → b ≡ a → IsObjectGrey a hash b
object_none a b hash is same = record {
  more = grey_none (λ (o : Link). (x : IoHash) × (hash ≡ Some x) × (o ≡ object x)) a b same;
  all = λ x e known. absurd (not_both hash x is e);
}

-- ---- pinned blobs

its_blob : (o : Option Blob) (row : BlobRow) → option_map (λ (b : Blob). b.row) o ≡ Some row → (blob : Blob) × (o ≡ Some blob) × (blob.row ≡ row)
its_blob None row e = absurd (cc)
its_blob (Some blob) row e = (blob, refl, cc)

pub pinned_is : (s : State) (space : List ℕ) (hour : ℕ) (hash : IoHash) (row : SpaceRow) (found : Option BlobRow) → get s.spaces space ≡ Some row → found ≡ option_map (λ (b : Blob). b.row) (blob_at s space hash)
    → (r : BlobRow) × (found ≡ Some r) × (hour < r.at + row.pin) → IsPinnedBlob s space hour hash
pinned_is s space hour hash row found is e p =
    let b = its_blob (blob_at s space hash) p.0 (sym e ∙ p.1) in
    (row, b.0, is, b.1, subst (λ (r : BlobRow). hour < r.at + row.pin) (sym b.2) p.2)

pub pinned_isnt : (s : State) (space : List ℕ) (hour : ℕ) (hash : IoHash) (row : SpaceRow) (found : Option BlobRow) → get s.spaces space ≡ Some row → found ≡ option_map (λ (b : Blob). b.row) (blob_at s space hash)
    → IsPinnedBlob s space hour hash → (r : BlobRow) × (found ≡ Some r) × (hour < r.at + row.pin)
pinned_isnt s space hour hash row found is e p =
    let same : p.0 ≡ row = same_some (get s.spaces space) p.0 row p.2 is in
    let blob : Blob = p.1 in
    (blob.row, e ∙ ap (option_map (λ (b : Blob). b.row)) p.3, subst (λ (r : SpaceRow). hour < blob.row.at + r.pin) same p.4)

pub pinned_nowhere : (s : State) (space : List ℕ) (hour : ℕ) (hash : IoHash) → get s.spaces space ≡ None → IsPinnedBlob s space hour hash → ⊥
pinned_nowhere s space hour hash none p = not_both (get s.spaces space) p.0 none p.2

-- a pinned blob's node is a root
pinned_node : (s : State) (space : List ℕ) (leased : List IoHash) (hour : ℕ) (hash : IoHash) (o : Link) → IsPinnedBlob s space hour hash → o ≡ object hash → IsRootNode s space leased hour o
pinned_node s space leased hour hash o p e = subst (IsRootNode s space leased hour) (sym e) (pinned_root p.0 p.1 hash p.2 p.3 p.4)

pinned_roots : (s : State) (space : List ℕ) (leased : List IoHash) (hour : ℕ) (hash : IoHash) (found : Option IoHash) → PinnedHash s space hour hash found → (o : Link) → (x : IoHash) × (found ≡ Some x) × (o ≡ object x) → IsRootNode s space leased hour o
pinned_roots s space leased hour hash None pinned o p = absurd (not_both {X = IoHash} None p.0 refl p.1)
pinned_roots s space leased hour hash (Some found) pinned o p =
    let same : found ≡ p.0 = same_some (Some found) found p.0 refl p.1 in
    pinned_node s space leased hour hash o pinned.1 (p.2 ∙ ap object (sym same ∙ pinned.0))

pinned_found : (s : State) (space : List ℕ) (hour : ℕ) (hash : IoHash) (found : Option IoHash) → PinnedHash s space hour hash found → IsPinnedBlob s space hour hash → found ≡ Some hash
pinned_found s space hour hash None pinned is = absurd (pinned is)
pinned_found s space hour hash (Some found) pinned is = ap Some pinned.0

pub pinned_more : (s : State) (old c new : Marks) (count : ℕ) (hash : IoHash) (found : Option IoHash) → GreyRoots s old c → ArePinnedGreyTo s old count c → number_in c.hashes hash ≡ Some count → PinnedHash s old.space old.hour hash found → IsObjectGrey c found new
    → GreyRoots s old new × ArePinnedGreyTo s old (count + 1) new
pinned_more s old c new count hash found roots all is pinned grey = (more, each) where
  more : GreyRoots s old new
  more leased =
      grey_then (IsRootNode s old.space leased old.hour) old c new (roots leased)
      (grey_as_well (λ (o : Link). (x : IoHash) × (found ≡ Some x) × (o ≡ object x)) (IsRootNode s old.space leased old.hour) c new (pinned_roots s old.space leased old.hour hash found pinned) grey.more)

  hashes : c.hashes ≡ old.hashes
  hashes = let r = roots [] in r.hashes

  each : ArePinnedGreyTo s old (count + 1) new
  each h n blob has lt = split (cases_lt n count) where
    split : (n < count) ⊎ (count ≤ n) → is_grey new (object h) ≡ true
    split (inl early) = grey.more.grey_still (object h) (all h n blob has early)
    split (inr late) =
        let same_count : n ≡ count = omega arith in
        let in_c : number_in c.hashes h ≡ Some count = ap (λ (xs : List IoHash). number_in xs h) hashes ∙ has ∙ ap (λ (k : ℕ). Some k) same_count in
        let same : h ≡ hash = sym (number_gives c.hashes h count h in_c).1 ∙ (number_gives c.hashes hash count h is).1 in
        let known : knows c hash ≡ true = ap is_some is in
        subst (λ (x : IoHash). is_grey new (object x) ≡ true) (sym same)
        (grey.all hash (pinned_found s old.space old.hour hash found pinned (subst (IsPinnedBlob s old.space old.hour) same blob)) known)

has_number : (o : Option ℕ) → is_some o ≡ true → (n : ℕ) × (o ≡ Some n)
has_number None e = absurd (cc)
has_number (Some n) e = (n, refl)

pub pinned_all : (s : State) (old new : Marks) (count : ℕ) → length old.hashes ≤ count → ArePinnedGreyTo s old count new → ArePinnedGrey s old new
pinned_all s old new count enough each h blob known =
    let n = has_number (number_in old.hashes h) known in
    let below : n.0 < length old.hashes = number_below old.hashes h n.0 n.1 in
    each h n.0 blob n.1 (omega arith)

-- ---- references

-- what a reference's objects are as nodes
abbrev slot_nodes : Marks → RefName → Slot → Link → Type 0
slot_nodes a name slot o = (name.space ≡ a.space) × (x : IoHash) × (o ≡ object x) × IsObjectOf slot x

both_grey : (a b c : Marks) (name : RefName) (slot : Slot) → name.space ≡ a.space → IsObjectGrey a slot.done b → IsObjectGrey b slot.pending c → IsSlotGrey a name slot c
both_grey a b c name slot here d p = record {
  more = grey_then (slot_nodes a name slot) a b c
      (grey_as_well (λ (o : Link). (x : IoHash) × (slot.done ≡ Some x) × (o ≡ object x)) (slot_nodes a name slot) a b (λ o e. (here, e.0, e.2, inl e.1)) d.more)
      (grey_as_well (λ (o : Link). (x : IoHash) × (slot.pending ≡ Some x) × (o ≡ object x)) (slot_nodes a name slot) b c (λ o e. (here, e.0, e.2, inr e.1)) p.more);
  all = λ h same is known. each h known is;
} where
  each : (h : IoHash) → knows a h ≡ true → IsObjectOf slot h → is_grey c (object h) ≡ true
  each h known (inl done) = p.more.grey_still (object h) (d.all h done known)
  each h known (inr pending) = p.all h pending (known_still (λ (o : Link). (x : IoHash) × (slot.done ≡ Some x) × (o ≡ object x)) a b d.more h known)

pub slot_here : (a b c : Marks) (name : RefName) (slot : Slot) → name.space ≡ a.space → IsObjectGrey a slot.done b → IsObjectGrey b slot.pending c → IsSlotGrey a name slot c
slot_here = both_grey

is_same : (o : Ordering) → is_eq o ≡ true → o ≡ Equal
is_same Less h = absurd (cc)
is_same Equal h = refl
is_same Greater h = absurd (cc)

pub name_itself : (a b : List ℕ) → a ≡ b → name_cmp a b ≡ Equal
name_itself a b e = subst (λ (x : List ℕ). name_cmp a x ≡ Equal) e (is_same (name_cmp a a) ((eq_by_cmp_equiv name_total).refl a))

pub slot_elsewhere : (a b : Marks) (name : RefName) (slot : Slot) → (name.space ≡ a.space → ⊥) → b ≡ a → IsSlotGrey a name slot b
slot_elsewhere a b name slot away same = record {
  more = grey_none (λ (o : Link). (name.space ≡ a.space) × (x : IoHash) × (o ≡ object x) × IsObjectOf slot x) a b same;
  all = λ h here is known. absurd (away here);
}

slot_node : (s : State) (space : List ℕ) (leased : List IoHash) (hour : ℕ) (name : RefName) (slot : Slot) (h : IoHash) → name.space ≡ space → get s.slots name ≡ Some slot → IsObjectOf slot h → IsRootNode s space leased hour (object h)
slot_node s space leased hour name slot h here there (inl done) = done_root name slot h here there done
slot_node s space leased hour name slot h here there (inr pending) = pending_root name slot h here there pending

no_slot : (o : Option Slot) (slot : Slot) → o ≡ None → o ≡ Some slot → ⊥
no_slot o slot e f = cc

pub no_slots : (s : State) (c : Marks) → AreSlotsGreyTo s c None c
no_slots s c name slot hash f = absurd (cc)

pub slots_more : (s : State) (old c new : Marks) (last : Option RefName) (name : RefName) (slot : Slot) → GreyRoots s old c → AreSlotsGreyTo s old last c → IsNext s.slots last name slot → IsSlotGrey c name slot new
    → GreyRoots s old new × AreSlotsGreyTo s old (Some name) new
slots_more s old c new last name slot roots all next grey = (more, each) where
  none : GreyMore (IsRootNode s old.space [] old.hour) old c
  none = roots []

  more : GreyRoots s old new
  more leased =
      grey_then (IsRootNode s old.space leased old.hour) old c new (roots leased)
      (grey_as_well (λ (o : Link). (name.space ≡ c.space) × (x : IoHash) × (o ≡ object x) × IsObjectOf slot x) (IsRootNode s old.space leased old.hour) c new
      (λ o p. subst (IsRootNode s old.space leased old.hour) (sym p.2) (slot_node s old.space leased old.hour name slot p.1 (p.0 ∙ none.space) next.there p.3)) grey.more)

  before : (other : RefName) (held : Slot) → ref_name_cmp other name ≡ Less → get s.slots other ≡ Some held → (b : Bool) → is_behind last other ≡ b → b ≡ false
  before other held l there true e = absurd (no_slot (get s.slots other) held (next.first other e l) there)
  before other held l there false e = refl

  each : AreSlotsGreyTo s old (Some name) new
  each other held h f here there is known = split (ref_name_cmp name other) refl f where
    split : (o : Ordering) → ref_name_cmp name other ≡ o → is_lt o ≡ false → is_grey new (object h) ≡ true
    split Less e g = absurd (cc)
    split Equal e g =
        let same : name ≡ other = ref_name_exact name other e in
        let slots : slot ≡ held = same_some (get s.slots other) slot held (subst (λ (n : RefName). get s.slots n ≡ Some slot) same next.there) there in
        grey.all h (ap (λ (n : RefName). n.space) same ∙ here ∙ sym none.space) (subst (λ (x : Slot). IsObjectOf x h) (sym slots) is) (known_still (IsRootNode s old.space [] old.hour) old c none h known)
    split Greater e g =
        let l : ref_name_cmp other name ≡ Less = ref_name_total.antisymm other name ∙ ap ordering_reverse e in
        grey.more.grey_still (object h) (all other held h (before other held l there (is_behind last other) refl) here there is known)

pub slots_all : (s : State) (old c : Marks) (last : Option RefName) → AreSlotsGreyTo s old last c → Next s.slots last None → AreSlotsGrey s old c
slots_all s old c last all end name slot h here there is known = all name slot h (looked (is_behind last name) refl) here there is known where
  looked : (b : Bool) → is_behind last name ≡ b → is_behind last name ≡ false
  looked true e = absurd (no_slot (get s.slots name) slot (end name e) there)
  looked false e = e

-- ---- leased blobs

-- the leased blobs as nodes
abbrev leased_nodes : List IoHash → Link → Type 0
leased_nodes leased o = (h : IoHash) × (o ≡ node_of Binary h) × Contains leased h

pub no_leased : (leased : List IoHash) (a : Marks) → AreLeasedGreyTo leased 0 a a
no_leased leased a = record { more = grey_none (λ (o : Link). (h : IoHash) × (o ≡ node_of Binary h) × Contains leased h) a a refl; all = λ k d lt. absurd (omega (arith, lt)) }

pub leased_more : (leased : List IoHash) (i : ℕ) (item : IoHash) (a b c : Marks) → i < length leased → ((d : IoHash) → slice_index_or leased i d ≡ item) → AreLeasedGreyTo leased i a b → IsGreyedIf (knows b item) b (node_of Binary item) c → AreLeasedGreyTo leased (i + 1) a c
leased_more leased i item a b c lt is before g = record {
  more = grey_then (leased_nodes leased) a b c before.more (grey_as_well (λ (o : Link). o ≡ node_of Binary item) (leased_nodes leased) b c (λ o e. (item, e, has)) one);
  all = each;
} where
  has : Contains leased item
  has = subst (Contains leased) (is item) (Contains-get_or leased i item lt)

  one : GreyMore (λ (o : Link). o ≡ node_of Binary item) b c
  one = if_more b c (node_of Binary item) g

  each : (k : ℕ) (d : IoHash) → k < i + 1 → knows a (slice_index_or leased k d) ≡ true → is_grey c (node_of Binary (slice_index_or leased k d)) ≡ true
  each k d below known = split (cases_lt k i) where
    split : (k < i) ⊎ (i ≤ k) → is_grey c (node_of Binary (slice_index_or leased k d)) ≡ true
    split (inl early) = one.grey_still (node_of Binary (slice_index_or leased k d)) (before.all k d early known)
    split (inr late) =
        let last : k ≡ i = omega arith in
        let same : slice_index_or leased k d ≡ item = ap (λ (j : ℕ). slice_index_or leased j d) last ∙ is d in
        subst (λ (h : IoHash). is_grey c (node_of Binary h) ≡ true) (sym same)
        (if_grey b c (node_of Binary item) g (known_still (leased_nodes leased) a b before.more item (subst (λ (h : IoHash). knows a h ≡ true) same known)))

-- ---- all together

module _ (s : State) (space : List ℕ) (leased : List IoHash) (hour : ℕ) (a b c d e : Marks) (at_space : a.space ≡ space) (at_hour : a.hour ≡ hour) (going : a.ended ≡ false)
    (known : AreKnown s a b) (pins : GreyRoots s b c) (all_pins : ArePinnedGrey s b c) (slots : GreyRoots s c d) (all_slots : AreSlotsGrey s c d) (leases : AreLeasedGreyTo leased (length leased) d e) where
  b_space : b.space ≡ space
  b_space = known.white.space ∙ at_space

  b_hour : b.hour ≡ hour
  b_hour = known.white.hour ∙ at_hour

  pins_more : GreyMore (IsRootNode s b.space leased b.hour) b c
  pins_more = pins leased

  slots_grey : GreyMore (IsRootNode s c.space leased c.hour) c d
  slots_grey = slots leased

  at_b : (sp : List ℕ) (h : ℕ) → sp ≡ space → h ≡ hour → (x y : Marks) → GreyMore (IsRootNode s sp leased h) x y → GreyMore (IsRootNode s space leased hour) x y
  at_b sp h es eh x y m = subst (λ (k : ℕ). GreyMore (IsRootNode s space leased k) x y) eh (subst (λ (k : List ℕ). GreyMore (IsRootNode s k leased h) x y) es m)

  leased_node : (o : Link) → (h : IoHash) × (o ≡ node_of Binary h) × Contains leased h → IsRootNode s space leased hour o
  leased_node o p = subst (IsRootNode s space leased hour) (sym p.1) (leased_root p.0 p.2)

  all_more : GreyMore (IsRootNode s space leased hour) b e
  all_more =
      grey_then (IsRootNode s space leased hour) b c e (at_b b.space b.hour b_space b_hour b c pins_more)
      (grey_then (IsRootNode s space leased hour) c d e (at_b c.space c.hour (pins_more.space ∙ b_space) (pins_more.hour ∙ b_hour) c d slots_grey)
      (grey_as_well (λ (o : Link). (h : IoHash) × (o ≡ node_of Binary h) × Contains leased h) (IsRootNode s space leased hour) d e leased_node leases.more))

  -- what is there is known, and stays so
  knows_b : (h : IoHash) → has_blob s space h ≡ true → knows b h ≡ true
  knows_b h t = known.known h ∙ subst (λ (sp : List ℕ). has_blob s sp h ≡ true) (sym at_space) t

  knows_c : (h : IoHash) → has_blob s space h ≡ true → knows c h ≡ true
  knows_c h t = known_still (IsRootNode s b.space leased b.hour) b c pins_more h (knows_b h t)

  knows_d : (h : IoHash) → has_blob s space h ≡ true → knows d h ≡ true
  knows_d h t = known_still (IsRootNode s c.space leased c.hour) c d slots_grey h (knows_c h t)

  c_space : c.space ≡ space
  c_space = pins_more.space ∙ b_space

  slot_grey : (name : RefName) (slot : Slot) (h : IoHash) → name.space ≡ space → get s.slots name ≡ Some slot → IsObjectOf slot h → has_blob s space h ≡ true → is_grey e (object h) ≡ true
  slot_grey name slot h here there is t = leases.more.grey_still (object h) (all_slots name slot h (here ∙ sym c_space) there is (knows_c h t))

  pinned_grey : (h : IoHash) → IsPinnedBlob s space hour h → has_blob s space h ≡ true → is_grey e (object h) ≡ true
  pinned_grey h p t =
      leases.more.grey_still (object h) (slots_grey.grey_still (object h) (all_pins h
      (subst (λ (k : ℕ). IsPinnedBlob s b.space k h) (sym b_hour) (subst (λ (sp : List ℕ). IsPinnedBlob s sp hour h) (sym b_space) p)) (knows_b h t)))

  leased_grey : (h : IoHash) → Contains leased h → has_blob s space h ≡ true → is_grey e (node_of Binary h) ≡ true
  leased_grey h has t =
      subst (λ (x : IoHash). is_grey e (node_of Binary x) ≡ true) has.2
      (leases.all has.0 h has.1 (subst (λ (x : IoHash). knows d x ≡ true) (sym has.2) (knows_d h t)))

  roots_grey : {o : Link} → IsRootNode s space leased hour o → has_blob s space o.hash ≡ true → is_grey e o ≡ true
  roots_grey (done_root name slot h here there done) t = slot_grey name slot h here there (inl done) t
  roots_grey (pending_root name slot h here there pending) t = slot_grey name slot h here there (inr pending) t
  roots_grey (pinned_root row blob h is there pinned) t = pinned_grey h (row, blob, is, there, pinned) t
  roots_grey (leased_root h has) t = leased_grey h has t

  has_if : (h : IoHash) → knows b h ≡ true → has_blob s space h ≡ true
  has_if h t = subst (λ (sp : List ℕ). has_blob s sp h ≡ true) at_space (sym (known.known h) ∙ t)

  only_roots : (o : Link) → (is_grey b o ≡ true) ⊎ (IsRootNode s space leased hour o × (knows b o.hash ≡ true)) → IsRootNode s space leased hour o × (has_blob s space o.hash ≡ true)
  only_roots o (inl g) = let f : is_grey b o ≡ false = known.white.grey o in absurd (cc)
  only_roots o (inr p) = (p.0, has_if o.hash p.1)

  pub begun : IsBegun s space leased hour e
  begun = record {
    its_space = all_more.space ∙ b_space;
    its_hour = all_more.hour ∙ b_hour;
    known = λ h. ap (λ (xs : List IoHash). is_some (number_in xs h)) all_more.hashes ∙ known.known h ∙ ap (λ (sp : List ℕ). has_blob s sp h) at_space;
    marked = λ o. all_more.marked o ∙ known.white.marked o;
    grey = λ o. ((λ g. only_roots o (all_more.grey_new o g)), (λ p. roots_grey p.0 p.1));
    ended = all_more.ended (known.white.ended ∙ going);
  }

pub begun_covers : (s : State) (space : List ℕ) (leased : List IoHash) (hour : ℕ) (c : Marks) → IsBegun s space leased hour c → Covers s leased c
begun_covers s space leased hour c b = record {
  roots = λ o r here. grey_is_safe c o ((b.grey o).1
      (subst (λ (h : ℕ). IsRootNode s space leased h o) b.its_hour (subst (λ (sp : List ℕ). IsRootNode s sp leased c.hour o) b.its_space r), subst (λ (sp : List ℕ). has_blob s sp o.hash ≡ true) b.its_space here));
  links = λ from to marked w leads here. let f : is_marked c from ≡ false = b.marked from in absurd (cc);
}

pub begun_knows : (s : State) (space : List ℕ) (leased : List IoHash) (hour : ℕ) (c : Marks) → IsBegun s space leased hour c → AllKnown s c
begun_knows s space leased hour c b hash here = b.known hash ∙ subst (λ (sp : List ℕ). has_blob s sp hash ≡ true) b.its_space here
