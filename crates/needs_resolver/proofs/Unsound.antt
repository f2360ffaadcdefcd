-- Looking at one reference after another.
use Rattle.std.specs.Prelude.{◌≡◌, ℕ, ◌+◌, ◌≤◌, ◌↔◌, Bool, true, false, ◌||◌, not, cond, IsTrue, List, [], ◌∷◌, Option, None, Some, length, refl}
use Rattle.std.proofs.Common.{ap, sym, ◌∙◌, subst, arith}
use Rattle.std.specs.List.{filter}
use Rattle.std.specs.FinMap.{get, len, find, entries, get-entries}
use Rattle.std.specs.declared.cmp.Ordering.{Ordering}
use Rattle.std.specs.declared.cmp.Ordering.TheVariants.{Less, Equal, Greater}
use Rattle.std.specs.Ordering.{is_eq, is_lt, eq_by_cmp, ordering_reverse, ordering_then}
use Rattle.ddc_names.specs.Orders.{name_cmp, name_exact, name_total, ref_name_cmp, ref_name_total, ref_name_exact}
use Rattle.ddc_names.specs.declared.hash.IoHash.{IoHash}
use Rattle.ddc_names.specs.declared.reference.RefName.{RefName}
use Rattle.ref_store.specs.declared.slot.Slot.{Slot}
use Rattle.ref_store.specs.Slots.{Slots}
use Rattle.ref_store.specs.Nexts.{is_behind, IsNext, Next}
use Rattle.ddc_model.specs.declared.rows.Blob.{Blob}
use Rattle.ddc_model.specs.declared.rows.BlobName.{BlobName}
use Rattle.ddc_model.specs.State.{State}
use Rattle.ddc_model.specs.Closure.{Links, links_in, object, IsWhole, has_hash}
use Rattle.ddc_model.specs.Sound.{AreWhole, IsFirstUnsound}
use Rattle.needs_resolver.specs.Walking.{Met, IsIdle, IsMet, AreRead, one_unmet, unmet, most_reads}
use Rattle.needs_resolver.specs.Unsound.{IsWholeAt, Lacks, AreWholeUpTo, IsIdleAfter, reads_after, count_behind}
use Rattle.needs_resolver.proofs.Meeting.{tied_itself}
use Rattle.needs_resolver.proofs.Reading.{at_most_one, most_at_first, lacks_it, whole_then, idle_then}

-- ---- what is known of the references that were looked at

not_both : {X : Type 0} (o : Option X) (x : X) → o ≡ None → o ≡ Some x → ⊥
not_both o x e f = cc

same_some : {X : Type 0} (o : Option X) (x y : X) → o ≡ Some x → o ≡ Some y → x ≡ y
same_some o x y e f = cc

pub as_told : (given slots : Slots) (after last : Option RefName) (found : Option (RefName × Slot)) → given ≡ slots → after ≡ last → Next given after found → Next slots last found
as_told given slots after last found g a next = subst (λ (m : Slots). Next m last found) g (subst (λ (o : Option RefName). Next given o found) a next)

pub none_yet : (s : State) → AreWholeUpTo s None
none_yet s other slot f there = absurd (cc)

-- what stands before the next reference was looked at
before_next : (s : State) (last : Option RefName) (name : RefName) (slot : Slot) → IsNext s.slots last name slot → AreWholeUpTo s last → (other : RefName) (held : Slot) → ref_name_cmp other name ≡ Less → get s.slots other ≡ Some held → IsWholeAt s other held
before_next s last name slot next whole other held l there = split (is_behind last other) refl where
  split : (b : Bool) → is_behind last other ≡ b → IsWholeAt s other held
  split true t = absurd (not_both (get s.slots other) held (next.first other t l) there)
  split false f = whole other held f there

pub one_more : (s : State) (last : Option RefName) (name : RefName) (slot : Slot) → IsNext s.slots last name slot → AreWholeUpTo s last → IsWholeAt s name slot → AreWholeUpTo s (Some name)
one_more s last name slot next whole here other held f there = split (ref_name_cmp name other) refl f where
  split : (o : Ordering) → ref_name_cmp name other ≡ o → is_lt o ≡ false → IsWholeAt s other held
  split Less e g = absurd (cc)
  split Equal e g =
      let same : name ≡ other = ref_name_exact name other e in
      let slots : slot ≡ held = same_some (get s.slots other) slot held (subst (λ (n : RefName). get s.slots n ≡ Some slot) same next.there) there in
      subst (IsWholeAt s other) slots (subst (λ (n : RefName). IsWholeAt s n slot) same here)
  split Greater e g = before_next s last name slot next whole other held (ref_name_total.antisymm other name ∙ ap ordering_reverse e) there

pub found_first : (s : State) (last : Option RefName) (name : RefName) (slot : Slot) → IsNext s.slots last name slot → AreWholeUpTo s last → Lacks s name slot true → IsFirstUnsound s name
found_first s last name slot next whole lacks = record {
  slot = slot;
  hash = lacks.0;
  there = next.there;
  done = lacks.1;
  lacks = lacks.2;
  first = λ other held hash l there done. before_next s last name slot next whole other held l there hash done;
}

pub all_whole : (s : State) (last : Option RefName) → Next s.slots last None → AreWholeUpTo s last → AreWhole s
all_whole s last none whole other slot hash there done = split (is_behind last other) refl where
  split : (b : Bool) → is_behind last other ≡ b → IsWhole (links_in s other.space) hash
  split true t = absurd (not_both (get s.slots other) slot (none other t) there)
  split false f = whole other slot f there hash done

-- ---- how many references are left

is_less : (o : Ordering) → is_lt o ≡ true → o ≡ Less
is_less Less h = refl
is_less Equal h = absurd (cc)
is_less Greater h = absurd (cc)

is_same : (o : Ordering) → is_eq o ≡ true → o ≡ Equal
is_same Less h = absurd (cc)
is_same Equal h = refl
is_same Greater h = absurd (cc)

further : (last : Option RefName) (name x : RefName) → is_behind last name ≡ true → is_behind (Some name) x ≡ true → is_behind last x ≡ true
further None name x t u = refl
further (Some before) name x t u = ap is_lt (ref_name_total.trans before name x (is_less _ t) (is_less _ u))

abbrev listed : Option RefName → List (RefName × Slot) → List (RefName × Slot)
listed last es = filter (λ e. is_behind last e.0) es

one_kept : (a b : Bool) (e : RefName × Slot) (xs ys : List (RefName × Slot)) → (a ≡ true → b ≡ true) → length xs ≤ length ys → length (cond a (e ∷ xs) xs) ≤ length (cond b (e ∷ ys) ys)
one_kept true true e xs ys f l = omega arith
one_kept true false e xs ys f l = let g : false ≡ true = f refl in absurd (cc)
one_kept false true e xs ys f l = omega arith
one_kept false false e xs ys f l = l

no_more : (last : Option RefName) (name : RefName) (es : List (RefName × Slot)) → is_behind last name ≡ true → length (listed (Some name) es) ≤ length (listed last es)
no_more last name [] t = omega arith
no_more last name (e ∷ es) t = one_kept (is_behind (Some name) e.0) (is_behind last e.0) e (listed (Some name) es) (listed last es) (further last name e.0 t) (no_more last name es t)

one_gone : (a b : Bool) (e : RefName × Slot) (xs ys : List (RefName × Slot)) → a ≡ false → b ≡ true → length xs ≤ length ys → length (cond a (e ∷ xs) xs) + 1 ≤ length (cond b (e ∷ ys) ys)
one_gone true b e xs ys f t l = absurd (cc)
one_gone false true e xs ys f t l = omega arith
one_gone false false e xs ys f t l = absurd (cc)

still_less : (a b : Bool) (e : RefName × Slot) (xs ys : List (RefName × Slot)) → (a ≡ true → b ≡ true) → length xs + 1 ≤ length ys → length (cond a (e ∷ xs) xs) + 1 ≤ length (cond b (e ∷ ys) ys)
still_less true true e xs ys f l = omega arith
still_less true false e xs ys f l = let g : false ≡ true = f refl in absurd (cc)
still_less false true e xs ys f l = omega arith
still_less false false e xs ys f l = l

here_or_later : (last : Option RefName) (name : RefName) (slot : Slot) (e : RefName × Slot) (es : List (RefName × Slot)) (b : Bool) → eq_by_cmp ref_name_cmp name e.0 ≡ b → is_behind last name ≡ true
    → (find ref_name_cmp name es ≡ Some slot → length (listed (Some name) es) + 1 ≤ length (listed last es)) → cond b (Some e.1) (find ref_name_cmp name es) ≡ Some slot
    → length (listed (Some name) (e ∷ es)) + 1 ≤ length (listed last (e ∷ es))
here_or_later last name slot e es true s t later found =
    let tied : ref_name_cmp name e.0 ≡ Equal = is_same _ s in
    one_gone (is_behind (Some name) e.0) (is_behind last e.0) e (listed (Some name) es) (listed last es) (ap is_lt tied) (subst (λ (n : RefName). is_behind last n ≡ true) (ref_name_exact name e.0 tied) t) (no_more last name es t)
here_or_later last name slot e es false s t later found =
    still_less (is_behind (Some name) e.0) (is_behind last e.0) e (listed (Some name) es) (listed last es) (further last name e.0 t) (later found)

fewer_listed : (last : Option RefName) (name : RefName) (slot : Slot) (es : List (RefName × Slot)) → is_behind last name ≡ true → find ref_name_cmp name es ≡ Some slot → length (listed (Some name) es) + 1 ≤ length (listed last es)
fewer_listed last name slot [] t there = absurd (cc)
fewer_listed last name slot (e ∷ es) t there = here_or_later last name slot e es (eq_by_cmp ref_name_cmp name e.0) refl t (fewer_listed last name slot es t) there

pub fewer : (slots : Slots) (last : Option RefName) (name : RefName) (slot : Slot) → IsNext slots last name slot → count_behind slots (Some name) + 1 ≤ count_behind slots last
fewer slots last name slot next = fewer_listed last name slot (entries slots) next.behind (sym (get-entries slots name) ∙ next.there)

-- ---- what the walk tells

module _ (s : State) (name : RefName) (slot : Slot) (root : IoHash) (old begun ended : Met) (done : slot.done ≡ Some root) (idle : IsIdle (links_in s name.space) old)
    (met : IsMet (links_in s name.space) (object root) old begun) (read : AreRead (links_in s name.space) begun ended) (none_ahead : ended.work ≡ []) where
  abbrev base : Links
  base = links_in s name.space

  -- where no absent hash was met
  whole_at : ((h : IoHash) → ended.absent h ≡ false) → IsWholeAt s name slot
  whole_at none hash e = subst (IsWhole base) (same_some slot.done root hash done e) (whole_then base root old begun ended idle met read none_ahead none)

  pub walk_tells : (keys : List IoHash) (b : Bool) → ((h : IoHash) → ended.absent h ≡ has_hash keys h) → (IsTrue b ↔ (length keys ≡ 0)) → Lacks s name slot (not b)
  walk_tells [] true is empty = whole_at is
  walk_tells [] false is empty = let no : false ≡ true = empty.1 refl in absurd (cc)
  walk_tells (x ∷ xs) true is empty = absurd (omega (arith, empty.0 refl))
  walk_tells (x ∷ xs) false is empty = (root, done, lacks_it base root old begun ended idle met read none_ahead x (is x ∙ ap (λ (b : Bool). b || has_hash xs x) (tied_itself x)))

  pub walk_goes_on : (keys : List IoHash) (b : Bool) → ((h : IoHash) → ended.absent h ≡ has_hash keys h) → (IsTrue b ↔ (length keys ≡ 0)) → not b ≡ false → IsIdle base ended
  walk_goes_on [] b is empty f = idle_then base root old begun ended idle met read none_ahead is
  walk_goes_on (x ∷ xs) true is empty f = absurd (omega (arith, empty.0 refl))
  walk_goes_on (x ∷ xs) false is empty f = absurd (cc)

-- ---- from one namespace to the next

pub same_space : (s : State) (last : RefName) (space : List ℕ) (met : Met) → name_cmp last.space space ≡ Equal → IsIdleAfter s (Some last) met → IsIdle (links_in s space) met
same_space s last space met e idle = subst (λ (t : List ℕ). IsIdle (links_in s t) met) (name_exact last.space space e) idle

-- ---- how many objects are read

abbrev Test : Type 0
Test = IoHash → Bool

space_before : (a b : Ordering) → ordering_then a b ≡ Less → (a ≡ Equal → ⊥) → a ≡ Less
space_before Less b l other = refl
space_before Equal b l other = absurd (other refl)
space_before Greater b l other = absurd (cc)

-- a blob of a namespace, or of one after it, stands after the namespaces before
one_later : (before space : List ℕ) (seen fresh : Test) (name : BlobName) (o : Ordering) → name_cmp before space ≡ Less → name_cmp space name.space ≡ o → one_unmet o (fresh name.hash) ≤ one_unmet (name_cmp before name.space) (seen name.hash)
one_later before space seen fresh name Less l e = subst (λ (o : Ordering). 1 ≤ one_unmet o (seen name.hash)) (sym (name_total.trans before space name.space l e)) (omega arith)
one_later before space seen fresh name Equal l e =
    subst (λ (o : Ordering). one_unmet Equal (fresh name.hash) ≤ one_unmet o (seen name.hash)) (sym (subst (λ (t : List ℕ). name_cmp before t ≡ Less) (name_exact space name.space e) l)) (at_most_one Equal (fresh name.hash))
one_later before space seen fresh name Greater l e = omega arith

unmet_later : (before space : List ℕ) (seen fresh : Test) (es : List (BlobName × Blob)) → name_cmp before space ≡ Less → unmet space fresh es ≤ unmet before seen es
unmet_later before space seen fresh [] l = omega arith
unmet_later before space seen fresh (e ∷ es) l =
    let here : one_unmet (name_cmp space e.0.space) (fresh e.0.hash) ≤ one_unmet (name_cmp before e.0.space) (seen e.0.hash) = one_later before space seen fresh e.0 (name_cmp space e.0.space) l refl in
    let rest : unmet space fresh es ≤ unmet before seen es = unmet_later before space seen fresh es l in
    omega arith

-- a walk that begins in a later namespace
pub later_space : (s : State) (before name : RefName) (old new : Met) → is_behind (Some before) name ≡ true → (name_cmp before.space name.space ≡ Equal → ⊥) → new.work ≡ [] → most_reads s name.space new ≤ most_reads s before.space old
later_space s before name old new behind other none =
    let unread : length new.work ≡ 0 = ap (λ (xs : List IoHash). length xs) none in
    let less : unmet name.space new.seen (entries s.blobs) ≤ unmet before.space old.seen (entries s.blobs) = unmet_later before.space name.space old.seen new.seen (entries s.blobs) (space_before _ _ (is_less _ behind) other) in
    omega arith

-- the walk goes on in its namespace
pub same_left : (s : State) (last : RefName) (space : List ℕ) (met : Met) → name_cmp last.space space ≡ Equal → most_reads s space met ≤ most_reads s last.space met
same_left s last space met e = subst (λ (t : List ℕ). most_reads s t met ≤ most_reads s last.space met) (name_exact last.space space e) (omega arith)

-- a walk that has met nothing absent can begin at any reference
pub first_left : (s : State) (space : List ℕ) (met : Met) → met.work ≡ [] → most_reads s space met ≤ len s.blobs
first_left = most_at_first

module _ (s at : State) (last : Option RefName) (name : RefName) (old begun : Met) (start before after : ℕ) (same : at ≡ s) (counted : before + reads_after s last old ≤ start + len s.blobs)
    (left : most_reads s name.space begun ≤ reads_after s last old) where
  -- where a reference is looked at
  pub counted_then : after ≤ before + most_reads at name.space begun → after ≤ start + len s.blobs
  counted_then more = let here : after ≤ before + most_reads s name.space begun = subst (λ (t : State). after ≤ before + most_reads t name.space begun) same more in omega arith

  pub counted_after : (ended : Met) → after + most_reads at name.space ended ≤ before + most_reads at name.space begun → after + most_reads s name.space ended ≤ start + len s.blobs
  counted_after ended more =
      let here : after + most_reads s name.space ended ≤ before + most_reads s name.space begun = subst (λ (t : State). after + most_reads t name.space ended ≤ before + most_reads t name.space begun) same more in
      omega arith
