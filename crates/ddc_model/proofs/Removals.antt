-- What is left where references or blobs are taken away.
use Rattle.std.specs.Prelude.{◌≡◌, ℕ, zero, suc, ◌+◌, ◌-◌, ◌^◌, ◌≤◌, ◌<◌, true, ◌&&◌, List, [], ◌∷◌, length, Option, None, Some, is_some, slice_index_or, ◌⊎◌, refl}
use Rattle.std.proofs.Common.{ap, sym, ◌∙◌, subst, inl, inr, arith}
use Rattle.std.proofs.lemmas.Bool.{and_parts, and_from, leb-true, le-leb}
use Rattle.std.specs.FinMap.{FinMap, get, remove}
use Rattle.std.specs.Cmp.{IsTotalOrder, tied_itself}
use Rattle.std.specs.List.{Contains}
use Rattle.std.specs.Ordering.{is_lt}
use Rattle.std.specs.declared.cmp.Ordering.{Ordering}
use Rattle.std.specs.declared.cmp.Ordering.TheVariants.{Less, Equal, Greater}
use Rattle.std.proofs.lemmas.Map.Lookups.{CmpEqualImpliesEq}
use Rattle.ddc_names.specs.Orders.{io_hash_cmp, io_hash_total, name_cmp, ref_name_exact, ref_name_total, spot_cmp, spot_total}
use Rattle.ddc_names.specs.declared.hash.IoHash.{IoHash}
use Rattle.ddc_names.specs.declared.reference.RefName.{RefName}
use Rattle.ddc_names.specs.declared.reference.RefSpot.{RefSpot}
use Rattle.ref_store.specs.declared.slot.Slot.{Slot}
use Rattle.ref_store.specs.Slots.{Slots}
use Rattle.replication_log.specs.Logs.{Log}
use Rattle.ddc_model.specs.declared.rows.BlobName.{BlobName}
use Rattle.ddc_model.specs.declared.entry.Entry.TheVariants.{Space, Upload, Repin, Put, Finalise, Delete, Touch, Expire, Swept, Cursor, BaseHour, BaseSlot, BaseEvent}
use Rattle.ddc_model.specs.Keys.{blob_cmp, blob_exact, blob_total}
use Rattle.ddc_model.specs.State.{State, blob_name, done_of, has_blob, has_space, log_of}
use Rattle.ddc_model.specs.Entries.{ascends, ascends_after, count_all_deleted, count_deleted, fits_state, has_blobs, has_room_for_events, has_slots, legal, name_at, with_touch, without_blob, without_hashes, without_slot, without_slots}
use Rattle.ddc_model.specs.Laws.{ExpireRemoves, ExpireKeepsOthers, SweptRemoves, SweptKeepsOthers, LeavesBlobsAlone}
use Rattle.ddc_model.proofs.Maps.{get_removed, get_left, same_or_not}
use Rattle.ddc_model.proofs.Events.{added_any, deleted_any, deleted_last}

-- ---- members of lists

first_in : {X : Type 0} (x : X) (xs : List X) → Contains (x ∷ xs) x
first_in x xs = (0, omega arith, refl)

later_in : {X : Type 0} (x y : X) (xs : List X) → Contains xs y → Contains (x ∷ xs) y
later_in x y xs within = let below = within.1 in (suc within.0, omega arith, within.2)

in_cases : {X : Type 0} (x y : X) (xs : List X) → Contains (x ∷ xs) y → (x ≡ y) ⊎ Contains xs y
in_cases x y xs within = split within.0 within.1 within.2 where
  split : (k : ℕ) → k < length (x ∷ xs) → slice_index_or (x ∷ xs) k y ≡ y → (x ≡ y) ⊎ Contains xs y
  split zero below is = inl is
  split (suc k) below is = inr (k, omega arith, is)

none_in : {X : Type 0} (x : X) → Contains [] x → ⊥
none_in x within = let below = within.1 in absurd (omega arith)

-- what was absent is absent after a removal
module _ {K : Type 0} {R : K → K → Ordering} (total : IsTotalOrder R) (exact : CmpEqualImpliesEq R) where
  pub still_none : {X : Type 0} (m : FinMap R X) (k q : K) → get m q ≡ None → get (remove m k) q ≡ None
  still_none m k q none = split (same_or_not total exact q k) where
    split : (q ≡ k) ⊎ (q ≡ k → ⊥) → get (remove m k) q ≡ None
    split (inl same) = ap (get (remove m k)) same ∙ get_removed total exact m k
    split (inr differs) = get_left total exact m k q differs ∙ none

-- ---- blobs

module _ {X : Type 0} (space : List ℕ) where
  -- those that aren't named stay
  pub hash_away : (all : FinMap blob_cmp X) (hashes : List IoHash) (name : BlobName) → (name.space ≡ space → ¬ Contains hashes name.hash) → get (without_hashes all space hashes) name ≡ get all name
  hash_away all [] name apart = refl
  hash_away all (hash ∷ hashes) name apart =
      hash_away (remove all (blob_name space hash)) hashes name (λ here within. apart here (later_in hash name.hash hashes within))
      ∙ get_left blob_total blob_exact all (blob_name space hash) name
      (λ same. apart (ap (λ (n : BlobName). n.space) same) (subst (Contains (hash ∷ hashes)) (ap (λ (n : BlobName). n.hash) (sym same)) (first_in hash hashes)))

  -- what was absent stays absent
  none_of_hashes : (all : FinMap blob_cmp X) (hashes : List IoHash) (name : BlobName) → get all name ≡ None → get (without_hashes all space hashes) name ≡ None
  none_of_hashes all [] name none = none
  none_of_hashes all (hash ∷ hashes) name none = none_of_hashes (remove all (blob_name space hash)) hashes name (still_none blob_total blob_exact all (blob_name space hash) name none)

  -- those that are named go
  pub hash_gone : (all : FinMap blob_cmp X) (hashes : List IoHash) (hash : IoHash) → Contains hashes hash → get (without_hashes all space hashes) (blob_name space hash) ≡ None
  hash_gone all [] hash within = absurd (none_in hash within)
  hash_gone all (first ∷ hashes) hash within = split (hash_gone (remove all (blob_name space first)) hashes hash) (in_cases first hash hashes within) where
    split : (Contains hashes hash → get (without_hashes (remove all (blob_name space first)) space hashes) (blob_name space hash) ≡ None)
        → (first ≡ hash) ⊎ Contains hashes hash → get (without_hashes (remove all (blob_name space first)) space hashes) (blob_name space hash) ≡ None
    split rest (inl same) =
        none_of_hashes (remove all (blob_name space first)) hashes (blob_name space hash)
        (subst (λ (h : IoHash). get (remove all (blob_name space first)) (blob_name space h) ≡ None) same (get_removed blob_total blob_exact all (blob_name space first)))
    split rest (inr later) = rest later

-- ---- references

pub slots_without : (s : State) (name : RefName) → (without_slot s name).slots ≡ remove s.slots name
slots_without s name = deleted_any (λ (t : State). t.slots ≡ remove s.slots name) (record s { slots = remove s.slots name }) (λ logs. refl) name (done_of (get s.slots name))

-- what holds whatever the references and the logs are holds once references are taken away
pub without_any : (P : State → Type 0) (s : State) (space : List ℕ) (spots : List RefSpot) → ((slots : Slots) (logs : FinMap name_cmp Log) → P (record s { slots = slots; logs = logs })) → P (without_slots s space spots)
without_any P s space [] any = any s.slots s.logs
without_any P s space (spot ∷ spots) any =
    let name = name_at space spot in
    without_any P (without_slot s name) space spots
    (λ slots logs. deleted_any (λ (t : State). P (record t { slots = slots; logs = logs })) (record s { slots = remove s.slots name }) (λ some. any slots logs) name (done_of (get s.slots name)))

module _ (space : List ℕ) where
  -- those that aren't named stay
  pub slot_away : (s : State) (spots : List RefSpot) (name : RefName) → (name.space ≡ space → ¬ Contains spots name.spot) → get (without_slots s space spots).slots name ≡ get s.slots name
  slot_away s [] name apart = refl
  slot_away s (spot ∷ spots) name apart =
      slot_away (without_slot s (name_at space spot)) spots name (λ here within. apart here (later_in spot name.spot spots within))
      ∙ ap (λ (slots : Slots). get slots name) (slots_without s (name_at space spot))
      ∙ get_left ref_name_total ref_name_exact s.slots (name_at space spot) name
      (λ same. apart (ap (λ (n : RefName). n.space) same) (subst (Contains (spot ∷ spots)) (ap (λ (n : RefName). n.spot) (sym same)) (first_in spot spots)))

  none_of_spots : (s : State) (spots : List RefSpot) (name : RefName) → get s.slots name ≡ None → get (without_slots s space spots).slots name ≡ None
  none_of_spots s [] name none = none
  none_of_spots s (spot ∷ spots) name none =
      none_of_spots (without_slot s (name_at space spot)) spots name
      (ap (λ (slots : Slots). get slots name) (slots_without s (name_at space spot)) ∙ still_none ref_name_total ref_name_exact s.slots (name_at space spot) name none)

  -- those that are named go
  pub slot_gone : (s : State) (spots : List RefSpot) (spot : RefSpot) → Contains spots spot → get (without_slots s space spots).slots (name_at space spot) ≡ None
  slot_gone s [] spot within = absurd (none_in spot within)
  slot_gone s (first ∷ spots) spot within = split (slot_gone (without_slot s (name_at space first)) spots spot) (in_cases first spot spots within) where
    split : (Contains spots spot → get (without_slots (without_slot s (name_at space first)) space spots).slots (name_at space spot) ≡ None)
        → (first ≡ spot) ⊎ Contains spots spot → get (without_slots (without_slot s (name_at space first)) space spots).slots (name_at space spot) ≡ None
    split rest (inl same) =
        none_of_spots (without_slot s (name_at space first)) spots (name_at space spot)
        (ap (λ (slots : Slots). get slots (name_at space spot)) (slots_without s (name_at space first))
        ∙ subst (λ (at : RefSpot). get (remove s.slots (name_at space first)) (name_at space at) ≡ None) same (get_removed ref_name_total ref_name_exact s.slots (name_at space first)))
    split rest (inr later) = rest later

-- ---- what ascends has nothing twice

less : (o : Ordering) → is_lt o ≡ true → o ≡ Less
less Less e = refl
less Equal e = absurd (cc)
less Greater e = absurd (cc)

module _ {A : Type 0} {R : A → A → Ordering} (total : IsTotalOrder R) where
  below_members : (a : A) (xs : List A) → ascends_after R a xs ≡ true → (x : A) → Contains xs x → R a x ≡ Less
  below_members a [] up x within = absurd (none_in x within)
  below_members a (b ∷ bs) up x within = split (below_members b bs parts.1 x) (in_cases b x bs within) where
    parts : (is_lt (R a b) ≡ true) × (ascends_after R b bs ≡ true)
    parts = and_parts (is_lt (R a b)) (ascends_after R b bs) up

    split : (Contains bs x → R b x ≡ Less) → (b ≡ x) ⊎ Contains bs x → R a x ≡ Less
    split rest (inl same) = subst (λ (y : A). R a y ≡ Less) same (less (R a b) parts.0)
    split rest (inr later) = total.trans a b x (less (R a b) parts.0) (rest later)

  pub not_twice : (a : A) (xs : List A) → ascends R (a ∷ xs) ≡ true → ¬ Contains xs a
  not_twice a xs up within = let no : Equal ≡ Less = sym (tied_itself total a) ∙ below_members a xs up a within in cc

  pub ascends_on : (a : A) (xs : List A) → ascends R (a ∷ xs) ≡ true → ascends R xs ≡ true
  ascends_on a [] up = refl
  ascends_on a (b ∷ bs) up = (and_parts (is_lt (R a b)) (ascends_after R b bs) up).1

-- ---- a legal removal goes on step by step

part_fits : (l a b m : ℕ) → l + (a + b) ≤ m → l + a ≤ m
part_fits l a b m h = omega arith

rest_fits : (l a b m now count : ℕ) → now ≡ l + a → count ≡ b → l + (a + b) ≤ m → now + count ≤ m
rest_fits l a b m now count e f h = omega arith

module _ (s : State) (space : List ℕ) (spot : RefSpot) where
  abbrev its_name : RefName
  its_name = name_at space spot

  abbrev left : State
  left = without_slot s its_name

  still_here : (other : RefSpot) → ¬ (other ≡ spot) → get left.slots (name_at space other) ≡ get s.slots (name_at space other)
  still_here other differs =
      ap (λ (slots : Slots). get slots (name_at space other)) (slots_without s its_name)
      ∙ get_left ref_name_total ref_name_exact s.slots its_name (name_at space other) (λ same. differs (ap (λ (n : RefName). n.spot) same))

  differs_from : (other : RefSpot) (others : List RefSpot) → ¬ Contains (other ∷ others) spot → ¬ (other ≡ spot)
  differs_from other others apart same = apart (subst (Contains (other ∷ others)) same (first_in other others))

  same_there : (others : List RefSpot) → ¬ Contains others spot → has_slots left space others ≡ has_slots s space others
  same_there [] apart = refl
  same_there (other ∷ others) apart =
      let here = still_here other (differs_from other others apart) in
      let rest = same_there others (λ within. apart (later_in other spot others within)) in
      λ i. is_some (here i) && rest i

  same_count : (others : List RefSpot) → ¬ Contains others spot → count_all_deleted left space others ≡ count_all_deleted s space others
  same_count [] apart = refl
  same_count (other ∷ others) apart =
      let here = still_here other (differs_from other others apart) in
      let rest = same_count others (λ within. apart (later_in other spot others within)) in
      λ i. count_deleted (done_of (here i)) + rest i

  same_space : has_space left space ≡ has_space s space
  same_space = deleted_any (λ (t : State). has_space t space ≡ has_space s space) (record s { slots = remove s.slots its_name }) (λ logs. refl) its_name (done_of (get s.slots its_name))

  abbrev old : Option IoHash
  old = done_of (get s.slots its_name)

  abbrev last : ℕ
  last = (log_of s space).last

  -- where it is legal that references expire, the first may be taken away, and then the others may expire
  pub expire_goes_on : (spots : List RefSpot) (hour : ℕ) → legal s (Expire space (spot ∷ spots) hour) ≡ true → (legal s (Delete its_name hour) ≡ true) × (legal left (Expire space spots hour) ≡ true)
  expire_goes_on spots hour is = (first, others) where
    parts : (has_room_for_events s (Expire space (spot ∷ spots) hour) ≡ true) × (fits_state s (Expire space (spot ∷ spots) hour) ≡ true)
    parts = and_parts (has_room_for_events s (Expire space (spot ∷ spots) hour)) (fits_state s (Expire space (spot ∷ spots) hour)) is

    room : last + (count_deleted old + count_all_deleted s space spots) ≤ 2 ^ 64 - 1
    room = leb-true (last + (count_deleted old + count_all_deleted s space spots)) (2 ^ 64 - 1) parts.0

    fits : ((has_space s space && ascends spot_cmp (spot ∷ spots)) ≡ true) × (has_slots s space (spot ∷ spots) ≡ true)
    fits = and_parts (has_space s space && ascends spot_cmp (spot ∷ spots)) (has_slots s space (spot ∷ spots)) parts.1

    known : (has_space s space ≡ true) × (ascends spot_cmp (spot ∷ spots) ≡ true)
    known = and_parts (has_space s space) (ascends spot_cmp (spot ∷ spots)) fits.0

    there : (is_some (get s.slots its_name) ≡ true) × (has_slots s space spots ≡ true)
    there = and_parts (is_some (get s.slots its_name)) (has_slots s space spots) fits.1

    once : ¬ Contains spots spot
    once = not_twice spot_total spot spots known.1

    first : legal s (Delete its_name hour) ≡ true
    first =
        and_from _ _ (le-leb (last + count_deleted old) (2 ^ 64 - 1) (part_fits last (count_deleted old) (count_all_deleted s space spots) (2 ^ 64 - 1) room))
        (and_from _ _ known.0 there.0)

    rises : (log_of left space).last ≡ last + count_deleted old
    rises = deleted_last (record s { slots = remove s.slots its_name }) its_name old

    others : legal left (Expire space spots hour) ≡ true
    others =
        and_from _ _
        (le-leb ((log_of left space).last + count_all_deleted left space spots) (2 ^ 64 - 1)
        (rest_fits last (count_deleted old) (count_all_deleted s space spots) (2 ^ 64 - 1) (log_of left space).last (count_all_deleted left space spots) rises (same_count spots once) room))
        (and_from _ _ (and_from _ _ (same_space ∙ known.0) (ascends_on spot_total spot spots known.1)) (same_there spots once ∙ there.1))

-- and so of a sweep
pub sweep_goes_on : (s : State) (space : List ℕ) (hash : IoHash) (hashes : List IoHash) → legal s (Swept space (hash ∷ hashes)) ≡ true
    → (has_blob s space hash ≡ true) × (legal (without_blob s space hash) (Swept space hashes) ≡ true)
sweep_goes_on s space hash hashes is = (there.0, and_from _ _ (and_from _ _ known.0 (ascends_on io_hash_total hash hashes known.1)) (still hashes (not_twice io_hash_total hash hashes known.1) ∙ there.1)) where
  fits : ((has_space s space && ascends io_hash_cmp (hash ∷ hashes)) ≡ true) × (has_blobs s space (hash ∷ hashes) ≡ true)
  fits = and_parts (has_space s space && ascends io_hash_cmp (hash ∷ hashes)) (has_blobs s space (hash ∷ hashes)) is

  known : (has_space s space ≡ true) × (ascends io_hash_cmp (hash ∷ hashes) ≡ true)
  known = and_parts (has_space s space) (ascends io_hash_cmp (hash ∷ hashes)) fits.0

  there : (has_blob s space hash ≡ true) × (has_blobs s space hashes ≡ true)
  there = and_parts (has_blob s space hash) (has_blobs s space hashes) fits.1

  still : (others : List IoHash) → ¬ Contains others hash → has_blobs (without_blob s space hash) space others ≡ has_blobs s space others
  still [] apart = refl
  still (other ∷ others) apart =
      let here = get_left blob_total blob_exact s.blobs (blob_name space hash) (blob_name space other) (λ same. apart (subst (Contains (other ∷ others)) (ap (λ (n : BlobName). n.hash) same) (first_in other others))) in
      let rest = still others (λ within. apart (later_in other hash others within)) in
      λ i. is_some (here i) && rest i

-- ---- the laws

pub expire_removes : ExpireRemoves
expire_removes s space spots hour spot within = slot_gone space s spots spot within

pub expire_others : ExpireKeepsOthers
expire_others s space spots hour name apart = slot_away space s spots name apart

pub swept_removes : SweptRemoves
swept_removes s all space hashes hash within = (hash_gone space s.blobs hashes hash within, hash_gone space all hashes hash within)

pub swept_others : SweptKeepsOthers
swept_others s all space hashes name apart = (hash_away space s.blobs hashes name apart, hash_away space all hashes name apart)

touched_alone : (s : State) (name : RefName) (hour : ℕ) (found : Option Slot) → (with_touch s name hour found).blobs ≡ s.blobs
touched_alone s name hour None = refl
touched_alone s name hour (Some slot) = refl

pub blobs_alone : LeavesBlobsAlone
blobs_alone s all (Space space ttl pin) bytes leaves = (refl, refl)
blobs_alone s all (Upload space hour blob) bytes leaves = absurd leaves
blobs_alone s all (Repin space hash hour) bytes leaves = absurd leaves
blobs_alone s all (Put name root fresh whole hour) bytes leaves = absurd leaves
blobs_alone s all (Finalise name hash hour) bytes leaves = (added_any (λ (t : State). t.blobs ≡ s.blobs) s (λ logs. refl) name (done_of (get s.slots name)) hash, refl)
blobs_alone s all (Delete name hour) bytes leaves = (deleted_any (λ (t : State). t.blobs ≡ s.blobs) (record s { slots = remove s.slots name }) (λ logs. refl) name (done_of (get s.slots name)), refl)
blobs_alone s all (Touch name hour) bytes leaves = (touched_alone s name hour (get s.slots name), refl)
blobs_alone s all (Expire space spots hour) bytes leaves = (without_any (λ (t : State). t.blobs ≡ s.blobs) s space spots (λ slots logs. refl), refl)
blobs_alone s all (Swept space hashes) bytes leaves = absurd leaves
blobs_alone s all (Cursor space cursor) bytes leaves = (refl, refl)
blobs_alone s all (BaseHour hour) bytes leaves = (refl, refl)
blobs_alone s all (BaseSlot name finalised pending seen) bytes leaves = (refl, refl)
blobs_alone s all (BaseEvent name number op) bytes leaves = (refl, refl)
