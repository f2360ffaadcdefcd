-- References that are taken away together: the events that are noted, and then what is left.
use Rattle.std.specs.Prelude.{◌≡◌, ℕ, ◌+◌, true, List, [], ◌∷◌, length, Option, None, Some, refl}
use Rattle.std.proofs.Common.{ap, sym, ◌∙◌, arith}
use Rattle.std.proofs.lemmas.Bool.{and_parts}
use Rattle.std.proofs.lemmas.Cmp.{tied_itself}
use Rattle.std.specs.declared.cmp.Ordering.{Ordering}
use Rattle.std.specs.declared.cmp.Ordering.TheVariants.{Less, Equal}
use Rattle.std.specs.Ordering.{is_lt}
use Rattle.std.specs.FinMap.{FinMap, get, insert, remove}
use Rattle.ddc_names.specs.Orders.{name_cmp, spot_cmp, spot_total, ref_name_total, ref_name_exact}
use Rattle.ddc_names.specs.declared.hash.IoHash.{IoHash}
use Rattle.ddc_names.specs.declared.reference.RefName.{RefName}
use Rattle.ddc_names.specs.declared.reference.RefSpot.{RefSpot}
use Rattle.ref_store.specs.declared.slot.Slot.{Slot}
use Rattle.ref_store.specs.Slots.{Slots}
use Rattle.replication_log.specs.declared.event.EventOp.TheVariants.{Deleted}
use Rattle.replication_log.specs.Logs.{Log, with_event}
use Rattle.ddc_model.specs.State.{State, done_of, log_of}
use Rattle.ddc_model.specs.Entries.{ascends, ascends_after, name_at, count_deleted, count_all_deleted, noted_deleted, with_noted, without_slots}
use Rattle.ddc_model.proofs.Maps.{get_left}
use Rattle.ddc_state.specs.inside.Noted.{with_deletions}
use Rattle.ddc_state.specs.inside.Expired.{where_served, served_of, without_spots}
use Rattle.ddc_state.proofs.Ascending.{is_less, ascends_rest, ascends_before}
use Rattle.ddc_state.proofs.Logging.{deletions_after}

-- a spot isn't before itself
not_before : (a b : RefSpot) → is_lt (spot_cmp a b) ≡ true → b ≡ a → ⊥
not_before a b l same =
    let before : spot_cmp a b ≡ Less = is_less (spot_cmp a b) l in
    let tied : spot_cmp a b ≡ Equal = ap (spot_cmp a) same ∙ tied_itself spot_total a in
    absurd (let no : ◌≡◌ {A = Ordering} Less Equal = sym before ∙ tied in cc)

module _ (space : List ℕ) where
  -- what stands after a reference serves the same without it
  served_same : (slots : Slots) (spot : RefSpot) (spots : List RefSpot) → ascends_after spot_cmp spot spots ≡ true → served_of (remove slots (name_at space spot)) space spots ≡ served_of slots space spots
  served_same slots spot [] h = refl
  served_same slots spot (q ∷ qs) h =
      let parts = and_parts (is_lt (spot_cmp spot q)) (ascends_after spot_cmp q qs) h in
      let there : get (remove slots (name_at space spot)) (name_at space q) ≡ get slots (name_at space q) =
      get_left ref_name_total ref_name_exact slots (name_at space spot) (name_at space q) (λ same. not_before spot q parts.0 (ap (λ (name : RefName). name.spot) same)) in
      ap (λ (o : Option Slot). where_served (done_of o) q (served_of (remove slots (name_at space spot)) space qs)) there
      ∙ ap (where_served (done_of (get slots (name_at space q))) q) (served_same slots spot qs (ascends_before spot_cmp spot_total spot q qs parts.0 parts.1))

  -- the state without all of them
  abbrev all_gone : State → List RefSpot → State
  all_gone s spots = record s { slots = without_spots s.slots space spots; logs = with_deletions s.logs s.limits.kept space (served_of s.slots space spots) }

  abbrev without : State → RefSpot → State
  without s spot = record s { slots = remove s.slots (name_at space spot) }

  -- the first of them, and the others in the state without it
  step : (s : State) (spot : RefSpot) (spots : List RefSpot) → served_of (remove s.slots (name_at space spot)) space spots ≡ served_of s.slots space spots → ((t : State) → without_slots t space spots ≡ all_gone t spots)
      → (old : Option IoHash) → without_slots (noted_deleted (without s spot) (name_at space spot) old) space spots
      ≡ record s { slots = without_spots s.slots space (spot ∷ spots); logs = with_deletions s.logs s.limits.kept space (where_served old spot (served_of s.slots space spots)) }
  step s spot spots same rest None =
      rest (without s spot)
      ∙ ap (λ (es : List RefSpot). let t : State = record s { slots = without_spots s.slots space (spot ∷ spots); logs = with_deletions s.logs s.limits.kept space es } in t) same
  step s spot spots same rest (Some old) =
      let log : Log = with_event (log_of s space) (record { number = (log_of s space).last + 1; spot = spot; op = Deleted }) in
      rest (with_noted (without s spot) (name_at space spot) Deleted)
      ∙ ap (λ (es : List RefSpot). let t : State = record s { slots = without_spots s.slots space (spot ∷ spots); logs = with_deletions (insert s.logs space log) s.limits.kept space es } in t) same
      ∙ ap (λ (logs : FinMap name_cmp Log). let t : State = record s { slots = without_spots s.slots space (spot ∷ spots); logs = logs } in t) (deletions_after s.logs s.limits.kept space log (served_of s.slots space spots))

  pub expired_is : (s : State) (spots : List RefSpot) → ascends spot_cmp spots ≡ true → without_slots s space spots ≡ all_gone s spots
  expired_is s [] h = refl
  expired_is s (spot ∷ spots) h =
      step s spot spots (served_same s.slots spot spots h) (λ t. expired_is t spots (ascends_rest spot_cmp spot spots h)) (done_of (get s.slots (name_at space spot)))

-- as many events as references that served an object
counted_where : (old : Option IoHash) (spot : RefSpot) (spots : List RefSpot) (n : ℕ) → n ≡ length spots → count_deleted old + n ≡ length (where_served old spot spots)
counted_where None spot spots n is = omega (arith, is)
counted_where (Some old) spot spots n is = omega (arith, is)

pub counted : (s : State) (space : List ℕ) (spots : List RefSpot) → count_all_deleted s space spots ≡ length (served_of s.slots space spots)
counted s space [] = refl
counted s space (spot ∷ spots) = counted_where (done_of (get s.slots (name_at space spot))) spot (served_of s.slots space spots) (count_all_deleted s space spots) (counted s space spots)
