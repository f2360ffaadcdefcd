-- What devices open to that are ready, and which steps a crash keeps.
use Rattle.std.specs.Prelude.{◌≡◌, ℕ, ◌+◌, ◌≤◌, Bool, true, false, IsTrue, List, [], ◌∷◌, ◌++◌, length, Option, Some, IfSome, option_map, refl}
use Rattle.std.proofs.Common.{sym, ◌∙◌, ap, subst, arith, length-append}
use Rattle.std.proofs.lemmas.List.{take-append-le, take_at, take_all}
use Rattle.ddc_disk.specs.Disk.{Meaning, IsImage, Rests}
use Rattle.ddc_disk.specs.Images.{Images, devices_line}
use Rattle.ddc_disk.specs.declared.devices.Devices.{Devices}
use Rattle.ddc_disk.specs.Lending as lending
use Rattle.ddc_disk.specs.Told.{at_told}
use Rattle.ddc_journal.specs.Pairs.{PairView}
use Rattle.ddc_model.specs.declared.rows.Limits.{Limits}
use Rattle.ddc_model.specs.declared.entry.Step.{Step}
use Rattle.ddc_model.specs.declared.entry.Step.TheVariants.{Broke}
use Rattle.ddc_model.specs.State.{State, empty_state}
use Rattle.ddc_model.specs.Sound.{Cache, AreWhole, IsSound}
use Rattle.ddc_model.specs.History.{after_steps}
use Rattle.ddc_opening.specs.Opening.{AllReach, OpensAs, OpensSound, bytes_in, cache_in}
use Rattle.ddc_book.specs.View.{BookView, told_bytes, told_cache, OpensFrom, IsStored}
use Rattle.ddc_book.proofs.Lent.{pair_of, pair_alike}
use Rattle.ddc_book.proofs.Meanwhile as meanwhile
use Rattle.ddc_book.proofs.Steps.{steps_more}

-- the book as its type shows it
abbrev pub seen : {D : Type 0} → Bool → (D → Meaning) → Devices D → State → List Step → ℕ → ℕ → BookView D
seen tells meaning devices s steps opened reads = record { devices = devices; cache = told_cache tells meaning devices s; steps = steps; opened = opened; reads = reads }

-- ---- what is told

told_is : (tells : Bool) → IsTrue tells → (held : Option (List ℕ)) (file : List ℕ) → held ≡ Some file → (s : State) → told_bytes tells held s ≡ Some (bytes_in file s.blobs)
told_is true tell held file is s = ap (option_map (λ (f : List ℕ). bytes_in f s.blobs)) is
told_is false tell held file is s = absurd (cc)

pub cache_told : {D : Type 0} (tells : Bool) (meaning : D → Meaning) (devices : Devices D) (s : State) (file : List ℕ) → IsTrue tells → (meaning devices.blobs).held ≡ Some file → told_cache tells meaning devices s ≡ cache_in file s
cache_told tells meaning devices s file tell held i = record { index = s; bytes = told_is tells tell (meaning devices.blobs).held file held s i }

-- ---- devices that are ready

module _ {D : Type 0} (tells : Bool) (meaning : D → Meaning) (rests : (d : D) → Rests (meaning d).line) (devices : Devices D) (pair : PairView) (s : State) (stored : IsStored meaning devices pair s) where
  abbrev pub file : List ℕ
  file = stored.ready.file

  -- each image now has the journal of the entries, and the blob file
  pub images : (im : Images) → IsImage (devices_line meaning devices) im → (im.first ≡ stored.ready.journal.first) × (im.second ≡ stored.ready.journal.second) × (im.blobs ≡ stored.ready.file)
  images im now =
      let each = lending.each_now (meaning devices.first) (meaning devices.second) (meaning devices.blobs) (rests devices.first) (rests devices.second) (rests devices.blobs) im now in
      (stored.ready.journal.first_sure.only im.first each.0, stored.ready.journal.second_sure.only im.second each.1, stored.ready.blobs_sure.only im.blobs each.2)

  pub same_cache : IsTrue tells → told_cache tells meaning devices s ≡ cache_in stored.ready.file s
  same_cache tell = cache_told tells meaning devices s stored.ready.file tell stored.ready.blobs_sure.held

  -- so it opens to the state, with the bytes that the devices tell
  pub opens_stored : IsTrue tells → AreWhole s → (im : Images) → IsImage (devices_line meaning devices) im → OpensAs s.limits im (told_cache tells meaning devices s)
  opens_stored tell whole im now =
      let is = images im now in
      let ready = stored.ready in
      let loads = pair_alike ready.bodies ready.journal.first ready.journal.second im.first im.second is.0 is.1 (pair_of ready.journal.first ready.journal.second pair ready.bodies ready.version_is ready.journal.opened) in
      subst (λ (c : Cache). OpensAs s.limits im c) (ap (λ (f : List ℕ). cache_in f s) is.2 ∙ sym (same_cache tell))
      (meanwhile.opens s stored.all ready.bodies ready.spelled stored.are_legal stored.leads im whole loads)

  -- each blob reaches as far as the devices tell
  pub reach_stored : IfSome (meaning devices.blobs).held (λ f. AllReach f s) → AllReach stored.ready.file s
  reach_stored reaches = at_told (meaning devices.blobs).held (λ (f : List ℕ). AllReach f s) stored.ready.file stored.ready.blobs_sure.held reaches

  pub reaches_stored : AllReach stored.ready.file s → IfSome (meaning devices.blobs).held (λ f. AllReach f s)
  reaches_stored reach = subst (λ (o : Option (List ℕ)). IfSome o (λ f. AllReach f s)) (sym stored.ready.blobs_sure.held) reach

  pub reach_image : IfSome (meaning devices.blobs).held (λ f. AllReach f s) → (im : Images) → IsImage (devices_line meaning devices) im → AllReach im.blobs s
  reach_image reaches im now = subst (λ (f : List ℕ). AllReach f s) (sym (images im now).2) (reach_stored reaches)

  -- and where the state is sound, so is what it opens to
  pub sound_stored : IsTrue tells → AreWhole s → IsSound (told_cache tells meaning devices s) → IfSome (meaning devices.blobs).held (λ f. AllReach f s)
      → (im : Images) → IsImage (devices_line meaning devices) im → OpensSound s.limits im (told_cache tells meaning devices s)
  sound_stored tell whole sound reaches im now = record { opens = opens_stored tell whole im now; sound = sound; reach = reach_image reaches im now }

-- ---- which steps a crash keeps

module _ (limits : Limits) (steps : List Step) (im : Images) where
  abbrev start : State
  start = empty_state limits

  pub from_fewer : (least n : ℕ) → least ≤ n → OpensFrom n limits steps im → OpensFrom least limits steps im
  from_fewer least n le some = record { n = some.n; least_is = omega (arith, le, some.least_is); within = some.within; state = some.state; opens = some.opens; index = some.index }

  -- steps that follow take none away
  pub from_more : (least : ℕ) (tail : List Step) → OpensFrom least limits steps im → OpensFrom least limits (steps ++ tail) im
  from_more least tail some = record {
    n = some.n;
    least_is = some.least_is;
    within = omega (arith, some.within, length-append steps tail);
    state = some.state;
    opens = some.opens;
    index = some.index ∙ ap (after_steps (empty_state limits)) (sym (take-append-le some.n steps tail some.within));
  }

  -- a sound state that all steps leave
  pub from_all : (tail : List Step) (state : Cache) → OpensSound limits im state → state.index ≡ after_steps (empty_state limits) steps → OpensFrom (length steps) limits (steps ++ tail) im
  from_all tail state opens is = record {
    n = length steps;
    least_is = omega arith;
    within = omega (arith, length-append steps tail);
    state = state;
    opens = opens;
    index = is ∙ ap (after_steps (empty_state limits)) (sym (take_at steps tail (length steps) refl));
  }

  -- a step that changes nothing may be kept too
  pub from_noted : (changed : Bool) (before now : ℕ) → OpensFrom (length steps) limits steps im → OpensFrom (length steps + 1) limits (steps ++ Broke changed before now ∷ []) im
  from_noted changed before now some =
      let long : length (steps ++ Broke changed before now ∷ []) ≡ length steps + 1 = omega (arith, length-append steps (Broke changed before now ∷ [])) in
      record {
        n = length steps + 1;
        least_is = omega arith;
        within = omega (arith, long);
        state = some.state;
        opens = some.opens;
        index = some.index ∙ ap (after_steps (empty_state limits)) (take_all some.n steps some.least_is) ∙ sym (steps_more (empty_state limits) steps (Broke changed before now ∷ []))
            ∙ ap (after_steps (empty_state limits)) (sym (take_all (length steps + 1) (steps ++ Broke changed before now ∷ []) (omega (arith, long))));
      }
