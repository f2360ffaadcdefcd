-- What a book's type keeps once it is opened.
use Rattle.std.proofs.Common.{◌≡◌, ℕ, ◌^◌, ◌≤◌, List, [], ◌∷◌, ◌++◌, length, refl, sym, ◌∙◌, ap, subst, arith}
use Rattle.std.proofs.lemmas.List.{append-nil}
use Rattle.std.specs.Prelude.{Bool, IsTrue, IsSome, IfSome, None, Some, Option}
use Rattle.ddc_disk.specs.Disk.{Timeline, Meaning, IsImage, EachImage, Rests}
use Rattle.ddc_disk.specs.Images.{Images, devices_line, devices_faults}
use Rattle.ddc_disk.specs.Lending.{all_now, rests as all_rest}
use Rattle.ddc_disk.specs.Told.{told_file}
use Rattle.ddc_disk.specs.declared.devices.Devices.{Devices}
use Rattle.ddc_journal.specs.Pairs.{PairView}
use Rattle.ddc_model.specs.declared.rows.Limits.{Limits}
use Rattle.ddc_model.specs.declared.entry.Step.{Step}
use Rattle.ddc_model.specs.declared.entry.Step.TheVariants.{Loaded}
use Rattle.ddc_model.specs.State.{State, empty_state}
use Rattle.ddc_model.specs.Sound.{Cache, empty_cache}
use Rattle.ddc_model.specs.History.{after_steps, broken_by}
use Rattle.ddc_opening.specs.Opening.{AllReach, OpensAs, OpensSound}
use Rattle.ddc_opening.specs.Laws.{OneOpening}
use Rattle.ddc_opening.specs.Loading.{IsOpenStore}
use Rattle.ddc_opening.specs.Changes.{after_changes, unbroken_changes}
use Rattle.ddc_opening.specs.BytesIn.{bytes_empty}
use Rattle.ddc_book.specs.View.{told_cache, opened_count, OpensFrom, IsHonest, IsStored, IsBook}
use Rattle.ddc_book.specs.Loading.{AreSure}
use Rattle.ddc_book.proofs.Limits.{all_limits}
use Rattle.ddc_book.proofs.Steps.{steps_more, broken_more, opened_within, sure_all}
use Rattle.ddc_book.proofs.Stored.{seen, cache_told, images, opens_stored, reaches_stored, from_fewer, from_all}

-- the limits within which a store was opened are those of its state
pub limits_stay : {D : Type 0} (tells : Bool) (meaning : D → Meaning) (devices : Devices D) (limits : Limits) (pair : PairView) (s : State) (steps : List Step) → IsOpenStore tells meaning devices limits pair s steps → s.limits ≡ limits
limits_stay tells meaning devices limits pair s steps found = ap (λ (t : State). t.limits) found.state ∙ all_limits (empty_state limits) found.all

-- the empty state, with the bytes that the devices tell
pub empty_told : {D : Type 0} (tells : Bool) (meaning : D → Meaning) (devices : Devices D) (limits : Limits) → IsTrue tells → IsSome (meaning devices.blobs).held → told_cache tells meaning devices (empty_state limits) ≡ empty_cache limits
empty_told tells meaning devices limits tell told =
    let file = told_file (meaning devices.blobs).held told in
    cache_told tells meaning devices (empty_state limits) file.0 tell file.1 ∙ (λ i. record { index = empty_state limits; bytes = Some (bytes_empty file.0 i) })

module _ {D : Type 0} (tells : Bool) (meaning : D → Meaning) (rests : (d : D) → Rests (meaning d).line)
    (told : (d : D) → IsTrue tells → IsSome (meaning d).held) (reads : (d : D) (file : List ℕ) → (meaning d).held ≡ Some file → IsImage (meaning d).line file)
    (one_opening : OneOpening) (devices : Devices D) (pair : PairView) (s : State) (low : s.limits.units ≤ 2 ^ 51) where
  abbrev limits : Limits
  limits = s.limits

  abbrev all : Timeline Images
  all = devices_line meaning devices

  abbrev faults : ℕ
  faults = devices_faults meaning devices

  abbrev cache : Cache
  cache = told_cache tells meaning devices s

  module _ (steps : List Step) (found : IsOpenStore tells meaning devices s.limits pair s steps) where
    stored : IsTrue tells → IsStored meaning devices pair s
    stored tell = record { all = found.all; ready = found.ready tell; are_legal = found.are_legal; leads = found.state }

    opens_now : IsTrue tells → EachImage all (λ im. OpensAs s.limits im (told_cache tells meaning devices s))
    opens_now tell im now = opens_stored tells meaning rests devices pair s (stored tell) tell found.whole im now

    -- what the devices read as is one of their images
    some_image : IsTrue tells → (im : Images) × IsImage all im
    some_image tell =
        let first = told_file (meaning devices.first).held (told devices.first tell) in
        let second = told_file (meaning devices.second).held (told devices.second tell) in
        let blobs = told_file (meaning devices.blobs).held (told devices.blobs tell) in
        let im : Images = record { first = first.0; second = second.0; blobs = blobs.0 } in (
          im,
          all_now (meaning devices.first) (meaning devices.second) (meaning devices.blobs) (rests devices.first) (rests devices.second) (rests devices.blobs) im
              (reads devices.first first.0 first.1) (reads devices.second second.0 second.1) (reads devices.blobs blobs.0 blobs.1),
        )

    -- a sound state that an image now opens to is the book's
    sound_now : IsTrue tells → (im : Images) → IsImage all im → (state : Cache) → OpensSound limits im state → OpensSound limits im cache
    sound_now tell im now state opens = subst (λ (c : Cache). OpensSound limits im c) (one_opening limits im state cache opens.opens (opens_now tell im now)) opens

    abbrev longer : List Step
    longer = steps ++ Loaded limits faults ∷ []

    unbroken : broken_by steps ≡ None
    unbroken = ap broken_by found.steps_are ∙ unbroken_changes found.all

    still_unbroken : broken_by longer ≡ None
    still_unbroken = broken_more steps (Loaded limits faults ∷ []) unbroken

    leaves : s ≡ after_steps (empty_state limits) longer
    leaves = found.state ∙ sym (after_changes (empty_state limits) found.all) ∙ ap (after_steps (empty_state limits)) (sym found.steps_are) ∙ sym (steps_more (empty_state limits) steps (Loaded limits faults ∷ []))

    all_steps : IsHonest tells all limits all.moment → (t : ℕ) (im : Images) → all.moment ≤ t → all.left t im → OpensFrom (length longer) limits longer im
    all_steps honest t im le left =
        let now = (all_rest (meaning devices.first) (meaning devices.second) (meaning devices.blobs) (rests devices.first) (rests devices.second) (rests devices.blobs)).stands t im le left in
        let opens = honest.sound im now in
        subst (λ (l : List Step). OpensFrom (length longer) limits l im) (append-nil longer) (from_all limits longer im [] cache (sound_now honest.told im now opens.0 opens.1) leaves)

    is_book : (reads_count : ℕ) → IsBook tells meaning (seen tells meaning devices s longer all.moment reads_count) pair
    unfolding stored
    is_book reads_count = record {
      history = record {
        opened = steps;
        faults = faults;
        made = [];
        split = refl;
        unbroken = unbroken;
        lawful = tt;
        leaves = leaves;
        later = omega arith;
        broken = subst (λ (b : Option ℕ). IfSome b (λ now. now ≤ faults)) (sym still_unbroken) tt;
      };
      whole = found.whole;
      low = low;
      time = omega arith;
      now = λ tell none. stored tell;
      sound = λ honest none.
          let some = some_image honest.told in
          let opens = honest.sound some.0 some.1 in
          let is = sound_now honest.told some.0 some.1 opens.0 opens.1 in
          let at = (images tells meaning rests devices pair s (stored honest.told) some.0 some.1).2 in
          (is.sound, reaches_stored tells meaning rests devices pair s (stored honest.told) (subst (λ (f : List ℕ). AllReach f s) at is.reach));
      since = λ honest t im le left. from_fewer limits longer im (opened_count longer) (length longer) (opened_within steps limits faults []) (all_steps honest t im le left);
      last = λ honest t im le left. subst (λ (n : ℕ). OpensFrom n limits longer im) (sym (sure_all longer still_unbroken)) (all_steps honest t im le left);
    }

  -- the same within limits that are those of the state
  pub book_opened : (given : Limits) (steps longer : List Step) (count opened reads_count : ℕ) → IsOpenStore tells meaning devices given pair s steps → longer ≡ steps ++ Loaded given count ∷ [] → count ≡ faults → opened ≡ all.moment
      → IsBook tells meaning (seen tells meaning devices s longer opened reads_count) pair
  book_opened given steps longer count opened reads_count found is counted at =
      let same : given ≡ limits = sym (limits_stay tells meaning devices given pair s steps found) in
      let here = subst (λ (l : Limits). IsOpenStore tells meaning devices l pair s steps) same found in
      let all_is : longer ≡ steps ++ Loaded limits faults ∷ [] = is ∙ (λ i. steps ++ Loaded (same i) (counted i) ∷ []) in
      subst (λ (p : List Step × ℕ). IsBook tells meaning (seen tells meaning devices s p.0 p.1 reads_count) pair) (λ i. (sym all_is i, sym at i)) (is_book steps here reads_count)

-- within the limits that were given
module _ {D : Type 0} (tells : Bool) (meaning : D → Meaning) (rests : (d : D) → Rests (meaning d).line) (devices : Devices D) (limits : Limits) (pair : PairView) (s : State) (steps : List Step) (found : IsOpenStore tells meaning devices limits pair s steps) where
  same_limits : limits ≡ s.limits
  same_limits = sym (limits_stay tells meaning devices limits pair s steps found)

  here : IsOpenStore tells meaning devices s.limits pair s steps
  here = subst (λ (l : Limits). IsOpenStore tells meaning devices l pair s steps) same_limits found

  pub sure_opened : IsTrue tells → AreSure meaning devices
  sure_opened tell = let ready = found.ready tell in record {
    first = ready.journal.first;
    second = ready.journal.second;
    blobs = ready.file;
    first_sure = ready.journal.first_sure;
    second_sure = ready.journal.second_sure;
    blobs_sure = ready.blobs_sure;
  }

  pub opens_opened : IsTrue tells → EachImage (devices_line meaning devices) (λ im. OpensAs limits im (told_cache tells meaning devices s))
  opens_opened tell im now =
      subst (λ (l : Limits). OpensAs l im (told_cache tells meaning devices s)) (sym same_limits)
      (opens_stored tells meaning rests devices pair s (record { all = here.all; ready = here.ready tell; are_legal = here.are_legal; leads = here.state }) tell here.whole im now)
