-- What making a namespace leaves.
use Rattle.std.proofs.Common.{◌≡◌, ℕ, Bool, IsTrue, List, [], ◌∷◌, true, Option, Some, None, Result, Ok, Err, refl, ◌∙◌, subst, sym, inl, inr, ⊎_elim}
use Rattle.std.specs.Prelude.{◌⊎◌}
use Rattle.std.specs.Io.KnownBytes.{Appends}
use Rattle.ddc_names.specs.Causes.{Rose}
use Rattle.ddc_link.specs.Writes.{AppendsFront}
use Rattle.ddc_disk.specs.Disk.{Meaning, EachImage, EachSince}
use Rattle.ddc_disk.specs.Images.{Images, devices_line, devices_faults}
use Rattle.ddc_disk.specs.Since.{then_runs, weaker}
use Rattle.ddc_disk.specs.declared.devices.Devices.{Devices}
use Rattle.ddc_journal.specs.Laws.{NotMadeIsNone}
use Rattle.ddc_model.specs.declared.rows.Limits.{Limits}
use Rattle.ddc_model.specs.declared.entry.Entry.{Entry}
use Rattle.ddc_model.specs.declared.entry.Step.TheVariants.{Change}
use Rattle.ddc_model.specs.declared.fault.StoreFault.{StoreFault}
use Rattle.ddc_model.specs.declared.fault.StoreFault.TheVariants as faults
use Rattle.ddc_model.specs.Limits.{standard}
use Rattle.ddc_model.specs.Sound.{Cache, IsSound}
use Rattle.ddc_model.specs.Commands.{SpaceAs, changed}
use Rattle.ddc_model.specs.History.{Past, broken_by, past_of, WithRoom}
use Rattle.ddc_model.proofs.Sound.{space_sound}
use Rattle.ddc_opening.specs.Opening.{OpensAs}
use Rattle.ddc_opening.specs.Laws.{OneOpening, OpensOrFails}
use Rattle.ddc_book.specs.Calls.{CommandGives, GoesOn, Becomes, OpensWhole, broke, next_cache}
use Rattle.ddc_book.specs.View.{BookView, limits_of, book_line, book_faults}
use Rattle.ddc_service.specs.Effects.{Effect, Bytes, Rises, MeetsNoFault, IsUntouched}
use Rattle.ddc_service.proofs.Writing.{rose_later}
use Rattle.ddc_service.proofs.Opened.{nothing_yet, is_unbroken}
use Rattle.ddc_service.proofs.Becoming.{next_by, becomes_cache, becomes_next, becomes_limits, becomes_unbroken}
use Rattle.ddc_command.specs.declared.end.CommandEnd.TheVariants.{Unmade, Made, Untold}
use Rattle.ddc_command.specs.Ends.{Scene, scene, IsEmptyUnmade, OpensAfter, AsksSpace, MakesSpace, LeavesAfter, LacksSpace, made_line}
use Rattle.ddc_command.specs.inside.Parts.{EndsInit, OpensOrMakes, untouched}
use Rattle.ddc_command.proofs.Settling.{each_settled}
use Rattle.ddc_command.proofs.Spaces.{with_space, space_refused, IsFull}

module _ {D : Type 0} (tells : Bool) (meaning : D → Meaning) (old : Devices D) (book : BookView D) (space : List ℕ) (ttl pin : ℕ) (found : OpensOrMakes tells meaning old book) (one : OneOpening) (exclusive : OpensOrFails) (not_made : NotMadeIsNone) where
  abbrev start : Cache
  start = book.cache

  abbrev Starts : Type 0
  Starts = IsTrue tells × EachImage (devices_line meaning old) (λ im. OpensWhole standard im start ⊎ IsEmptyUnmade start im)

  -- a crash now leaves the opened state, that after the entry, or no store
  abbrev Left : Option Entry → Images → Type 0
  Left made = λ im. OpensWhole standard im start ⊎ OpensAfter start im (changed start [] made) ⊎ IsEmptyUnmade start im

  -- what the entry leaves of a sound state is sound
  abbrev Keeps : Option Entry → Type 0
  Keeps made = IsSound start → IsSound (changed start [] made)

  unbroken : broken_by book.steps ≡ None
  unbroken = is_unbroken meaning book found.changes found.steps found.unbroken

  space_as : (answer : Result (Unit {0}) StoreFault) (made : Option Entry) → WithRoom start.index (past_of book.steps) (SpaceAs start.index space ttl pin) answer made → SpaceAs start.index space ttl pin answer made
  space_as answer made h =
      let P : Past → Type 0 = λ past. WithRoom start.index past (SpaceAs start.index space ttl pin) answer made in
      with_space start.index space ttl pin answer made found.limits_are (subst P (nothing_yet meaning book found.changes found.steps) h)

  keeps : (answer : Result (Unit {0}) StoreFault) (made : Option Entry) → SpaceAs start.index space ttl pin answer made → Keeps made
  keeps answer made answered sound = space_sound start space ttl pin answer made sound answered

  -- up to the opened book
  opening : (made : Option Entry) → Starts → EachSince (devices_line meaning old) (book_line meaning book) (Left made)
  opening made starts =
      weaker (devices_line meaning old) (book_line meaning book) (λ im. OpensWhole standard im start ⊎ IsEmptyUnmade start im) (Left made) (found.any_moment starts) (λ im. ⊎_elim (λ opens. inl opens) (λ none. inr (inr none)))

  -- there is no memory to tell of it, and nothing is made
  pub lacks_memory : (bytes : Bytes) (count : ℕ) (new : Devices D) → new ≡ book.devices → (IsTrue tells → broken_by book.steps ≡ None → EachImage (devices_line meaning new) (λ im. OpensAs (limits_of book) im start))
      → EndsInit tells meaning old new (untouched bytes count) space ttl pin (Unmade faults.NoMemory)
  lacks_memory bytes count new same closes words hour source still form =
      let P : Devices D → Type 0 = λ d. EachSince (devices_line meaning old) (devices_line meaning d) (Left None) in
      let Q : Limits → Type 0 = λ l. EachImage (devices_line meaning new) (λ im. OpensAs l im start) in (
        space,
        ttl,
        pin,
        form,
        (
          (still, (refl, refl)),
          start,
          (
            found.held,
            λ starts. subst P (sym same) (opening None starts),
            λ starts. each_settled one start start (λ sound. sound) exclusive not_made (devices_line meaning old) (devices_line meaning new) (subst P (sym same) (opening None starts)) (subst Q found.limits_are (closes starts.0 unbroken)),
          ),
        ),
      )

  module _ (next : BookView D) (goes : GoesOn tells meaning book [] next) where
    -- up to the book after the entry
    making : (made : Option Entry) → Keeps made → next_cache book [] next ≡ changed start [] made → Starts → EachSince (devices_line meaning old) (book_line meaning next) (Left made)
    making made keep is starts =
        let P : Limits → Type 0 = λ l. EachSince (book_line meaning book) (book_line meaning next) (λ im. OpensWhole l im start ⊎ OpensWhole l im (next_cache book [] next)) in
        let Q : Cache → Type 0 = λ c. EachSince (book_line meaning book) (book_line meaning next) (λ im. OpensWhole standard im start ⊎ OpensWhole standard im c) in
        let crash = subst Q is (subst P found.limits_are (goes.crash starts.0 unbroken (found.reaches starts))) in
        let last = weaker (book_line meaning book) (book_line meaning next) (λ im. OpensWhole standard im start ⊎ OpensWhole standard im (changed start [] made)) (Left made) crash
        (λ im. ⊎_elim (λ before. inl before) (λ after. inr (inl (record { opens = after; sound = keep })))) in
        then_runs (devices_line meaning old) (book_line meaning book) (book_line meaning next) (Left made) (Left made) (opening made starts) last (λ im left. left)

    module _ (sink : Effect Bytes) where
      abbrev here : Option ℕ → Effect Bytes → Scene D
      here hour source = scene tells meaning old next.devices hour source sink

      abbrev Closes : Devices D → Type 0
      Closes new = IsTrue tells → broken_by next.steps ≡ None → EachImage (devices_line meaning new) (λ im. OpensAs (limits_of next) im next.cache)

      asks : (hour : Option ℕ) (source : Effect Bytes) (answer : Result (Unit {0}) StoreFault) (made : Option Entry) → SpaceAs start.index space ttl pin answer made → next_cache book [] next ≡ changed start [] made
          → AsksSpace (here hour source) space ttl pin start answer made
      asks hour source answer made answered is = record { found = found.held; answers = answered; any_moment = making made (keeps answer made answered) is }

      leaves : (hour : Option ℕ) (source : Effect Bytes) (made : Option Entry) → Closes next.devices → Keeps made → Becomes meaning book [] next made → LeavesAfter (here hour source) start made
      leaves hour source made closes keep becomes starts =
          let P : Limits → Type 0 = λ l. EachImage (book_line meaning next) (λ im. OpensAs l im next.cache) in
          let Q : Cache → Type 0 = λ c. EachImage (book_line meaning next) (λ im. OpensAs standard im c) in
          let opens = subst Q (becomes_cache book next [] meaning made becomes) (subst P (becomes_limits book next [] meaning made becomes ∙ found.limits_are) (closes starts.0 (becomes_unbroken book next [] meaning unbroken made becomes))) in
          each_settled one start (changed start [] made) keep exclusive not_made (devices_line meaning old) (book_line meaning next) (making made keep (becomes_next book next [] meaning made becomes) starts) opens

      abbrev Answer : Result (Unit {0}) StoreFault → Type 0
      Answer result = CommandGives meaning book [] next (WithRoom start.index (past_of book.steps) (SpaceAs start.index space ttl pin)) result

      makes : (hour : Option ℕ) (source : Effect Bytes) → IsUntouched source → Closes next.devices → Answer (Ok tt) → MakesSpace (here hour source) space ttl pin
      makes hour source still closes (_, made, answers, becomes) =
          let answered = space_as (Ok tt) made answers in
          (still, start, made, asks hour source (Ok tt) made answered (becomes_next book next [] meaning made becomes), leaves hour source made closes (keeps (Ok tt) made answered) becomes)

      made_next : Closes next.devices → Answer (Ok tt) → Appends sink.before sink.after (made_line space ttl pin) → MeetsNoFault sink → EndsInit tells meaning old next.devices sink space ttl pin Made
      made_next closes answer told same words hour source still form = (space, ttl, pin, form, (makes hour source still closes answer, told, same))

      untold_next : Closes next.devices → Answer (Ok tt) → AppendsFront sink.before sink.after (made_line space ttl pin) → Rises sink → EndsInit tells meaning old next.devices sink space ttl pin Untold
      untold_next closes answer told rose words hour source still form = (space, ttl, pin, form, (makes hour source still closes answer, told, rose))

      -- a refusal that no namespace gets
      never : (fault : StoreFault) (made : Option Entry) → WithRoom start.index (past_of book.steps) (SpaceAs start.index space ttl pin) (Err fault) made → IsFull fault
      never fault made answers = (space_refused start.index space ttl pin fault made (space_as (Err fault) made answers)).1

      lacks : (hour : Option ℕ) (source : Effect Bytes) (fault : StoreFault) → Closes next.devices → Answer (Err fault) → (fault ≡ faults.DiskFailed → Rose (book_faults meaning book) (book_faults meaning next))
          → LacksSpace (here hour source) space ttl pin start fault
      lacks hour source (faults.Broken count) closes (broken, still) cause = let e = unbroken in cc
      lacks hour source faults.UnknownSpace closes (_, made, answers, becomes) cause = cc (never faults.UnknownSpace made answers).2
      lacks hour source faults.NotFound closes (_, made, answers, becomes) cause = cc (never faults.NotFound made answers).2
      lacks hour source faults.NotFinalised closes (_, made, answers, becomes) cause = cc (never faults.NotFinalised made answers).2
      lacks hour source faults.NotPending closes (_, made, answers, becomes) cause = cc (never faults.NotPending made answers).2
      lacks hour source (faults.Full what limit) closes (_, made, answers, becomes) cause =
          let answered = space_as (Err (faults.Full what limit)) made answers in
          let none = (space_refused start.index space ttl pin (faults.Full what limit) made answered).0 in
          let P : Option Entry → Type 0 = λ m. SpaceAs start.index space ttl pin (Err (faults.Full what limit)) m in
          let Q : Option Entry → Type 0 = λ m. Becomes meaning book [] next m in
          let still = subst Q none becomes in
          (asks hour source (Err (faults.Full what limit)) None (subst P none answered) (becomes_next book next [] meaning None still), leaves hour source None closes (λ sound. sound) still)
      lacks hour source (faults.HistoryFull entries links) closes (_, made, answers, becomes) cause = cc (never (faults.HistoryFull entries links) made answers).2
      lacks hour source faults.NoMemory closes (_, still) cause = (found.held, making None (λ sound. sound) (becomes_next book next [] meaning None still), leaves hour source None closes (λ sound. sound) still)
      lacks hour source faults.DiskFailed closes (_, value, entry, answers, index, steps) cause = (
        (Some entry, asks hour source (Ok tt) (Some entry) (space_as (Ok tt) (Some entry) answers) (next_by book next [] (Change entry ∷ broke meaning true book next ∷ []) steps)),
        rose_later (devices_faults meaning old) (book_faults meaning book) (book_faults meaning next) found.later (cause refl),
      )
      lacks hour source (faults.Damaged name hash) closes (_, made, answers, becomes) cause = cc (never (faults.Damaged name hash) made answers).2

      unmade_next : (fault : StoreFault) → IsUntouched sink → Closes next.devices → Answer (Err fault) → (fault ≡ faults.DiskFailed → Rose (book_faults meaning book) (book_faults meaning next)) → EndsInit tells meaning old next.devices sink space ttl pin (Unmade fault)
      unmade_next fault quiet closes answer cause words hour source still form = (space, ttl, pin, form, ((still, quiet), start, lacks hour source fault closes answer cause))

      pub makes_space : (new : Devices D) → new ≡ next.devices → Closes new → Answer (Ok tt) → Appends sink.before sink.after (made_line space ttl pin) → MeetsNoFault sink → EndsInit tells meaning old new sink space ttl pin Made
      makes_space new same closes answer told still =
          let P : Devices D → Type 0 = λ d. Closes d → EndsInit tells meaning old d sink space ttl pin Made in
          subst P (sym same) (λ c. made_next c answer told still) closes

      pub makes_untold : (new : Devices D) → new ≡ next.devices → Closes new → Answer (Ok tt) → AppendsFront sink.before sink.after (made_line space ttl pin) → Rises sink → EndsInit tells meaning old new sink space ttl pin Untold
      makes_untold new same closes answer told rose =
          let P : Devices D → Type 0 = λ d. Closes d → EndsInit tells meaning old d sink space ttl pin Untold in
          subst P (sym same) (λ c. untold_next c answer told rose) closes

      pub refuses_space : (fault : StoreFault) → IsUntouched sink → (new : Devices D) → new ≡ next.devices → Closes new → Answer (Err fault) → (fault ≡ faults.DiskFailed → Rose (book_faults meaning book) (book_faults meaning next)) → EndsInit tells meaning old new sink space ttl pin (Unmade fault)
      refuses_space fault quiet new same closes answer cause =
          let P : Devices D → Type 0 = λ d. Closes d → EndsInit tells meaning old d sink space ttl pin (Unmade fault) in
          subst P (sym same) (λ c. unmade_next fault quiet c answer cause) closes
