-- The book that is opened for a new namespace.
use Rattle.std.proofs.Common.{refl, ◌≡◌, ◌≢◌, ℕ, Bool, true, false, IsTrue, List, [], Option, Some, ◌∙◌, ap, subst, sym, arith, inl, inr, ⊎_elim}
use Rattle.std.specs.Prelude.{IfSome, IsSome, ◌⊎◌, map}
use Rattle.ddc_names.specs.Causes.{Rose}
use Rattle.ddc_disk.specs.Disk.{Meaning, Timeline, IsImage, EachImage, EachSince, Rests}
use Rattle.ddc_disk.specs.Images.{Images, devices_line, devices_faults}
use Rattle.ddc_disk.specs.Since.{then_runs, weaker}
use Rattle.ddc_disk.specs.Told.{told_file}
use Rattle.ddc_disk.specs.declared.devices.Devices.{Devices}
use Rattle.ddc_journal.specs.Pairs.{IfBoth, NoneMade}
use Rattle.ddc_journal.specs.Laws.{NotMadeIsNone}
use Rattle.ddc_model.specs.declared.entry.Entry.{Entry}
use Rattle.ddc_model.specs.declared.entry.Step.TheVariants.{Change}
use Rattle.ddc_model.specs.Limits.{standard}
use Rattle.ddc_model.specs.State.{State, empty_state}
use Rattle.ddc_model.specs.Sound.{Cache, empty_cache}
use Rattle.ddc_opening.specs.Opening.{after_all, cache_in, AllReach, HoldEntries, HoldState, OpensAs, OpenFaultOf}
use Rattle.ddc_opening.specs.Loading.{AsBefore, Creates}
use Rattle.ddc_opening.specs.declared.fault.OpenFault.{OpenFault}
use Rattle.ddc_opening.specs.declared.fault.OpenFault.TheVariants.{NotMade, Corrupt, BadVersion, Unsound, DiskFailed, NoMemory}
use Rattle.ddc_opening.proofs.Both.{if_both, at_both}
use Rattle.ddc_book.specs.Calls.{OpensWhole}
use Rattle.ddc_book.specs.Loading.{IsLoaded, IsCreated}
use Rattle.ddc_book.specs.View.{BookView, book_line}
use Rattle.ddc_service.proofs.Held.{at_blobs}
use Rattle.ddc_service.proofs.Writing.{rose_later}
use Rattle.ddc_command.specs.declared.command.Command.TheVariants.{Init}
use Rattle.ddc_command.specs.declared.end.CommandEnd.TheVariants.{Unopened, Uncreated}
use Rattle.ddc_command.specs.Words.{command_of}
use Rattle.ddc_command.specs.Ends.{scene, HoldStore, IsEmptyUnmade}
use Rattle.ddc_command.specs.inside.Parts.{FailsToOpen, OpensOrMakes, is_unmade, untouched}
use Rattle.ddc_command.proofs.Settling.{cache_is, empty_reach, empty_reaches, left_reach}
use Rattle.ddc_command.proofs.Statuses.{open_not_1}
use Rattle.ddc_command.proofs.Unopened.{none_held, unopens, some_command}

not_unmade : (fault : OpenFault) → is_unmade fault ≡ false → fault ≢ NotMade
not_unmade fault off e = let on : true ≡ false = sym (ap is_unmade e) ∙ off in cc on

module _ {D : Type 0} (tells : Bool) (meaning : D → Meaning) (old : Devices D) where
  abbrev before : Timeline Images
  before = devices_line meaning old

  -- what an open book may leave
  abbrev Left : Cache → Images → Type 0
  Left cache = λ im. OpensWhole standard im cache ⊎ IsEmptyUnmade cache im

  -- the devices hold no store, where that is the fault
  unmade_held : NotMadeIsNone → (X : Type 0) (fault : OpenFault) → is_unmade fault ≡ true → ((fault ≡ DiskFailed) × X) ⊎ IfBoth meaning old (λ first second. OpenFaultOf standard first second fault) → IfBoth meaning old NoneMade
  unmade_held not_made X NotMade is (inl (e, x)) = cc e
  unmade_held not_made X NotMade is (inr h) = none_held not_made meaning old h
  unmade_held not_made X (Corrupt which at) is h = cc is
  unmade_held not_made X (BadVersion found) is h = cc is
  unmade_held not_made X (Unsound name) is h = cc is
  unmade_held not_made X DiskFailed is h = cc is
  unmade_held not_made X NoMemory is h = cc is

  module _ (rests : (d : D) → Rests (meaning d).line) (reads : (d : D) (file : List ℕ) → (meaning d).held ≡ Some file → IsImage (meaning d).line file) (told : (d : D) → IsTrue tells → IsSome (meaning d).held) where
    -- a book that was loaded holds the store that the devices held
    pub loaded_holds : (book : BookView D) → IsLoaded tells meaning old standard book → HoldStore tells meaning old book.cache
    loaded_holds book loaded = record {
      state = if_both meaning old (λ first second. HoldState standard first second book.cache.index) (λ a b is_a is_b.
          let P : List ℕ → List ℕ → Type 0 = λ first second. (all : List Entry) × HoldEntries standard first second all × (loaded.changes ≡ map Change all) × (book.cache.index ≡ after_all (empty_state standard) all) in
          let held = at_both meaning old P a b is_a is_b loaded.held in
          (held.0, held.1, held.3));
      bytes = λ tell.
          let back = loaded.as_before in
          let P : List ℕ → Type 0 = λ file. book.cache ≡ cache_in file book.cache.index in
          let Q : Option (List ℕ) → Type 0 = λ held. IfSome held P in
          subst Q back.blobs (at_blobs meaning rests reads book.devices (told book.devices.first tell) (told book.devices.second tell) P (λ im now. let opens = loaded.opens tell im now in cache_is book.cache im.blobs opens.bytes));
      whole = loaded.whole;
    }

    pub finds_loaded : (book : BookView D) → IsLoaded tells meaning old standard book → OpensOrMakes tells meaning old book
    finds_loaded book loaded = record {
      held = inl (loaded_holds book loaded);
      limits_are = loaded.limits_are;
      changes = loaded.changes;
      steps = loaded.steps;
      unbroken = loaded.unbroken;
      later = let back = loaded.as_before in back.later;
      any_moment = λ starts. let back = loaded.as_before in weaker before (book_line meaning book) (IsImage before) (Left book.cache) back.since starts.1;
      reaches = λ starts.
          let back = loaded.as_before in
          let run = back.since in
          at_blobs meaning rests reads book.devices (told book.devices.first starts.0) (told book.devices.second starts.0) (λ file. AllReach file book.cache.index)
          (λ im now. left_reach book.cache im (starts.1 im (run.each (book_line meaning book).moment im run.later now)));
    }

  -- the store can't be opened
  pub fails_unopened : NotMadeIsNone → (new : Devices D) (fault : OpenFault) → is_unmade fault ≡ false → AsBefore meaning old new
      → ((fault ≡ DiskFailed) × Rose (devices_faults meaning old) (devices_faults meaning new)) ⊎ IfBoth meaning old (λ first second. OpenFaultOf standard first second fault)
      → (fault ≡ DiskFailed → Rose (devices_faults meaning old) (devices_faults meaning new)) → FailsToOpen tells meaning old new (Unopened fault)
  fails_unopened not_made new fault off back is cause = record {
    ends = λ bytes faults space ttl pin words hour source still form. (
      some_command (command_of words) (Init space ttl pin) form,
      (still, (refl, refl)),
      back,
      unopens not_made (scene tells meaning old new hour source (untouched bytes faults)) (command_of words) fault is cause (λ e. absurd (not_unmade fault off e)),
    );
    not_usage = open_not_1 fault;
  }

  module _ (not_made : NotMadeIsNone) (mid : Devices D) (fault : OpenFault) (on : is_unmade fault ≡ true) (back : AsBefore meaning old mid)
      (is : ((fault ≡ DiskFailed) × Rose (devices_faults meaning old) (devices_faults meaning mid)) ⊎ IfBoth meaning old (λ first second. OpenFaultOf standard first second fault)) where
    abbrev between : Timeline Images
    between = devices_line meaning mid

    unmade : IfBoth meaning old NoneMade
    unmade = unmade_held not_made (Rose (devices_faults meaning old) (devices_faults meaning mid)) fault on is

    image_before : (im : Images) → IsImage between im → IsImage before im
    image_before im now = let run = back.since in run.each between.moment im run.later now

    abbrev Making : Timeline Images → Images → Type 0
    Making line = λ im. IsImage line im ⊎ NoneMade im.first im.second ⊎ OpensAs standard im (empty_cache standard)

    -- of two files that aren't made
    abbrev Makes : Timeline Images → List ℕ → List ℕ → Type 0
    Makes line = λ first second. NoneMade first second → EachSince between line (Making between)

    makes_now : (line : Timeline Images) → IsSome (meaning mid.first).held → IsSome (meaning mid.second).held → IfBoth meaning mid (Makes line) → EachSince between line (Making between)
    makes_now line first second each =
        let a = told_file (meaning mid.first).held first in
        let b = told_file (meaning mid.second).held second in
        at_both meaning mid (Makes line) a.0 b.0 a.1 b.1 each (at_both meaning old NoneMade a.0 b.0 (sym back.first ∙ a.1) (sym back.second ∙ b.1) unmade)

    left_empty : (cache : Cache) → cache ≡ empty_cache standard → EachImage before (Left cache) → (im : Images) → Making between im → Left cache im
    left_empty cache empty starts im (inl now) = starts im (image_before im now)
    left_empty cache empty starts im (inr (inl none)) = inr (empty, none)
    left_empty cache empty starts im (inr (inr opens)) = inl (subst (λ (c : Cache). OpensWhole standard im c) (sym empty) (record { opens = opens; reach = empty_reach im.blobs }))

    pub finds_created : (book : BookView D) → ((d : D) → IsTrue tells → IsSome (meaning d).held) → IsCreated tells meaning mid standard book → OpensOrMakes tells meaning old book
    finds_created book told created = record {
      held = inr (record { none = unmade; state = created.index; empty = created.cache });
      limits_are = ap (λ (s : State). s.limits) created.index;
      changes = [];
      steps = created.steps;
      unbroken = refl;
      later = let a = back.later in let creates = created.creates in let b = creates.later in omega arith;
      any_moment = λ starts.
          let creates = created.creates in
          let making = makes_now (book_line meaning book) (told mid.first starts.0) (told mid.second starts.0) creates.each in
          let first = weaker before between (IsImage before) (Left book.cache) back.since starts.1 in
          let last = weaker between (book_line meaning book) (Making between) (Left book.cache) making (left_empty book.cache (created.cache starts.0) starts.1) in
          then_runs before between (book_line meaning book) (Left book.cache) (Left book.cache) first last (λ im left. left);
      reaches = λ starts.
          let P : State → Type 0 = λ s. IfSome (meaning book.devices.blobs).held (λ file. AllReach file s) in
          subst P (sym created.index) (empty_reaches (meaning book.devices.blobs).held);
    }

    creates_from : (new : Devices D) → Creates meaning mid standard new → Creates meaning old standard new
    creates_from new creates =
        let P : List ℕ → List ℕ → Type 0 = λ a b. NoneMade a b → EachSince before (devices_line meaning new) (Making before) in
        let first = weaker before between (IsImage before) (Making before) back.since (λ im now. inl now) in
        record {
          later = let a = back.later in let b = creates.later in omega arith;
          past = then_runs before between (devices_line meaning new) (λ im. Unit {0}) (λ im. Unit {0}) (weaker before between (IsImage before) (λ im. Unit {0}) back.since (λ im now. tt)) creates.past (λ im u. tt);
          each = if_both meaning old P (λ a b is_a is_b none.
              let making = at_both meaning mid (Makes (devices_line meaning new)) a b (back.first ∙ is_a) (back.second ∙ is_b) creates.each none in
              then_runs before between (devices_line meaning new) (Making before) (Making between) first making (λ im. ⊎_elim (λ now. inl (image_before im now)) (λ other. inr other)));
        }

    -- no store can be made
    pub fails_uncreated : (new : Devices D) (why : OpenFault) → Creates meaning mid standard new
        → ((why ≡ DiskFailed) × Rose (devices_faults meaning mid) (devices_faults meaning new)) ⊎ (why ≡ NoMemory) → FailsToOpen tells meaning old new (Uncreated why)
    fails_uncreated new why creates cause = record {
      ends = λ bytes faults space ttl pin words hour source still form. (
        space,
        ttl,
        pin,
        form,
        (
          (still, (refl, refl)),
          unmade,
          creates_from new creates,
          ⊎_elim (λ failed. inl (failed.0, rose_later (devices_faults meaning old) (devices_faults meaning mid) (devices_faults meaning new) back.later failed.1)) (λ memory. inr memory) cause,
        ),
      );
      not_usage = open_not_1 why;
    }
