-- What a book's type keeps while an entry is made.
use Rattle.std.specs.Prelude.{◌≡◌, ◌⊎◌, ℕ, ◌+◌, ◌^◌, ◌≤◌, Bool, true, false, IsTrue, List, [], ◌∷◌, ◌++◌, length, drop, Option, None, Some, Ok, Err, IfSome, option_map, refl}
use Rattle.std.proofs.Common.{inl, inr, ⊎_elim, sym, ◌∙◌, ap, subst, arith, append_assoc, length-append}
use Rattle.std.proofs.lemmas.Bool.{cases_lt}
use Rattle.std.proofs.Math.Seq.{drop-append_seam}
use Rattle.std.proofs.lemmas.List.{append-nil}
use Rattle.std.specs.FinMap.{FinMap}
use Rattle.ddc_names.specs.Causes.{Rose}
use Rattle.ddc_disk.specs.Disk.{Timeline, Meaning, EachSince, Rests, IsSure}
use Rattle.ddc_disk.specs.Images.{Images, devices_line, devices_faults}
use Rattle.ddc_disk.specs.Since.{weaker}
use Rattle.ddc_disk.specs.Lending as lending
use Rattle.ddc_disk.specs.declared.devices.Devices.{Devices}
use Rattle.ddc_journal.specs.Pairs.{PairView, IsPairReady}
use Rattle.ddc_entry.specs.Spelling.{spelling, IsEntry}
use Rattle.ddc_model.specs.declared.rows.Limits.{Limits}
use Rattle.ddc_model.specs.declared.entry.Entry.{Entry}
use Rattle.ddc_model.specs.declared.entry.Step.{Step}
use Rattle.ddc_model.specs.declared.entry.Step.TheVariants.{Change, Broke}
use Rattle.ddc_model.specs.declared.fault.StoreFault.TheVariants.{DiskFailed}
use Rattle.ddc_model.specs.Keys.{blob_cmp}
use Rattle.ddc_model.specs.State.{State, empty_state}
use Rattle.ddc_model.specs.Entries.{after}
use Rattle.ddc_model.specs.Counts.{fresh_of}
use Rattle.ddc_model.specs.Sound.{Cache, IsSound}
use Rattle.ddc_model.specs.Commands.{changed, kept}
use Rattle.ddc_model.specs.History.{after_steps, broken_by, leases_of_all, no_leases, AreLawful}
use Rattle.ddc_opening.specs.Opening.{version, AreLegal, after_all, AllReach, OpensSound}
use Rattle.ddc_book.specs.View.{BookView, told_cache, told_bytes, opened_count, sure_count, OpensFrom, Reaches, IsHonest, IsHistory, IsStored, IsBook}
use Rattle.ddc_book.specs.Calls.{OpensWhole, change_in, next_cache, Commits, GoesOn}
use Rattle.ddc_book.specs.inside.Making.{bytes_or_none, place_of, with_bytes, Between, IsFit}
use Rattle.ddc_book.proofs.Limits.{after_limits}
use Rattle.ddc_book.proofs.Steps.{steps_more, broken_more, sure_more, sure_unwritten}
use Rattle.ddc_book.proofs.Written.{written_gives, written_reaches}
use Rattle.ddc_book.proofs.Meanwhile as meanwhile
use Rattle.ddc_book.proofs.Stored.{seen, sound_stored, same_cache, reach_stored, reaches_stored, from_fewer, from_more, from_all}
use Rattle.ddc_book.proofs.Still.{count_within, count_still, history_more}

module _ {D : Type 0} (tells : Bool) (meaning : D → Meaning) (rests : (d : D) → Rests (meaning d).line) (devices : Devices D) (s : State) (steps : List Step) (opened reads : ℕ) (pair : PairView)
    (book : IsBook tells meaning (seen tells meaning devices s steps opened reads) pair) (unbroken : broken_by steps ≡ None)
    (entry : Entry) (blob : Option (List ℕ)) (fit : IsFit (told_cache tells meaning devices s) entry blob) (body : List ℕ) (spellable : IsEntry entry) (is : body ≡ spelling entry)
    (after_devices : Devices D) (later : devices_faults meaning devices ≤ devices_faults meaning after_devices)
    (past : EachSince (devices_line meaning devices) (devices_line meaning after_devices) (λ _. Unit {0}))
    (any_moment : (bodies : List (List ℕ)) (file : List ℕ) → pair.version ≡ version → IsPairReady meaning devices pair bodies → IsSure (meaning devices.blobs) file
    → EachSince (devices_line meaning devices) (devices_line meaning after_devices) (Between bodies body file (place_of (fresh_of entry)) (bytes_or_none blob))) where
  abbrev pub old : BookView D
  old = seen tells meaning devices s steps opened reads

  abbrev bytes : List ℕ
  bytes = bytes_or_none blob

  abbrev cache : Cache
  cache = told_cache tells meaning devices s

  abbrev next : Cache
  next = changed (told_cache tells meaning devices s) bytes (Some entry)

  abbrev limits : Limits
  limits = s.limits

  abbrev start : State
  start = empty_state s.limits

  abbrev line : Timeline Images
  line = devices_line meaning devices

  abbrev next_line : Timeline Images
  next_line = devices_line meaning after_devices

  abbrev Either : Images → Type 0
  Either im = OpensWhole limits im cache ⊎ OpensWhole limits im next

  same_limits : (after s entry).limits ≡ s.limits
  same_limits = after_limits s entry

  -- ---- a crash meanwhile

  pub run : IsTrue tells → Reaches meaning old → EachSince line next_line Either
  run tell reaches =
      let stored = book.now tell unbroken in
      let ready = stored.ready in
      let told = same_cache tells meaning rests devices pair s stored tell in
      let P : Cache → Images → Type 0 = λ c im. OpensWhole s.limits im c ⊎ OpensWhole s.limits im (changed c bytes (Some entry)) in
      weaker line next_line _ Either (any_moment ready.bodies ready.file ready.version_is ready.journal ready.blobs_sure) (λ im between.
      subst (λ (c : Cache). P c im) (sym told)
      (meanwhile.opens_either s stored.all ready.bodies ready.spelled stored.are_legal stored.leads entry blob body book.low fit.legal fit.brings spellable is ready.file book.whole fit.whole fit.starts (reach_stored tells meaning rests devices pair s stored reaches) im between))

  was_honest : IsHonest tells next_line limits opened → IsHonest tells line limits opened
  was_honest honest = record { told = honest.told; sound = λ im left. honest.sound im (past.keeps opened im book.time left) }

  -- the same from limits that are those of the new state
  honest_here : IsHonest tells next_line (after s entry).limits opened → IsHonest tells next_line limits opened
  honest_here honest = subst (λ (l : Limits). IsHonest tells next_line l opened) same_limits honest

  -- it opens to a sound state before or after the entry
  sound_either : IsHonest tells line limits opened → (im : Images) → Either im → OpensSound limits im cache ⊎ OpensSound limits im next
  sound_either was im (inl before) = inl (record { opens = before.opens; sound = (book.sound was unbroken).0; reach = before.reach })
  sound_either was im (inr after) = inr (record { opens = after.opens; sound = fit.sound (book.sound was unbroken).0; reach = after.reach })

  -- ---- the steps

  module _ (tail : List Step) where
    abbrev made : List Step
    made = steps ++ Change entry ∷ tail

    leaves_next : after s entry ≡ after_steps start (steps ++ Change entry ∷ [])
    leaves_next = ap (λ (t : State). after t entry) book.history.leaves ∙ sym (steps_more start steps (Change entry ∷ []))

    -- at least the steps before are kept
    either_from : (im : Images) → OpensSound limits im cache ⊎ OpensSound limits im next → OpensFrom (length steps) limits made im
    either_from im (inl before) = from_all limits steps im (Change entry ∷ tail) cache before book.history.leaves
    either_from im (inr after) =
        subst (λ (l : List Step). OpensFrom (length steps) limits l im) (append_assoc steps (Change entry ∷ []) tail)
        (from_fewer limits ((steps ++ Change entry ∷ []) ++ tail) im (length steps) (length (steps ++ Change entry ∷ [])) (omega (arith, length-append steps (Change entry ∷ [])))
        (from_all limits (steps ++ Change entry ∷ []) im tail next after leaves_next))

    since_then : IsHonest tells next_line limits opened → (t : ℕ) (im : Images) → line.moment ≤ t → next_line.left t im → OpensFrom (length steps) limits made im
    since_then honest t im le left =
        let was = was_honest honest in
        either_from im (sound_either was im ((run honest.told (book.sound was unbroken).1).each t im le left))

    since_made : IsHonest tells next_line limits opened → (t : ℕ) (im : Images) → opened ≤ t → next_line.left t im → OpensFrom (opened_count made) limits made im
    since_made honest t im le left =
        subst (λ (n : ℕ). OpensFrom n limits made im) (sym (count_still limits steps s (devices_faults meaning devices) book.history (Change entry ∷ tail)))
        (⊎_elim (λ early. from_more limits steps im (opened_count steps) (Change entry ∷ tail) (book.since (was_honest honest) t im le (past.past t im (omega (arith, early)) left)))
        (λ late. from_fewer limits made im (opened_count steps) (length steps) (count_within limits steps s (devices_faults meaning devices) book.history) (since_then honest t im late left)) (cases_lt t line.moment))

    -- the history, where the steps after the change leave its state, and are lawful
    history_made : after s entry ≡ after_steps (after s entry) tail → AreLawful book.history.faults (after s entry) (leases_of_all no_leases book.history.made) tail → IfSome (broken_by tail) (λ now. now ≤ devices_faults meaning after_devices)
        → IsHistory (after s entry).limits made (after s entry) (devices_faults meaning after_devices)
    history_made still lawful broken =
        subst (λ (l : Limits). IsHistory l made (after s entry) (devices_faults meaning after_devices)) (sym same_limits)
        (history_more limits steps s (devices_faults meaning devices) book.history (Change entry ∷ tail) (after s entry) (devices_faults meaning after_devices) unbroken later still (fit.lawful (leases_of_all no_leases book.history.made), lawful) broken)

    change_is : change_in (drop (length steps) made) ≡ Some entry
    change_is = ap change_in (drop-append_seam steps (Change entry ∷ tail))

    pub next_is : (after_reads : ℕ) → next_cache old bytes (seen tells meaning after_devices (after s entry) made opened after_reads) ≡ next
    next_is after_reads = ap (λ (e : Option Entry). changed cache bytes e) change_is

    pub goes : (after_reads : ℕ) → (IsTrue tells → broken_by made ≡ None → Reaches meaning old → IfSome (meaning after_devices.blobs).held (λ file. AllReach file (after s entry)))
        → GoesOn tells meaning old bytes (seen tells meaning after_devices (after s entry) made opened after_reads)
    goes after_reads reaches = record {
      opened = refl;
      later = later;
      past = past;
      reaches = reaches;
      crash = λ tell none reaches.
          subst (λ (c : Cache). EachSince line next_line (λ im. OpensWhole limits im cache ⊎ OpensWhole limits im c)) (sym (next_is after_reads)) (run tell reaches);
    }

  -- ---- the entry was written

  module _ (new_pair : PairView) (same_version : new_pair.version ≡ pair.version)
      (ready : (bodies : List (List ℕ)) (file : List ℕ) → pair.version ≡ version → IsPairReady meaning devices pair bodies → IsSure (meaning devices.blobs) file
      → IsPairReady meaning after_devices new_pair (bodies ++ body ∷ []) × IsSure (meaning after_devices.blobs) (with_bytes file (place_of (fresh_of entry)) (bytes_or_none blob))) where
    stored_next : IsStored meaning devices pair s → IsStored meaning after_devices new_pair (after s entry)
    stored_next stored =
        let was = stored.ready in
        let both = ready was.bodies was.file was.version_is was.journal was.blobs_sure in
        let legal_is = meanwhile.legal_next s stored.all was.bodies was.spelled stored.are_legal stored.leads entry blob body book.low fit.legal fit.brings spellable is in
        let leads = meanwhile.leads_next s stored.all was.bodies was.spelled stored.are_legal stored.leads entry blob body book.low fit.legal fit.brings spellable is in
        record {
          all = stored.all ++ entry ∷ [];
          ready = record {
            version_is = same_version ∙ was.version_is;
            bodies = was.bodies ++ body ∷ [];
            journal = both.0;
            spelled = meanwhile.spelled_next s stored.all was.bodies was.spelled stored.are_legal stored.leads entry blob body book.low fit.legal fit.brings spellable is;
            file = with_bytes was.file (place_of (fresh_of entry)) (bytes_or_none blob);
            blobs_sure = both.1;
          };
          are_legal = subst (λ (l : Limits). AreLegal (empty_state l) (stored.all ++ entry ∷ [])) (sym same_limits) legal_is;
          leads = subst (λ (l : Limits). after s entry ≡ after_all (empty_state l) (stored.all ++ entry ∷ [])) (sym same_limits) leads;
        }

    -- the devices then tell the bytes of each blob, and of the new one those that came with it
    bytes_next : IsStored meaning devices pair s → IsTrue tells → told_cache tells meaning after_devices (after s entry) ≡ next
    unfolding stored_next
    bytes_next stored tell =
        let was = stored.ready in
        let told = same_cache tells meaning rests devices pair s stored tell in
        let placed = meanwhile.placed s stored.all was.bodies was.spelled stored.are_legal stored.leads in
        let now = stored_next stored in
        same_cache tells meaning rests after_devices new_pair (after s entry) now tell
        ∙ (λ i. record { index = after s entry; bytes = Some (written_gives s entry blob placed book.low fit.legal fit.brings was.file i) })
        ∙ ap (λ (c : Cache). changed c bytes (Some entry)) (sym told)

    nothing_at : (b : Bool) → b ≡ false → told_bytes b (meaning after_devices.blobs).held (after s entry) ≡ option_map (λ (all : FinMap blob_cmp (List ℕ)). kept all entry bytes) (told_bytes b (meaning devices.blobs).held s)
    nothing_at true off = absurd (cc)
    nothing_at false off = refl

    bytes_none : tells ≡ false → told_cache tells meaning after_devices (after s entry) ≡ next
    bytes_none off i = record { index = after s entry; bytes = nothing_at tells off i }

    pub told_next : told_cache tells meaning after_devices (after s entry) ≡ next
    told_next = split tells refl where
      split : (t : Bool) → tells ≡ t → told_cache tells meaning after_devices (after s entry) ≡ next
      split true e = bytes_next (book.now e unbroken) e
      split false e = bytes_none e

    reach_next : IsTrue tells → Reaches meaning old → IfSome (meaning after_devices.blobs).held (λ file. AllReach file (after s entry))
    unfolding stored_next
    reach_next tell reaches =
        let stored = book.now tell unbroken in
        let was = stored.ready in
        let placed = meanwhile.placed s stored.all was.bodies was.spelled stored.are_legal stored.leads in
        reaches_stored tells meaning rests after_devices new_pair (after s entry) (stored_next stored)
        (written_reaches s entry blob placed book.low fit.legal fit.brings was.file fit.starts (reach_stored tells meaning rests devices pair s stored reaches))

    abbrev Made : List Step
    Made = steps ++ Change entry ∷ []

    sound_next : IsHonest tells line limits opened → IsSound (told_cache tells meaning after_devices (after s entry))
    sound_next was = subst (λ (c : Cache). IsSound c) (sym told_next) (fit.sound (book.sound was unbroken).0)

    last_made : IsHonest tells next_line limits opened → (t : ℕ) (im : Images) → next_line.moment ≤ t → next_line.left t im → OpensFrom (sure_count Made) limits Made im
    last_made honest t im le left =
        let was = was_honest honest in
        let first = meaning after_devices.first in
        let second = meaning after_devices.second in
        let blobs = meaning after_devices.blobs in
        let now = (lending.rests first second blobs (rests after_devices.first) (rests after_devices.second) (rests after_devices.blobs)).stands t im le left in
        let opens = sound_stored tells meaning rests after_devices new_pair (after s entry) (stored_next (book.now honest.told unbroken)) honest.told fit.whole (sound_next was) (reach_next honest.told (book.sound was unbroken).1) im now in
        let here = subst (λ (l : Limits). OpensSound l im (told_cache tells meaning after_devices (after s entry))) same_limits opens in
        let from = from_all limits Made im [] (told_cache tells meaning after_devices (after s entry)) here (leaves_next []) in
        let count : length Made ≡ sure_count Made = (let long : length Made ≡ length steps + 1 = omega (arith, length-append steps (Change entry ∷ [])) in long) ∙ sym (sure_more steps entry unbroken) in
        subst (λ (n : ℕ). OpensFrom n limits Made im) count (subst (λ (l : List Step). OpensFrom (length Made) limits l im) (append-nil Made) from)

    pub kept_done : (after_reads : ℕ) → IsBook tells meaning (seen tells meaning after_devices (after s entry) (steps ++ Change entry ∷ []) opened after_reads) new_pair
    kept_done after_reads = record {
      history = history_made [] refl tt tt;
      whole = fit.whole;
      low = subst (λ (l : Limits). l.units ≤ 2 ^ 51) (sym same_limits) book.low;
      time = omega (arith, book.time, past.later);
      now = λ tell none. stored_next (book.now tell unbroken);
      sound = λ honest none. let was = was_honest (honest_here honest) in (sound_next was, reach_next honest.told (book.sound was unbroken).1);
      since = λ honest t im le left. subst (λ (l : Limits). OpensFrom (opened_count Made) l Made im) (sym same_limits) (since_made [] (honest_here honest) t im le left);
      last = λ honest t im le left. subst (λ (l : Limits). OpensFrom (sure_count Made) l Made im) (sym same_limits) (last_made (honest_here honest) t im le left);
    }

    pub goes_done : (after_reads : ℕ) → GoesOn tells meaning old bytes (seen tells meaning after_devices (after s entry) (steps ++ Change entry ∷ []) opened after_reads)
    goes_done after_reads = goes [] after_reads (λ tell none reaches. reach_next tell reaches)

    pub commits_done : (after_reads : ℕ) → Commits meaning old entry bytes (seen tells meaning after_devices (after s entry) (steps ++ Change entry ∷ []) opened after_reads) (Ok tt)
    commits_done after_reads = (unbroken, Some entry, (refl, refl), (told_next, refl))

  -- ---- the disks failed meanwhile

  module _ (new_pair : PairView) (before now : ℕ) (was_count : before ≡ devices_faults meaning devices) (is_count : now ≡ devices_faults meaning after_devices) (rose : Rose (devices_faults meaning devices) (devices_faults meaning after_devices)) where
    abbrev Noted : List Step
    Noted = Broke true before now ∷ []

    abbrev Broken : List Step
    Broken = steps ++ Change entry ∷ Broke true before now ∷ []

    never : broken_by (steps ++ Change entry ∷ Broke true before now ∷ []) ≡ None → ⊥
    never none = let gone : Some now ≡ None = sym (broken_more steps (Change entry ∷ Broke true before now ∷ []) unbroken) ∙ none in cc

    last_broken : IsHonest tells next_line limits opened → (t : ℕ) (im : Images) → next_line.moment ≤ t → next_line.left t im → OpensFrom (sure_count Broken) limits Broken im
    last_broken honest t im le left =
        subst (λ (n : ℕ). OpensFrom n limits Broken im) (sym (sure_unwritten steps entry before now unbroken)) (since_then Noted honest t im (omega (arith, le, past.later)) left)

    pub kept_failed : (after_reads : ℕ) → IsBook tells meaning (seen tells meaning after_devices (after s entry) (steps ++ Change entry ∷ Broke true before now ∷ []) opened after_reads) new_pair
    kept_failed after_reads = record {
      history = history_made Noted refl (omega (arith, was_count, book.history.later), omega (arith, was_count, is_count, rose), tt) (omega (arith, is_count));
      whole = fit.whole;
      low = subst (λ (l : Limits). l.units ≤ 2 ^ 51) (sym same_limits) book.low;
      time = omega (arith, book.time, past.later);
      now = λ tell none. absurd (never none);
      sound = λ honest none. absurd (never none);
      since = λ honest t im le left. subst (λ (l : Limits). OpensFrom (opened_count Broken) l Broken im) (sym same_limits) (since_made Noted (honest_here honest) t im le left);
      last = λ honest t im le left. subst (λ (l : Limits). OpensFrom (sure_count Broken) l Broken im) (sym same_limits) (last_broken (honest_here honest) t im le left);
    }

    pub goes_failed : (after_reads : ℕ) → GoesOn tells meaning old bytes (seen tells meaning after_devices (after s entry) (steps ++ Change entry ∷ Broke true before now ∷ []) opened after_reads)
    goes_failed after_reads = goes Noted after_reads (λ tell none reaches. absurd (never none))

    pub commits_failed : (after_reads : ℕ) → Commits meaning old entry bytes (seen tells meaning after_devices (after s entry) (steps ++ Change entry ∷ Broke true before now ∷ []) opened after_reads) (Err DiskFailed)
    commits_failed after_reads = (unbroken, tt, entry, (refl, refl), refl, λ i. steps ++ Change entry ∷ Broke true (was_count i) (is_count i) ∷ [])
