-- What a book's type keeps where nothing is written.
use Rattle.std.specs.Prelude.{◌≡◌, ◌⊎◌, ℕ, ◌≤◌, Bool, false, IsTrue, List, [], ◌∷◌, ◌++◌, length, Option, None, Some, IfSome, refl}
use Rattle.std.proofs.Common.{inl, ⊎_elim, sym, ◌∙◌, ap, subst, arith, append_assoc}
use Rattle.std.proofs.lemmas.Bool.{cases_lt}
use Rattle.ddc_names.specs.Causes.{Rose}
use Rattle.ddc_disk.specs.Disk.{Timeline, Meaning, EachImage, EachSince, IsImage, Rests, IsSure}
use Rattle.ddc_disk.specs.Images.{Images, devices_line, devices_faults}
use Rattle.ddc_disk.specs.Since.{started, weaker}
use Rattle.ddc_disk.specs.Lending as lending
use Rattle.ddc_disk.specs.declared.devices.Devices.{Devices}
use Rattle.ddc_journal.specs.Pairs.{PairView}
use Rattle.ddc_model.specs.declared.rows.Limits.{Limits}
use Rattle.ddc_model.specs.declared.entry.Step.{Step}
use Rattle.ddc_model.specs.declared.entry.Step.TheVariants.{Loaded, Broke}
use Rattle.ddc_model.specs.State.{State, empty_state}
use Rattle.ddc_model.specs.Sound.{Cache, IsSound}
use Rattle.ddc_model.specs.History.{after_steps, broken_by, leases_of_all, no_leases, AreLawful}
use Rattle.ddc_opening.specs.Opening.{AllReach, OpensAs}
use Rattle.ddc_opening.specs.Loading.{AsBefore}
use Rattle.ddc_book.specs.View.{BookView, told_cache, told_bytes, opened_count, sure_count, OpensFrom, Reaches, IsHonest, IsHistory, IsStored, IsBook}
use Rattle.ddc_book.specs.Calls.{OpensWhole, next_cache, Stays, BreaksReading, GoesOn}
use Rattle.ddc_book.specs.inside.Making.{IsServing, IsStill}
use Rattle.ddc_book.proofs.Lent.{ready_still}
use Rattle.ddc_book.proofs.Steps.{steps_more, broken_more, unbroken_after, lawful_more, opened_within, opened_still, sure_all, sure_unread}
use Rattle.ddc_book.proofs.Stored.{seen, opens_stored, reach_image, from_more, from_noted}

-- ---- the steps of a history

module _ (limits : Limits) (steps : List Step) (s : State) (count : ℕ) (h : IsHistory limits steps s count) where
  pub count_within : opened_count steps ≤ length steps
  count_within = subst (λ (l : List Step). opened_count l ≤ length l) (sym h.split) (opened_within h.opened limits h.faults h.made)

  pub count_still : (tail : List Step) → opened_count (steps ++ tail) ≡ opened_count steps
  count_still tail = subst (λ (l : List Step). opened_count (l ++ tail) ≡ opened_count l) (sym h.split) (opened_still h.opened limits h.faults h.made tail)

  broken_later : (o : Option ℕ) (more : ℕ) → count ≤ more → IfSome o (λ now. now ≤ count) → IfSome o (λ now. now ≤ more)
  broken_later None more le broken = tt
  broken_later (Some now) more le broken = omega (arith, le, broken)

  -- the count of faults goes on
  pub history_later : (more : ℕ) → count ≤ more → IsHistory limits steps s more
  history_later more le = record {
    opened = h.opened;
    faults = h.faults;
    made = h.made;
    split = h.split;
    unbroken = h.unbroken;
    lawful = h.lawful;
    leaves = h.leaves;
    later = omega (arith, h.later, le);
    broken = broken_later (broken_by steps) more le h.broken;
  }

  -- more steps stand, which are lawful and leave this state
  pub history_more : (tail : List Step) (t : State) (more : ℕ) → broken_by steps ≡ None → count ≤ more → t ≡ after_steps s tail → AreLawful h.faults s (leases_of_all no_leases h.made) tail → IfSome (broken_by tail) (λ now. now ≤ more) → IsHistory limits (steps ++ tail) t more
  history_more tail t more none le leaves lawful broken =
      let since : s ≡ after_steps (after_steps (empty_state limits) h.opened) h.made = h.leaves ∙ ap (after_steps (empty_state limits)) h.split ∙ steps_more (empty_state limits) h.opened (Loaded limits h.faults ∷ h.made) in
      record {
        opened = h.opened;
        faults = h.faults;
        made = h.made ++ tail;
        split = ap (λ (l : List Step). l ++ tail) h.split ∙ append_assoc h.opened (Loaded limits h.faults ∷ h.made) tail;
        unbroken = h.unbroken;
        lawful = lawful_more h.faults (after_steps (empty_state limits) h.opened) no_leases h.made tail (unbroken_after h.opened limits h.faults h.made (ap broken_by (sym h.split) ∙ none)) h.lawful
            (subst (λ (t : State). AreLawful h.faults t (leases_of_all no_leases h.made) tail) since lawful);
        leaves = leaves ∙ ap (λ (t : State). after_steps t tail) h.leaves ∙ sym (steps_more (empty_state limits) steps tail);
        later = omega (arith, h.later, le);
        broken = subst (λ (o : Option ℕ). IfSome o (λ now. now ≤ more)) (sym (broken_more steps tail none)) broken;
      }

-- ---- nothing is done to the devices

module _ {D : Type 0} (tells : Bool) (meaning : D → Meaning) (rests : (d : D) → Rests (meaning d).line) (devices : Devices D) (s : State) (steps : List Step) (opened reads : ℕ) (pair : PairView)
    (kept : IsBook tells meaning (seen tells meaning devices s steps opened reads) pair) where
  abbrev pub book : BookView D
  book = seen tells meaning devices s steps opened reads

  abbrev line : Timeline Images
  line = devices_line meaning devices

  pub all_rest : Rests line
  all_rest = lending.rests (meaning devices.first) (meaning devices.second) (meaning devices.blobs) (rests devices.first) (rests devices.second) (rests devices.blobs)

  -- a crash now leaves its state, with the bytes of its blobs
  pub opens_now : IsTrue tells → broken_by steps ≡ None → EachImage line (λ im. OpensAs s.limits im (told_cache tells meaning devices s))
  opens_now tell none im now = opens_stored tells meaning rests devices pair s (kept.now tell none) tell kept.whole im now

  pub whole_now : IsTrue tells → broken_by steps ≡ None → Reaches meaning book → EachImage line (λ im. OpensWhole s.limits im (told_cache tells meaning devices s))
  whole_now tell none reaches im now = record { opens = opens_now tell none im now; reach = reach_image tells meaning rests devices pair s (kept.now tell none) reaches im now }

  -- whatever is done to the count of reads
  pub with_reads : (more : ℕ) → IsBook tells meaning (seen tells meaning devices s steps opened more) pair
  with_reads more = record { history = kept.history; whole = kept.whole; low = kept.low; time = kept.time; now = kept.now; sound = kept.sound; since = kept.since; last = kept.last }

  -- ---- the devices are read

  module _ (after : Devices D) (first : after.first ≡ devices.first) (second : after.second ≡ devices.second) (sure : (file : List ℕ) → IsSure (meaning devices.blobs) file → IsSure (meaning after.blobs) file) (as_before : AsBefore meaning devices after) where
    abbrev next_line : Timeline Images
    next_line = devices_line meaning after

    pub same_told : told_cache tells meaning after s ≡ told_cache tells meaning devices s
    same_told i = record { index = s; bytes = told_bytes tells (as_before.blobs i) s }

    same_reach : Reaches meaning book → IfSome (meaning after.blobs).held (λ file. AllReach file s)
    same_reach reaches = subst (λ (o : Option (List ℕ)). IfSome o (λ file. AllReach file s)) (sym as_before.blobs) reaches

    stored_still : IsStored meaning devices pair s → IsStored meaning after pair s
    stored_still stored = record {
      all = stored.all;
      ready = record {
        version_is = stored.ready.version_is;
        bodies = stored.ready.bodies;
        journal = ready_still meaning devices after pair stored.ready.bodies first second stored.ready.journal;
        spelled = stored.ready.spelled;
        file = stored.ready.file;
        blobs_sure = sure stored.ready.file stored.ready.blobs_sure;
      };
      are_legal = stored.are_legal;
      leads = stored.leads;
    }

    was_honest : IsHonest tells next_line s.limits opened → IsHonest tells line s.limits opened
    was_honest honest = record { told = honest.told; sound = λ im left. honest.sound im (as_before.since.keeps opened im kept.time left) }

    since_still : IsHonest tells next_line s.limits opened → (t : ℕ) (im : Images) → opened ≤ t → next_line.left t im → OpensFrom (opened_count steps) s.limits steps im
    since_still honest t im le left =
        ⊎_elim (λ early. kept.since (was_honest honest) t im le (as_before.since.past t im (omega (arith, early)) left))
        (λ late. kept.since (was_honest honest) line.moment im kept.time (as_before.since.each t im late left)) (cases_lt t line.moment)

    last_still : IsHonest tells next_line s.limits opened → (t : ℕ) (im : Images) → next_line.moment ≤ t → next_line.left t im → OpensFrom (sure_count steps) s.limits steps im
    last_still honest t im le left = kept.last (was_honest honest) line.moment im (omega arith) (as_before.since.each t im (omega (arith, le, as_before.since.later)) left)

    -- the book stays as it was
    pub kept_still : (more : ℕ) → IsBook tells meaning (seen tells meaning after s steps opened more) pair
    kept_still more = record {
      history = history_later s.limits steps s (devices_faults meaning devices) kept.history (devices_faults meaning after) as_before.later;
      whole = kept.whole;
      low = kept.low;
      time = omega (arith, kept.time, as_before.since.later);
      now = λ tell none. stored_still (kept.now tell none);
      sound = λ honest none. let was = kept.sound (was_honest honest) none in (subst (λ (c : Cache). IsSound c) (sym same_told) was.0, same_reach was.1);
      since = since_still;
      last = last_still;
    }

    past_still : EachSince line next_line (λ _. Unit {0})
    past_still = weaker line next_line (IsImage line) (λ _. Unit {0}) as_before.since (λ im now. tt)

    crash_still : (P : Images → Type 0) → IsTrue tells → broken_by steps ≡ None → Reaches meaning book → EachSince line next_line (λ im. OpensWhole s.limits im (told_cache tells meaning devices s) ⊎ P im)
    crash_still P tell none reaches = weaker line next_line (IsImage line) (λ im. OpensWhole s.limits im (told_cache tells meaning devices s) ⊎ P im) as_before.since (λ im now. inl (whole_now tell none reaches im now))

    pub stays_still : (more : ℕ) → Stays meaning book (seen tells meaning after s steps opened more)
    stays_still more = record { cache = same_told; steps = refl; devices = as_before }

    pub goes_still : (bytes : List ℕ) (more : ℕ) → GoesOn tells meaning book bytes (seen tells meaning after s steps opened more)
    goes_still bytes more = record {
      opened = refl;
      later = as_before.later;
      past = past_still;
      reaches = λ tell none reaches. same_reach reaches;
      crash = λ tell none reaches. crash_still (λ im. OpensWhole s.limits im (next_cache book bytes (seen tells meaning after s steps opened more))) tell none reaches;
    }

    -- ---- the disks failed meanwhile

    module _ (before now : ℕ) (none : broken_by steps ≡ None) (was : before ≡ devices_faults meaning devices) (is : now ≡ devices_faults meaning after) (rose : Rose (devices_faults meaning devices) (devices_faults meaning after)) where
      abbrev tail : List Step
      tail = Broke false before now ∷ []

      noted : broken_by (steps ++ tail) ≡ Some now
      noted = broken_more steps tail none

      never : broken_by (steps ++ tail) ≡ None → ⊥
      never e = let gone : Some now ≡ None = sym noted ∙ e in cc

      last_unread : IsHonest tells next_line s.limits opened → (t : ℕ) (im : Images) → next_line.moment ≤ t → next_line.left t im → OpensFrom (sure_count (steps ++ tail)) s.limits (steps ++ tail) im
      last_unread honest t im le left =
          let old = subst (λ (n : ℕ). OpensFrom n s.limits steps im) (sure_all steps none) (last_still honest t im le left) in
          subst (λ (n : ℕ). OpensFrom n s.limits (steps ++ tail) im) (sym (sure_unread steps before now none)) (from_noted s.limits steps im false before now old)

      pub kept_unread : (more : ℕ) → IsBook tells meaning (seen tells meaning after s (steps ++ Broke false before now ∷ []) opened more) pair
      kept_unread more = record {
        history = history_more s.limits steps s (devices_faults meaning devices) kept.history tail s (devices_faults meaning after) none as_before.later refl
            (omega (arith, was, kept.history.later), omega (arith, was, is, rose), tt) (omega (arith, is));
        whole = kept.whole;
        low = kept.low;
        time = omega (arith, kept.time, as_before.since.later);
        now = λ tell e. absurd (never e);
        sound = λ honest e. absurd (never e);
        since = λ honest t im le left.
            subst (λ (n : ℕ). OpensFrom n s.limits (steps ++ tail) im) (sym (count_still s.limits steps s (devices_faults meaning devices) kept.history tail)) (from_more s.limits steps im (opened_count steps) tail (since_still honest t im le left));
        last = last_unread;
      }

      pub breaks_unread : (more : ℕ) → BreaksReading meaning book (seen tells meaning after s (steps ++ Broke false before now ∷ []) opened more)
      breaks_unread more = (none, same_told, λ i. steps ++ Broke false (was i) (is i) ∷ [])

      pub goes_unread : (bytes : List ℕ) (more : ℕ) → GoesOn tells meaning book bytes (seen tells meaning after s (steps ++ Broke false before now ∷ []) opened more)
      goes_unread bytes more = record {
        opened = refl;
        later = as_before.later;
        past = past_still;
        reaches = λ tell e reaches. absurd (never e);
        crash = λ tell e reaches. crash_still (λ im. OpensWhole s.limits im (next_cache book bytes (seen tells meaning after s (steps ++ Broke false before now ∷ []) opened more))) tell e reaches;
      }

  -- ---- nothing at all is done

  pub as_now : AsBefore meaning devices devices
  as_now = record { first = refl; second = refl; blobs = refl; later = omega arith; since = started line (IsImage line) all_rest (λ im now. now) }

  pub still : IsStill tells meaning book
  still = record { stays = stays_still devices refl refl (λ file sure. sure) as_now reads; goes = λ bytes. goes_still devices refl refl (λ file sure. sure) as_now bytes reads }

  pub serves : broken_by steps ≡ None → IsServing tells meaning book
  serves none = record { unbroken = none; whole = kept.whole; still = still }
