-- That making an entry keeps what a book's type keeps, and gives what it says.
use Rattle.std.specs.Prelude.{◌≡◌, ℕ, ◌≤◌, Bool, true, List, [], ◌∷◌, ◌++◌, Option, None, Some, Ok, Err, refl}
use Rattle.std.proofs.Common.{sym, ◌∙◌, ap, subst, arith}
use Rattle.ddc_names.specs.Causes.{Rose}
use Rattle.ddc_disk.specs.Disk.{Meaning, EachSince, Rests, IsSure}
use Rattle.ddc_disk.specs.Images.{devices_line, devices_faults}
use Rattle.ddc_disk.specs.declared.devices.Devices.{Devices}
use Rattle.ddc_journal.specs.Pairs.{PairView, IsPairReady}
use Rattle.ddc_entry.specs.Spelling.{spelling, IsEntry}
use Rattle.ddc_model.specs.declared.rows.Extent.{Extent}
use Rattle.ddc_model.specs.declared.entry.Stored.{Stored}
use Rattle.ddc_model.specs.declared.entry.Entry.{Entry}
use Rattle.ddc_model.specs.declared.entry.Step.{Step}
use Rattle.ddc_model.specs.declared.entry.Step.TheVariants.{Change, Broke}
use Rattle.ddc_model.specs.declared.fault.StoreFault.TheVariants.{DiskFailed}
use Rattle.ddc_model.specs.Limits.{most_bytes, most_links}
use Rattle.ddc_model.specs.State.{State}
use Rattle.ddc_model.specs.Entries.{after, legal}
use Rattle.ddc_model.specs.Counts.{added_links, fresh_of}
use Rattle.ddc_model.specs.History.{broken_by}
use Rattle.ddc_opening.specs.Opening.{version}
use Rattle.ddc_book.specs.View.{BookView, told_cache, IsBook}
use Rattle.ddc_book.specs.Calls.{Stays, Commits, GoesOn}
use Rattle.ddc_book.specs.inside.Making.{bytes_or_none, fresh_length, place_of, with_bytes, Between, IsFit}
use Rattle.ddc_book.proofs.Written.{legal_free}
use Rattle.ddc_book.proofs.Stored.{seen}
use Rattle.ddc_book.proofs.Still as at_rest
use Rattle.ddc_book.proofs.Kept as kept

-- ---- the blob of a legal entry

length_at : (s : State) (entry : Entry) → legal s entry ≡ true → (fresh : Option Stored) → fresh_of entry ≡ fresh → fresh_length fresh ≤ most_bytes
length_at s entry is None e = omega arith
length_at s entry is (Some fresh) e = (legal_free s entry is fresh e).short

pub legal_short : (s : State) (entry : Entry) → legal s entry ≡ true → fresh_length (fresh_of entry) ≤ most_bytes
legal_short s entry is = length_at s entry is (fresh_of entry) refl

links_at : (s : State) (entry : Entry) → legal s entry ≡ true → (fresh : Option Stored) → fresh_of entry ≡ fresh → added_links fresh ≤ most_links
links_at s entry is None e = omega arith
links_at s entry is (Some fresh) e = (legal_free s entry is fresh e).few

pub legal_few : (s : State) (entry : Entry) → legal s entry ≡ true → added_links (fresh_of entry) ≤ most_links
legal_few s entry is = links_at s entry is (fresh_of entry) refl

-- the same state and steps show the same book
pub seen_alike : {D : Type 0} (tells : Bool) (meaning : D → Meaning) (devices : Devices D) (s t : State) (steps more : List Step) (opened reads : ℕ) → s ≡ t → steps ≡ more → seen tells meaning devices s steps opened reads ≡ seen tells meaning devices t more opened reads
seen_alike tells meaning devices s t steps more opened reads is same i = seen tells meaning devices (is i) (same i) opened reads

module _ {D : Type 0} (tells : Bool) (meaning : D → Meaning) (rests : (d : D) → Rests (meaning d).line) (devices : Devices D) (s : State) (steps : List Step) (opened reads : ℕ) (pair : PairView)
    (book : IsBook tells meaning (seen tells meaning devices s steps opened reads) pair) (now : BookView D) (view_is : seen tells meaning devices s steps opened reads ≡ now) (unbroken : broken_by now.steps ≡ None) where
  abbrev old : BookView D
  old = seen tells meaning devices s steps opened reads

  was_unbroken : broken_by steps ≡ None
  was_unbroken = ap (λ (b : BookView D). broken_by b.steps) view_is ∙ unbroken

  -- ---- there was no memory

  module _ (new : BookView D) (same : new ≡ old) (bytes : List ℕ) where
    pub unmade_stays : Stays meaning now new
    unmade_stays = subst (λ (b : BookView D). Stays meaning b new) view_is (subst (λ (b : BookView D). Stays meaning old b) (sym same) (at_rest.still tells meaning rests devices s steps opened reads pair book).stays)

    pub unmade_goes : GoesOn tells meaning now bytes new
    unmade_goes = subst (λ (b : BookView D). GoesOn tells meaning b bytes new) view_is (subst (λ (b : BookView D). GoesOn tells meaning old bytes b) (sym same) ((at_rest.still tells meaning rests devices s steps opened reads pair book).goes bytes))

  -- ---- the entry was made

  module _ (entry : Entry) (blob : Option (List ℕ)) (now_fit : IsFit now.cache entry blob) (body : List ℕ) (spellable : IsEntry entry) (is : body ≡ spelling entry) (place : Extent) (place_is : place ≡ place_of (fresh_of entry))
      (after_devices : Devices D) (new_pair : PairView) (later : devices_faults meaning devices ≤ devices_faults meaning after_devices)
      (past : EachSince (devices_line meaning devices) (devices_line meaning after_devices) (λ _. Unit {0}))
      (any_moment : (bodies : List (List ℕ)) (file : List ℕ) → pair.version ≡ version → IsPairReady meaning devices pair bodies → IsSure (meaning devices.blobs) file
      → EachSince (devices_line meaning devices) (devices_line meaning after_devices) (Between bodies body file place (bytes_or_none blob))) where
    fit : IsFit (told_cache tells meaning devices s) entry blob
    fit = subst (λ (b : BookView D). IsFit b.cache entry blob) (sym view_is) now_fit

    abbrev Moments : Extent → Type 0
    Moments at = (bodies : List (List ℕ)) (file : List ℕ) → pair.version ≡ version → IsPairReady meaning devices pair bodies → IsSure (meaning devices.blobs) file
        → EachSince (devices_line meaning devices) (devices_line meaning after_devices) (Between bodies body file at (bytes_or_none blob))

    moments : Moments (place_of (fresh_of entry))
    moments = subst Moments place_is any_moment

    module _ (t : State) (t_is : t ≡ after s entry) (made : List Step) (after_reads : ℕ) where
      abbrev new : BookView D
      new = seen tells meaning after_devices t made opened after_reads

      -- it was written
      module _ (made_is : made ≡ steps ++ Change entry ∷ []) (same_version : new_pair.version ≡ pair.version)
          (ready : (bodies : List (List ℕ)) (file : List ℕ) → pair.version ≡ version → IsPairReady meaning devices pair bodies → IsSure (meaning devices.blobs) file
          → IsPairReady meaning after_devices new_pair (bodies ++ body ∷ []) × IsSure (meaning after_devices.blobs) (with_bytes file place (bytes_or_none blob))) where
        abbrev Readies : Extent → Type 0
        Readies at = (bodies : List (List ℕ)) (file : List ℕ) → pair.version ≡ version → IsPairReady meaning devices pair bodies → IsSure (meaning devices.blobs) file
            → IsPairReady meaning after_devices new_pair (bodies ++ body ∷ []) × IsSure (meaning after_devices.blobs) (with_bytes file at (bytes_or_none blob))

        readies : Readies (place_of (fresh_of entry))
        readies = subst Readies place_is ready

        same_done : seen tells meaning after_devices t made opened after_reads ≡ seen tells meaning after_devices (after s entry) (steps ++ Change entry ∷ []) opened after_reads
        same_done = seen_alike tells meaning after_devices t (after s entry) made (steps ++ Change entry ∷ []) opened after_reads t_is made_is

        pub done_book : IsBook tells meaning (seen tells meaning after_devices t made opened after_reads) new_pair
        done_book =
            subst (λ (b : BookView D). IsBook tells meaning b new_pair) (sym same_done)
            (kept.kept_done tells meaning rests devices s steps opened reads pair book was_unbroken entry blob fit body spellable is after_devices later past moments new_pair same_version readies after_reads)

        pub done_goes : GoesOn tells meaning now (bytes_or_none blob) (seen tells meaning after_devices t made opened after_reads)
        done_goes =
            subst (λ (b : BookView D). GoesOn tells meaning b (bytes_or_none blob) new) view_is
            (subst (λ (b : BookView D). GoesOn tells meaning old (bytes_or_none blob) b) (sym same_done)
            (kept.goes_done tells meaning rests devices s steps opened reads pair book was_unbroken entry blob fit body spellable is after_devices later past moments new_pair same_version readies after_reads))

        pub done_commits : Commits meaning now entry (bytes_or_none blob) (seen tells meaning after_devices t made opened after_reads) (Ok tt)
        done_commits =
            subst (λ (b : BookView D). Commits meaning b entry (bytes_or_none blob) new (Ok tt)) view_is
            (subst (λ (b : BookView D). Commits meaning old entry (bytes_or_none blob) b (Ok tt)) (sym same_done)
            (kept.commits_done tells meaning rests devices s steps opened reads pair book was_unbroken entry blob fit body spellable is after_devices later past moments new_pair same_version readies after_reads))

      -- the disks failed
      module _ (before count : ℕ) (made_is : made ≡ steps ++ Change entry ∷ Broke true before count ∷ []) (was : before ≡ devices_faults meaning devices) (counted : count ≡ devices_faults meaning after_devices)
          (rose : Rose (devices_faults meaning devices) (devices_faults meaning after_devices)) where
        same_failed : seen tells meaning after_devices t made opened after_reads ≡ seen tells meaning after_devices (after s entry) (steps ++ Change entry ∷ Broke true before count ∷ []) opened after_reads
        same_failed = seen_alike tells meaning after_devices t (after s entry) made (steps ++ Change entry ∷ Broke true before count ∷ []) opened after_reads t_is made_is

        pub failed_book : IsBook tells meaning (seen tells meaning after_devices t made opened after_reads) new_pair
        failed_book =
            subst (λ (b : BookView D). IsBook tells meaning b new_pair) (sym same_failed)
            (kept.kept_failed tells meaning rests devices s steps opened reads pair book was_unbroken entry blob fit body spellable is after_devices later past moments new_pair before count was counted rose after_reads)

        pub failed_goes : GoesOn tells meaning now (bytes_or_none blob) (seen tells meaning after_devices t made opened after_reads)
        failed_goes =
            subst (λ (b : BookView D). GoesOn tells meaning b (bytes_or_none blob) new) view_is
            (subst (λ (b : BookView D). GoesOn tells meaning old (bytes_or_none blob) b) (sym same_failed)
            (kept.goes_failed tells meaning rests devices s steps opened reads pair book was_unbroken entry blob fit body spellable is after_devices later past moments new_pair before count was counted rose after_reads))

        pub failed_commits : Commits meaning now entry (bytes_or_none blob) (seen tells meaning after_devices t made opened after_reads) (Err DiskFailed)
        failed_commits =
            subst (λ (b : BookView D). Commits meaning b entry (bytes_or_none blob) new (Err DiskFailed)) view_is
            (subst (λ (b : BookView D). Commits meaning old entry (bytes_or_none blob) b (Err DiskFailed)) (sym same_failed)
            (kept.commits_failed tells meaning rests devices s steps opened reads pair book was_unbroken entry blob fit body spellable is after_devices later past moments new_pair before count was counted rose after_reads))
