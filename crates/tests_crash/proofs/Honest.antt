-- That the devices of a store were honest when it was opened, from what its making or its opening says.
use Rattle.std.specs.Prelude.{◌≡◌, ◌⊎◌, ℕ, true, List, [], Option, None, Some, IfSome, Result, Ok, Err, refl}
use Rattle.std.specs.FinMap.{get, get-empty}
use Rattle.std.proofs.Common.{inl, inr, sym, ◌∙◌, ap, subst, arith}
use Rattle.ddc_disk.specs.Disk.{EachSince, IsImage}
use Rattle.ddc_disk.specs.Images.{Images, devices_line, together}
use Rattle.ddc_disk.specs.Memory.{MemoryHistory, memory_meaning}
use Rattle.ddc_disk.specs.MemDisks.{told_by}
use Rattle.ddc_disk.specs.declared.devices.Devices.{Devices}
use Rattle.ddc_disk.specs.declared.mem_disk.MemDisk.{MemDisk}
use Rattle.ddc_journal.specs.Journal.{is_made}
use Rattle.ddc_journal.specs.Pairs.{IfBoth, NoneMade}
use Rattle.ddc_model.specs.declared.entry.Entry.{Entry}
use Rattle.ddc_model.specs.declared.fault.StoreFault.{StoreFault}
use Rattle.ddc_model.specs.declared.fault.StoreFault.TheVariants.{Broken, UnknownSpace, NotFound, NotFinalised, NotPending, Full, HistoryFull, NoMemory, DiskFailed, Damaged}
use Rattle.ddc_model.specs.declared.rows.Blob.{Blob}
use Rattle.ddc_model.specs.declared.rows.BlobName.{BlobName}
use Rattle.ddc_model.specs.declared.rows.Limits.{Limits}
use Rattle.ddc_model.specs.Keys.{blob_cmp}
use Rattle.ddc_model.specs.State.{State, empty_state}
use Rattle.ddc_model.specs.Sound.{Cache, empty_cache}
use Rattle.ddc_opening.specs.BytesIn.{sure_sound}
use Rattle.ddc_opening.specs.Opening.{OpensAs, OpensSound}
use Rattle.ddc_book.specs.Calls.{Stays, Becomes, CommandMakes, CommandGives, GoesOn}
use Rattle.ddc_book.specs.Loading.{IsCreated, IsLoaded}
use Rattle.ddc_book.specs.View.{BookView, limits_of, book_line, EachFrom}
use Rattle.ddc_book.proofs.Limits.{after_limits}
use Rattle.tests_crash.specs.Honest.{AreNew, HoldSound, NoneOrEmpty, WasHonest}

-- ---- the opening

-- an image that opens to the empty state is sound
module _ (limits : Limits) (im : Images) (cache : Cache) (index : cache.index ≡ empty_state limits) (opens : OpensAs limits im cache) where
  none : (name : BlobName) (blob : Blob) → get cache.index.blobs name ≡ Some blob → ⊥
  none name blob there =
      let e : None ≡ Some blob = sym (ap (λ (s : State). get s.blobs name) index ∙ get-empty blob_cmp name) ∙ there in
      cc e

  pub empty_sound : OpensSound limits im cache
  empty_sound = sure_sound limits im cache opens (λ name blob there. absurd (none name blob there)) (λ name blob there. absurd (none name blob there))

-- so the devices of a store that was made just now are honest
pub honest_made : (old : Devices MemDisk) (limits : Limits) (book : BookView MemDisk) → IsCreated true told_by old limits book → WasHonest limits book.opened book
honest_made old limits book made = record {
  within = ap (λ (s : State). s.limits) made.index;
  opening = refl;
  time = omega (arith, made.opened);
  honest = record {
    told = refl;
    sound = λ im left. (book.cache, empty_sound limits im book.cache made.index (made.opens refl im (subst (λ (t : ℕ). (book_line told_by book).left t im) made.opened left)));
  };
}

-- and those of a store that was opened on devices of which a crash leaves a sound state
pub honest_loaded : (old : Devices MemDisk) (limits : Limits) (book : BookView MemDisk) → HoldSound limits old → IsLoaded true told_by old limits book → WasHonest limits book.opened book
honest_loaded old limits book sound loaded = record {
  within = loaded.limits_are;
  opening = refl;
  time = omega (arith, loaded.opened);
  honest = record {
    told = refl;
    sound = λ im left. sound im (loaded.as_before.since.each book.opened im (omega (arith, loaded.opened, loaded.as_before.since.later)) left);
  };
}

-- ---- the making

-- on new disks it leaves no store, or the empty one
module _ (old : Devices MemDisk) (new : AreNew old) where
  new_moment : (devices_line told_by old).moment ≡ 0
  new_moment = λ i. (together (memory_meaning (new.first i)) (memory_meaning (new.second i)) (memory_meaning (new.blobs i))).moment

  new_image : (im : Images) → IsImage (devices_line told_by old) im → NoneMade im.first im.second
  new_image im image =
      let a : im.first ≡ [] = subst (λ (h : MemoryHistory). (memory_meaning h).line.left (devices_line told_by old).moment im.first) new.first image.0 in
      let b : im.second ≡ [] = subst (λ (h : MemoryHistory). (memory_meaning h).line.left (devices_line told_by old).moment im.second) new.second image.1 in
      (ap is_made a, ap is_made b)

  new_both : (X : Type 0) → IfBoth told_by old (λ a b. NoneMade a b → X) → X
  new_both X both = subst (λ (p : MemoryHistory × MemoryHistory). IfSome (memory_meaning p.0).held (λ a. IfSome (memory_meaning p.1).held (λ b. NoneMade a b → X))) (λ i. (new.first i, new.second i)) both (refl, refl)

  pub made_before : (limits : Limits) (book : BookView MemDisk) → IsCreated true told_by old limits book → EachFrom (book_line told_by book) 0 (NoneOrEmpty limits)
  made_before limits book made t im le left =
      let P : Images → Type 0 = λ im. IsImage (devices_line told_by old) im ⊎ NoneMade im.first im.second ⊎ OpensAs limits im (empty_cache limits) in
      let run = new_both (EachSince (devices_line told_by old) (devices_line told_by book.devices) P) made.creates.each in
      elim (run.each t im (omega (arith, new_moment)) left) [
        | inl image ↦ inl (new_image im image)
        | inr (inl unmade) ↦ inl unmade
        | inr (inr opens) ↦ inr (empty_sound limits im (empty_cache limits) refl opens)
      ]

-- ---- the commands since

-- a command changes no limits
module _ {A : Type 0} (old new : BookView MemDisk) (bytes : List ℕ) (Answers : Result A StoreFault → Option Entry → Type 0) where
  unmade : Stays told_by old new → limits_of new ≡ limits_of old
  unmade stays = ap (λ (c : Cache). c.index.limits) stays.cache

  becomes : (made : Option Entry) → Becomes told_by old bytes new made → limits_of new ≡ limits_of old
  becomes None is = unmade is
  becomes (Some entry) is = ap (λ (c : Cache). c.index.limits) is.0 ∙ after_limits old.cache.index entry

  makes : (answer : Result A StoreFault) → CommandMakes told_by old bytes new Answers answer → limits_of new ≡ limits_of old
  makes answer m = becomes m.1 m.3

  pub limits_kept : (answer : Result A StoreFault) → CommandGives told_by old bytes new Answers answer → limits_of new ≡ limits_of old
  limits_kept (Ok got) m = makes (Ok got) m
  limits_kept (Err (Broken faults)) m = unmade m.1
  limits_kept (Err UnknownSpace) m = makes (Err UnknownSpace) m
  limits_kept (Err NotFound) m = makes (Err NotFound) m
  limits_kept (Err NotFinalised) m = makes (Err NotFinalised) m
  limits_kept (Err NotPending) m = makes (Err NotPending) m
  limits_kept (Err (Full what limit)) m = makes (Err (Full what limit)) m
  limits_kept (Err (HistoryFull entries links)) m = makes (Err (HistoryFull entries links)) m
  limits_kept (Err NoMemory) m = unmade m.1
  limits_kept (Err DiskFailed) m = ap (λ (s : State). s.limits) m.4 ∙ after_limits old.cache.index m.2
  limits_kept (Err (Damaged hash found)) m = makes (Err (Damaged hash found)) m

-- and what was left at the opening stays
pub honest_then : (limits : Limits) (opened : ℕ) (old new : BookView MemDisk) (bytes : List ℕ) → WasHonest limits opened old → GoesOn true told_by old bytes new → limits_of new ≡ limits_of old → WasHonest limits opened new
honest_then limits opened old new bytes was goes same = record {
  within = same ∙ was.within;
  opening = goes.opened ∙ was.opening;
  time = omega (arith, was.time, goes.past.later);
  honest = record {
    told = was.honest.told;
    sound = λ im left. was.honest.sound im (goes.past.past opened im was.time left);
  };
}
