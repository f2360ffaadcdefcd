-- That reading a blob keeps what a book's type keeps, and gives what it says.
use Rattle.std.specs.Prelude.{◌≡◌, ◌⊎◌, ℕ, ◌^◌, ◌≤◌, Bool, true, false, List, [], ◌∷◌, ◌++◌, length, Option, None, Some, IfSome, option_map, refl}
use Rattle.std.proofs.Common.{inl, inr, sym, ◌∙◌, ap, subst}
use Rattle.std.specs.FinMap.{get}
use Rattle.ddc_names.specs.declared.hash.IoHash.{IoHash}
use Rattle.ddc_names.specs.Causes.{Rose}
use Rattle.ddc_disk.specs.Disk.{Meaning, Rests, IsSure}
use Rattle.ddc_disk.specs.Images.{devices_faults}
use Rattle.ddc_disk.specs.declared.devices.Devices.{Devices}
use Rattle.ddc_journal.specs.Pairs.{PairView}
use Rattle.ddc_model.specs.declared.rows.Blob.{Blob}
use Rattle.ddc_model.specs.declared.rows.BlobName.{BlobName}
use Rattle.ddc_model.specs.declared.rows.BlobRow.{BlobRow}
use Rattle.ddc_model.specs.declared.entry.Step.{Step}
use Rattle.ddc_model.specs.declared.entry.Step.TheVariants.{Broke}
use Rattle.ddc_model.specs.declared.fault.StoreFault.{StoreFault}
use Rattle.ddc_model.specs.declared.fault.StoreFault.TheVariants.{NoMemory, DiskFailed}
use Rattle.ddc_model.specs.State.{State, blob_name, blob_at}
use Rattle.ddc_model.specs.Extents.{IsPlaced}
use Rattle.ddc_model.specs.Commands.{MayRead}
use Rattle.ddc_model.specs.History.{broken_by}
use Rattle.ddc_model.proofs.Maps.{same_some}
use Rattle.blob_store.specs.Bytes.{bytes_from, first_byte, LieIn}
use Rattle.ddc_opening.specs.Opening.{bytes_at}
use Rattle.ddc_opening.specs.Loading.{AsBefore}
use Rattle.ddc_opening.specs.BytesIn.{get_bytes}
use Rattle.ddc_book.specs.View.{BookView, told_bytes, told_cache, IsBook}
use Rattle.ddc_book.specs.Calls.{Stays, BreaksReading, GoesOn}
use Rattle.ddc_book.specs.inside.Making.{IsServing}
use Rattle.ddc_book.proofs.Written.{lies}
use Rattle.ddc_book.proofs.Stored.{seen}
use Rattle.ddc_book.proofs.Still as at_rest

-- ---- the row of a blob

-- a row is that of a blob that is there
pub row_of : (found : Option Blob) (row : BlobRow) → option_map (λ (blob : Blob). blob.row) found ≡ Some row → (blob : Blob) × (found ≡ Some blob) × (blob.row ≡ row)
row_of None row is = absurd (cc)
row_of (Some blob) row is = (blob, refl, same_some blob.row row is)

-- its bytes lie in its extent
pub row_lies : (s : State) (space : List ℕ) (hash : IoHash) (row : BlobRow) → IsPlaced s → s.limits.units ≤ 2 ^ 51 → option_map (λ (blob : Blob). blob.row) (blob_at s space hash) ≡ Some row → LieIn row.extent 0 row.len
row_lies s space hash row placed low is =
    let found = row_of (blob_at s space hash) row is in
    subst (λ (r : BlobRow). LieIn r.extent 0 r.len) found.2 (lies s (blob_name space hash) found.0 placed low found.1)

tells_read : (tells : Bool) (held : Option (List ℕ)) (s : State) (name : BlobName) (blob : Blob) (bytes : List ℕ) → get s.blobs name ≡ Some blob → IfSome held (λ file. bytes ≡ bytes_at file blob) → IfSome (told_bytes tells held s) (λ all. get all name ≡ Some bytes)
tells_read false held s name blob bytes there read = tt
tells_read true None s name blob bytes there read = tt
tells_read true (Some file) s name blob bytes there read = get_bytes file s.blobs name ∙ ap (option_map (bytes_at file)) there ∙ ap Some (sym read)

-- what stands there may be read
pub may_read : {D : Type 0} (tells : Bool) (meaning : D → Meaning) (devices : Devices D) (s : State) (space : List ℕ) (hash : IoHash) (row : BlobRow) (bytes : List ℕ) → option_map (λ (blob : Blob). blob.row) (blob_at s space hash) ≡ Some row
    → length bytes ≡ row.len → IfSome (meaning devices.blobs).held (λ file. bytes ≡ bytes_from file (first_byte row.extent) row.len) → MayRead (told_cache tells meaning devices s) space hash bytes
may_read tells meaning devices s space hash row bytes is long read =
    let found = row_of (blob_at s space hash) row is in
    let Reads : BlobRow → Type 0 = λ r. IfSome (meaning devices.blobs).held (λ file. bytes ≡ bytes_from file (first_byte r.extent) r.len) in
    record {
      blob = found.0;
      there = found.1;
      length_is = long ∙ sym (ap (λ (r : BlobRow). r.len) found.2);
      told = tells_read tells (meaning devices.blobs).held s (blob_name space hash) found.0 bytes found.1 (subst Reads (sym found.2) read);
    }

-- ---- the book

module _ {D : Type 0} (tells : Bool) (meaning : D → Meaning) (rests : (d : D) → Rests (meaning d).line) (devices : Devices D) (s : State) (steps : List Step) (opened reads : ℕ) (pair : PairView)
    (book : IsBook tells meaning (seen tells meaning devices s steps opened reads) pair) (now : BookView D) (view_is : seen tells meaning devices s steps opened reads ≡ now) (unbroken : broken_by now.steps ≡ None)
    (after : Devices D) (first : after.first ≡ devices.first) (second : after.second ≡ devices.second) (sure : (file : List ℕ) → IsSure (meaning devices.blobs) file → IsSure (meaning after.blobs) file) (as_before : AsBefore meaning devices after) where
  abbrev old : BookView D
  old = seen tells meaning devices s steps opened reads

  was_unbroken : broken_by steps ≡ None
  was_unbroken = ap (λ (b : BookView D). broken_by b.steps) view_is ∙ unbroken

  pub read_book : IsBook tells meaning (seen tells meaning after s steps opened reads) pair
  read_book = at_rest.kept_still tells meaning rests devices s steps opened reads pair book after first second sure as_before reads

  pub read_stays : Stays meaning now (seen tells meaning after s steps opened reads)
  read_stays = subst (λ (b : BookView D). Stays meaning b (seen tells meaning after s steps opened reads)) view_is (at_rest.stays_still tells meaning rests devices s steps opened reads pair book after first second sure as_before reads)

  pub read_goes : GoesOn tells meaning now [] (seen tells meaning after s steps opened reads)
  read_goes = subst (λ (b : BookView D). GoesOn tells meaning b [] (seen tells meaning after s steps opened reads)) view_is (at_rest.goes_still tells meaning rests devices s steps opened reads pair book after first second sure as_before [] reads)

  pub read_serves : IsServing tells meaning (seen tells meaning after s steps opened reads)
  read_serves = at_rest.serves tells meaning rests after s steps opened reads pair read_book was_unbroken

  -- the disks failed meanwhile
  module _ (before count : ℕ) (made : List Step) (made_is : made ≡ steps ++ Broke false before count ∷ []) (was : before ≡ devices_faults meaning devices) (counted : count ≡ devices_faults meaning after) (rose : Rose (devices_faults meaning devices) (devices_faults meaning after)) where
    abbrev new : BookView D
    new = seen tells meaning after s made opened reads

    same : seen tells meaning after s made opened reads ≡ seen tells meaning after s (steps ++ Broke false before count ∷ []) opened reads
    same i = seen tells meaning after s (made_is i) opened reads

    pub unread_book : IsBook tells meaning (seen tells meaning after s made opened reads) pair
    unread_book = subst (λ (b : BookView D). IsBook tells meaning b pair) (sym same) (at_rest.kept_unread tells meaning rests devices s steps opened reads pair book after first second sure as_before before count was_unbroken was counted rose reads)

    pub unread_breaks : BreaksReading meaning now (seen tells meaning after s made opened reads)
    unread_breaks = subst (λ (b : BookView D). BreaksReading meaning b new) view_is
        (subst (λ (b : BookView D). BreaksReading meaning old b) (sym same) (at_rest.breaks_unread tells meaning rests devices s steps opened reads pair book after first second sure as_before before count was_unbroken was counted rose reads))

    pub unread_goes : GoesOn tells meaning now [] (seen tells meaning after s made opened reads)
    unread_goes = subst (λ (b : BookView D). GoesOn tells meaning b [] new) view_is
        (subst (λ (b : BookView D). GoesOn tells meaning old [] b) (sym same) (at_rest.goes_unread tells meaning rests devices s steps opened reads pair book after first second sure as_before before count was_unbroken was counted rose [] reads))

-- why a read failed at the disks
pub rose_of : {P : Type 0} (fault : StoreFault) → fault ≡ DiskFailed → ((fault ≡ DiskFailed) × P) ⊎ (fault ≡ NoMemory) → P
rose_of fault is (inl why) = why.1
rose_of fault is (inr none) = let never : DiskFailed ≡ NoMemory = sym is ∙ none in absurd (cc)
