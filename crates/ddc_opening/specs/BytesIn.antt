-- What the blob file gives as the bytes of blobs.
use Rattle.std.specs.Prelude.{◌≡◌, ℕ, ◌^◌, ◌≤◌, max, Bool, true, false, List, [], ◌∷◌, map, length, Option, None, Some, IfSome, IsSome, option_map, cond, refl}
use Rattle.std.proofs.Common.{ap, sym, ◌∙◌, subst, arith}
use Rattle.std.specs.FinMap.{FinMap, get, empty, insert, remove, entries, find, get-empty, get-entries, get-from_entries, get-insert, get-remove, same_map}
use Rattle.std.specs.Option.{unwrap_or}
use Rattle.std.specs.Ordering.{eq_by_cmp, is_eq}
use Rattle.std.specs.declared.cmp.Ordering.{Ordering}
use Rattle.std.specs.declared.cmp.Ordering.TheVariants.{Less, Equal, Greater}
use Rattle.std.proofs.lemmas.List.FromFn.{length-map-range_with_len}
use Rattle.ddc_names.specs.declared.hash.IoHash.{IoHash}
use Rattle.ddc_disk.specs.Images.{Images}
use Rattle.ddc_model.specs.declared.rows.Blob.{Blob}
use Rattle.ddc_model.specs.declared.rows.BlobName.{BlobName}
use Rattle.ddc_model.specs.declared.rows.Extent.{Extent}
use Rattle.ddc_model.specs.declared.rows.Limits.{Limits}
use Rattle.ddc_model.specs.declared.entry.Stored.{Stored}
use Rattle.ddc_model.specs.declared.entry.Entry.{Entry}
use Rattle.ddc_model.specs.declared.entry.Entry.TheVariants.{Space, Upload, Repin, Put, Finalise, Delete, Touch, Expire, Swept, Cursor, BaseHour, BaseSlot, BaseEvent}
use Rattle.ddc_model.specs.Keys.{blob_cmp, blob_exact, blob_total}
use Rattle.ddc_model.specs.State.{State, blob_name}
use Rattle.ddc_model.specs.Entries.{after, blob_of, extent_of, pinned, with_put_root, without_hashes}
use Rattle.ddc_model.specs.Extents.{Apart, IsPlaced}
use Rattle.ddc_model.specs.Counts.{fresh_of}
use Rattle.ddc_model.specs.Commands.{kept, kept_where}
use Rattle.ddc_model.specs.Laws.{LeavesBlobs}
use Rattle.ddc_model.proofs.Events.{put_any}
use Rattle.ddc_model.proofs.Removals.{blobs_alone}
use Rattle.ddc_model.specs.Sound.{Cache, IsBlobOf}
use Rattle.blob_store.specs.Bytes.{first_byte, LieIn, bytes_from, HasBlobBytes, ChangesOnly}
use Rattle.blob_store.specs.BytesLaws.{kept_outside, other_extent}
use Rattle.ddc_opening.specs.Opening.{bytes_at, bytes_in, AllReach, OpensAs, OpensSound}

-- as many as the blob's length
pub length_bytes : (file : List ℕ) (blob : Blob) → length (bytes_at file blob) ≡ blob.row.len
length_bytes file blob = length-map-range_with_len _ (first_byte blob.row.extent) blob.row.len

-- a list whose values are replaced
abbrev replaced : (Blob → List ℕ) → List (BlobName × Blob) → List (BlobName × List ℕ)
replaced f es = map (λ (e : BlobName × Blob). (e.0, f e.1)) es

find_replaced : (f : Blob → List ℕ) (name : BlobName) (es : List (BlobName × Blob)) → find blob_cmp name (replaced f es) ≡ option_map f (find blob_cmp name es)
find_replaced f name [] = refl
find_replaced f name (e ∷ es) = split (eq_by_cmp blob_cmp name e.0) (find_replaced f name es) where
  split : (here : Bool) → find blob_cmp name (replaced f es) ≡ option_map f (find blob_cmp name es)
      → cond here (Some (f e.1)) (find blob_cmp name (replaced f es)) ≡ option_map f (cond here (Some e.1) (find blob_cmp name es))
  split true later = refl
  split false later = later

-- of each blob those at its extent
pub get_bytes : (file : List ℕ) (blobs : FinMap blob_cmp Blob) (name : BlobName) → get (bytes_in file blobs) name ≡ option_map (bytes_at file) (get blobs name)
unfolding bytes_in
get_bytes file blobs name =
    get-from_entries blob_total (replaced (bytes_at file) (entries blobs)) name
    ∙ find_replaced (bytes_at file) name (entries blobs) ∙ ap (option_map (bytes_at file)) (sym (get-entries blobs name))

-- a map that gives these bytes of each blob
only_bytes : (file : List ℕ) (blobs : FinMap blob_cmp Blob) (all : FinMap blob_cmp (List ℕ)) → ((name : BlobName) → option_map (bytes_at file) (get blobs name) ≡ get all name) → bytes_in file blobs ≡ all
only_bytes file blobs all each = same_map blob_total blob_exact (bytes_in file blobs) all (λ name. get_bytes file blobs name ∙ each name)

-- none of no blobs
pub bytes_empty : (file : List ℕ) → bytes_in file empty ≡ empty
bytes_empty file = only_bytes file empty empty (λ name. ap (option_map (bytes_at file)) (get-empty blob_cmp name) ∙ sym (get-empty blob_cmp name))

-- two files give the same bytes of a blob, where one is found
same_found : (file other : List ℕ) (found : Option Blob) → ((blob : Blob) → found ≡ Some blob → bytes_at file blob ≡ bytes_at other blob) → option_map (bytes_at file) found ≡ option_map (bytes_at other) found
same_found file other None same = refl
same_found file other (Some blob) same = ap Some (same blob refl)

-- two files that give the same bytes of each blob
pub same_bytes : (file other : List ℕ) (blobs : FinMap blob_cmp Blob) → ((name : BlobName) (blob : Blob) → get blobs name ≡ Some blob → bytes_at file blob ≡ bytes_at other blob) → bytes_in file blobs ≡ bytes_in other blobs
same_bytes file other blobs same = only_bytes file blobs (bytes_in other blobs) (λ name. same_found file other (get blobs name) (same name) ∙ sym (get_bytes other blobs name))

-- where only an extent changes that no blob has a unit of, the bytes of each blob stay
pub bytes_kept : (extent : Extent) (file new : List ℕ) (s : State) → IsPlaced s → s.limits.units ≤ 2 ^ 51 → AllReach file s → ChangesOnly extent file new
    → ((name : BlobName) (blob : Blob) → get s.blobs name ≡ Some blob → Apart extent blob.row.extent) → (name : BlobName) (blob : Blob) → get s.blobs name ≡ Some blob → bytes_at new blob ≡ bytes_at file blob
bytes_kept extent file new s placed low reach changes apart name blob there =
    let at = first_byte blob.row.extent in
    let bytes = bytes_at file blob in
    let long : length bytes ≡ blob.row.len = length_bytes file blob in
    let lie : LieIn blob.row.extent 0 (length bytes) = record { inside = omega (arith, long, placed.units name blob there); low = omega (arith, low, placed.within name blob there) } in
    let has : HasBlobBytes file at bytes = record { reaches = omega (arith, long, reach name blob there); same = ap (bytes_from file at) long } in
    let still = kept_outside extent file new at bytes changes has (other_extent extent blob.row.extent (length bytes) (apart name blob there) lie) in
    ap (bytes_from new at) (sym long) ∙ still.same

-- ---- after an entry

-- the bytes of a blob that is put in the place of another, or beside it
pub bytes_insert : (file : List ℕ) (blobs : FinMap blob_cmp Blob) (name : BlobName) (blob : Blob) → bytes_in file (insert blobs name blob) ≡ insert (bytes_in file blobs) name (bytes_at file blob)
bytes_insert file blobs name blob = only_bytes file (insert blobs name blob) (insert (bytes_in file blobs) name (bytes_at file blob)) (λ q.
    ap (option_map (bytes_at file)) (get-insert blob_total blobs name blob q) ∙ split (eq_by_cmp blob_cmp q name) q
    ∙ ap (cond (eq_by_cmp blob_cmp q name) (Some (bytes_at file blob))) (sym (get_bytes file blobs q)) ∙ sym (get-insert blob_total (bytes_in file blobs) name (bytes_at file blob) q))
  where
    split : (here : Bool) (q : BlobName) → option_map (bytes_at file) (cond here (Some blob) (get blobs q)) ≡ cond here (Some (bytes_at file blob)) (option_map (bytes_at file) (get blobs q))
    split true q = refl
    split false q = refl

-- a pin moves no bytes
bytes_pinned : (file : List ℕ) (blobs : FinMap blob_cmp Blob) (name : BlobName) (hour : ℕ) (found : Option Blob) → get blobs name ≡ found → bytes_in file (pinned blobs name hour found) ≡ bytes_in file blobs
bytes_pinned file blobs name hour None there = refl
bytes_pinned file blobs name hour (Some blob) there = only_bytes file (insert blobs name later) (bytes_in file blobs) (λ q.
    ap (option_map (bytes_at file)) (get-insert blob_total blobs name later q) ∙ split q (blob_cmp q name) refl ∙ sym (get_bytes file blobs q))
  where
    later : Blob
    later = record blob { row = record blob.row { at = max blob.row.at hour } }

    split : (q : BlobName) (o : Ordering) → blob_cmp q name ≡ o → option_map (bytes_at file) (cond (is_eq o) (Some later) (get blobs q)) ≡ option_map (bytes_at file) (get blobs q)
    split q Less e = refl
    split q Equal e = ap (option_map (bytes_at file)) (sym (ap (get blobs) (blob_exact q name e) ∙ there))
    split q Greater e = refl

-- a blob that is removed takes its bytes with it
bytes_remove : (file : List ℕ) (blobs : FinMap blob_cmp Blob) (name : BlobName) → bytes_in file (remove blobs name) ≡ remove (bytes_in file blobs) name
bytes_remove file blobs name = only_bytes file (remove blobs name) (remove (bytes_in file blobs) name) (λ q.
    ap (option_map (bytes_at file)) (get-remove blob_total blobs name q) ∙ split (eq_by_cmp blob_cmp q name) q
    ∙ ap (cond (eq_by_cmp blob_cmp q name) None) (sym (get_bytes file blobs q)) ∙ sym (get-remove blob_total (bytes_in file blobs) name q))
  where
    split : (here : Bool) (q : BlobName) → option_map (bytes_at file) (cond here None (get blobs q)) ≡ cond here None (option_map (bytes_at file) (get blobs q))
    split true q = refl
    split false q = refl

bytes_swept : (file : List ℕ) (blobs : FinMap blob_cmp Blob) (space : List ℕ) (hashes : List IoHash) → bytes_in file (without_hashes blobs space hashes) ≡ without_hashes (bytes_in file blobs) space hashes
bytes_swept file blobs space [] = refl
bytes_swept file blobs space (hash ∷ hashes) =
    bytes_swept file (remove blobs (blob_name space hash)) space hashes
    ∙ ap (λ (all : FinMap blob_cmp (List ℕ)). without_hashes all space hashes) (bytes_remove file blobs (blob_name space hash))

-- a file that has the bytes of the blob that an entry adds, and those of each blob before it, gives what the entry leaves
module _ (file new : List ℕ) (s : State) (bytes : List ℕ) (before : (name : BlobName) (blob : Blob) → get s.blobs name ≡ Some blob → bytes_at new blob ≡ bytes_at file blob) where
  unchanged : bytes_in new s.blobs ≡ bytes_in file s.blobs
  unchanged = same_bytes new file s.blobs before

  added : (space : List ℕ) (blob : Stored) (hour : ℕ) → bytes_from new (first_byte (extent_of blob)) blob.len ≡ bytes → bytes_in new (insert s.blobs (blob_name space blob.hash) (blob_of blob hour)) ≡ kept_where (bytes_in file s.blobs) space (Some blob) bytes
  added space blob hour is = bytes_insert new s.blobs (blob_name space blob.hash) (blob_of blob hour) ∙ (λ i. insert (unchanged i) (blob_name space blob.hash) (is i))

  pinned_there : (name : BlobName) (hour : ℕ) → bytes_in new (pinned s.blobs name hour (get s.blobs name)) ≡ bytes_in file s.blobs
  pinned_there name hour = bytes_pinned new s.blobs name hour (get s.blobs name) refl ∙ unchanged

  -- of an entry that touches no blob
  alone : (entry : Entry) → LeavesBlobs entry → bytes_in new (after s entry).blobs ≡ kept (bytes_in file s.blobs) entry bytes
  alone entry leaves = let same = blobs_alone s (bytes_in file s.blobs) entry bytes leaves in ap (bytes_in new) same.0 ∙ unchanged ∙ sym same.1

  pub bytes_added : (entry : Entry) → IfSome (fresh_of entry) (λ blob. bytes_from new (first_byte (extent_of blob)) blob.len ≡ bytes) → bytes_in new (after s entry).blobs ≡ kept (bytes_in file s.blobs) entry bytes
  bytes_added (Upload space hour blob) is = added space blob hour is
  bytes_added (Repin space hash hour) is = pinned_there (blob_name space hash) hour
  bytes_added (Put name root None whole hour) is =
      put_any (λ (t : State). bytes_in new t.blobs ≡ bytes_in file s.blobs) (with_put_root s name.space root None hour) (λ logs. pinned_there (blob_name name.space root) hour) name root whole
  bytes_added (Put name root (Some blob) whole hour) is =
      put_any (λ (t : State). bytes_in new t.blobs ≡ kept_where (bytes_in file s.blobs) name.space (Some blob) bytes) (with_put_root s name.space root (Some blob) hour) (λ logs. added name.space blob hour is) name root whole
  bytes_added (Swept space hashes) is = bytes_swept new s.blobs space hashes ∙ ap (λ (all : FinMap blob_cmp (List ℕ)). without_hashes all space hashes) unchanged
  bytes_added (Space space ttl pin) is = alone (Space space ttl pin) tt
  bytes_added (Finalise name hash hour) is = alone (Finalise name hash hour) tt
  bytes_added (Delete name hour) is = alone (Delete name hour) tt
  bytes_added (Touch name hour) is = alone (Touch name hour) tt
  bytes_added (Expire space spots hour) is = alone (Expire space spots hour) tt
  bytes_added (Cursor space cursor) is = alone (Cursor space cursor) tt
  bytes_added (BaseHour hour) is = alone (BaseHour hour) tt
  bytes_added (BaseSlot name done pending seen) is = alone (BaseSlot name done pending seen) tt
  bytes_added (BaseEvent name number op) is = alone (BaseEvent name number op) tt

-- ---- what is sound

-- the bytes at each blob's extent are its own
abbrev pub HaveOwn : List ℕ → State → Type 0
HaveOwn file s = (name : BlobName) (blob : Blob) → get s.blobs name ≡ Some blob → IsBlobOf name blob (bytes_at file blob)

there_is : (file : List ℕ) (found : Option Blob) (bytes : List ℕ) → option_map (bytes_at file) found ≡ Some bytes → IsSome found
there_is file None bytes e = cc e
there_is file (Some blob) bytes e = refl

-- an image that opens, and whose blobs have their own bytes, within the file, is sound
pub sure_sound : (limits : Limits) (im : Images) (cache : Cache) → OpensAs limits im cache → HaveOwn im.blobs cache.index → AllReach im.blobs cache.index → OpensSound limits im cache
sure_sound limits im cache opens own reach = record {
  opens = opens;
  sound = record {
    all = bytes_in im.blobs cache.index.blobs;
    told = opens.bytes;
    blobs = λ name blob there. (bytes_at im.blobs blob, get_bytes im.blobs cache.index.blobs name ∙ ap (option_map (bytes_at im.blobs)) there, own name blob there);
    none_else = λ name bytes there. there_is im.blobs (get cache.index.blobs name) bytes (sym (get_bytes im.blobs cache.index.blobs name) ∙ there);
    whole = opens.whole;
  };
  reach = reach;
}

same_some : {A : Type 0} (x y : A) → Some x ≡ Some y → x ≡ y
same_some x y e = ap (λ (o : Option _). unwrap_or o x) e

-- and of a sound image each blob has its own bytes
pub sound_owns : (limits : Limits) (im : Images) (cache : Cache) → OpensSound limits im cache → HaveOwn im.blobs cache.index
sound_owns limits im cache is name blob there =
    let sound = is.sound in
    let found = sound.blobs name blob there in
    let opens = is.opens in
    let all : bytes_in im.blobs cache.index.blobs ≡ sound.all = same_some (bytes_in im.blobs cache.index.blobs) sound.all (sym opens.bytes ∙ sound.told) in
    let at : Some (bytes_at im.blobs blob) ≡ Some found.0 = sym (get_bytes im.blobs cache.index.blobs name ∙ ap (option_map (bytes_at im.blobs)) there) ∙ ap (λ m. get m name) all ∙ found.1 in
    subst (IsBlobOf name blob) (sym (same_some (bytes_at im.blobs blob) found.0 at)) found.2
