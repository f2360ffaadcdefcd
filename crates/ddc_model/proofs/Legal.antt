-- That the entries which commands make are legal.
use Rattle.std.specs.Prelude.{◌≡◌, ℕ, ◌≤◌, ◌+◌, Bool, true, false, not, ◌&&◌, ◌||◌, List, [], ◌∷◌, length, Option, None, Some, is_some, nat_eq, nat_le, nat_lt, Ok, Err, if◌then◌else◌, refl}
use Rattle.std.proofs.Common.{ap, arith}
use Rattle.std.proofs.lemmas.Bool.Decides.{nat_tests}
use Rattle.std.specs.FinMap.{entries, get, len}
use Rattle.std.specs.Option.{unwrap_or}
use lib.Pointwise.{pointwise}
use Rattle.ddc_names.specs.declared.hash.IoHash.{IoHash}
use Rattle.ref_store.specs.declared.slot.Slot.{Slot}
use Rattle.ddc_model.specs.declared.rows.Blob.{Blob}
use Rattle.ddc_model.specs.declared.rows.BlobName.{BlobName}
use Rattle.ddc_model.specs.declared.rows.Extent.{Extent}
use Rattle.ddc_model.specs.declared.entry.Entry.{Entry}
use Rattle.ddc_model.specs.declared.entry.Entry.TheVariants.{Upload, Finalise, Delete}
use Rattle.ddc_model.specs.declared.fault.StoreFault.{StoreFault}
use Rattle.ddc_model.specs.declared.fault.StoreFault.TheVariants.{Full, HistoryFull, UnknownSpace, NotPending}
use Rattle.ddc_model.specs.declared.fault.What.TheVariants.{Spaces, Blobs, Refs, Links, Units}
use Rattle.ddc_model.specs.Limits.{most_bytes, most_links}
use Rattle.ddc_model.specs.State.{State, blob_at, done_of, has_space, pending_of}
use Rattle.ddc_model.specs.Extents.{units_of, extent, is_apart_from_all, is_free, first_that, free_run}
use Rattle.ddc_model.specs.Entries.{has_room_for_events, is_hash, same_hash, is_fresh, is_root}
use Rattle.ddc_model.specs.Counts.{full, fresh_of, lacks_run, passes, link_count, added_spaces, added_blobs, added_refs, added_links}
use Rattle.ddc_model.specs.Content.{Content, IsContent, content_hash}
use Rattle.ddc_model.specs.Commands.{done_at, done_hash, hour_of, is_done_at, stored_content, fresh_where, put_entry}
use Rattle.ddc_model.specs.History.{Past, no_room_for}
use Rattle.ddc_model.specs.Laws.{IsLegal, SpaceIsLegal, UploadIsLegal, PutIsLegal, FinaliseIsLegal, GetIsLegal, DeleteIsLegal}
use Rattle.ddc_model.proofs.Fit.{links_take_bytes}
use Rattle.ddc_model.proofs.Maps.{same_some}
use Rattle.ddc_model.proofs.Placed.{is_zero, passes_test}
use Rattle.ddc_model.proofs.Made.{made_by_space, made_by_upload, made_by_put, made_by_finalise, made_by_get, made_by_delete}

at_most : (a b : ℕ) → a ≤ b → nat_le a b ≡ true
at_most a b h = grind (arith, nat_tests)

both : (a b : Bool) → a ≡ true → b ≡ true → (a && b) ≡ true
both a b e f i = e i && f i

same_number : (n : ℕ) → nat_eq n n ≡ true
same_number n = grind (arith, nat_tests)

same_bytes : (bytes : List ℕ) → pointwise nat_eq bytes bytes ≡ true
same_bytes [] = refl
same_bytes (b ∷ bytes) = both _ _ (same_number b) (same_bytes bytes)

pub is_this : (hash : IoHash) → same_hash hash hash ≡ true
is_this hash = same_bytes hash.0

-- ---- room in the blob file

-- an entry passes no limit, so a run of free units holds its blob
has_run : (a b c d x : Bool) (f g h i j : StoreFault) → (if a then Some f else if b then Some g else if c then Some h else if d then Some i else if x then Some j else None) ≡ None → x ≡ false
has_run true b c d x f g h i j e = absurd (cc)
has_run false true c d x f g h i j e = absurd (cc)
has_run false false true d x f g h i j e = absurd (cc)
has_run false false false true x f g h i j e = absurd (cc)
has_run false false false false true f g h i j e = absurd (cc)
has_run false false false false false f g h i j e = refl

room_has_run : (s : State) (entry : Entry) → full s entry ≡ None → lacks_run s (fresh_of entry) ≡ false
room_has_run s entry room =
    has_run (passes (len s.spaces) (added_spaces s entry) s.limits.spaces) (passes (len s.blobs) (added_blobs (fresh_of entry)) s.limits.blobs) (passes (len s.slots) (added_refs s entry) s.limits.refs)
    (passes (link_count s) (added_links (fresh_of entry)) s.limits.links) (lacks_run s (fresh_of entry))
    (Full Spaces s.limits.spaces) (Full Blobs s.limits.blobs) (Full Refs s.limits.refs) (Full Links s.limits.links) (Full Units s.limits.units) room

-- what has no units is apart from all
apart_of_none : (bs : List (BlobName × Blob)) (e : Extent) → e.units ≡ 0 → is_apart_from_all bs e ≡ true
apart_of_none [] e none = refl
apart_of_none (b ∷ bs) e none = both _ _ (by_units (nat_eq b.1.row.extent.units 0)) (apart_of_none bs e none) where
  empty : nat_eq e.units 0 ≡ true
  empty = ap (λ (n : ℕ). nat_eq n 0) none

  by_units : (t : Bool) → (t || nat_eq e.units 0 || nat_le (b.1.row.extent.start + b.1.row.extent.units) e.start || nat_le (e.start + e.units) b.1.row.extent.start) ≡ true
  by_units true = refl
  by_units false = ap (λ (t : Bool). t || nat_le (b.1.row.extent.start + b.1.row.extent.units) e.start || nat_le (e.start + e.units) b.1.row.extent.start) empty

run_free : (s : State) (units : ℕ) (found : Option ℕ) → free_run s units ≡ found → not (is_some found) ≡ false → is_free s (extent (unwrap_or found 0) units) ≡ true
run_free s units None is runs = absurd (cc)
run_free s units (Some start) is runs = split (nat_eq units 0) refl is where
  split : (t : Bool) → nat_eq units 0 ≡ t → (if t then Some 0 else first_that (λ n. is_free s (extent n units)) 0 (s.limits.units + 1)) ≡ Some start → is_free s (extent start units) ≡ true
  split true e found =
      let at_start : 0 ≡ start = same_some 0 start found in
      let none : units ≡ 0 = is_zero units e in
      both _ _ (at_most (start + units) s.limits.units (omega (arith, at_start, none))) (apart_of_none (entries s.blobs) (extent start units) none)
  split false e found = passes_test (λ n. is_free s (extent n units)) 0 (s.limits.units + 1) start found

-- the first run of free units that holds a blob is free
pub run_is_free : (s : State) (len : ℕ) → not (is_some (free_run s (units_of len))) ≡ false → is_free s (extent (unwrap_or (free_run s (units_of len)) 0) (units_of len)) ≡ true
run_is_free s len runs = run_free s (units_of len) (free_run s (units_of len)) refl runs

-- ---- the entries

module _ (s : State) (space : List ℕ) (content : Content) (read : IsContent content) (short : length content.bytes ≤ most_bytes) where
  few : length content.links ≤ most_links
  few = let fits = links_take_bytes content read in let cap : length content.bytes ≤ 67108864 = short in let goal : length content.links ≤ 4194304 = omega arith in goal

  pub fresh : lacks_run s (Some (stored_content s content)) ≡ false → blob_at s space (content_hash content.bytes) ≡ None → is_fresh s space (stored_content s content) ≡ true
  fresh runs none =
      both _ _
      (both _ _ (both _ _ (ap (λ (o : Option Blob). not (is_some o)) none) (at_most (length content.bytes) most_bytes short)) (at_most (length content.links) most_links few))
      (run_is_free s (length content.bytes) runs)

  pub root_fits : (found : Option Blob) → lacks_run s (fresh_where s found content) ≡ false → blob_at s space (content_hash content.bytes) ≡ found → is_root s space (content_hash content.bytes) (fresh_where s found content) ≡ true
  root_fits None runs is = both _ _ (is_this (content_hash content.bytes)) (fresh runs is)
  root_fits (Some blob) runs is = ap is_some is

-- what a history has room for has numbers for its events
roomy : (a b fits : Bool) (fault : StoreFault) → (if a || b || not fits then Some fault else None) ≡ None → fits ≡ true
roomy a b true fault e = refl
roomy true b false fault e = absurd (cc)
roomy false true false fault e = absurd (cc)
roomy false false false fault e = absurd (cc)

has_numbers : (s : State) (past : Past) (entry : Entry) → no_room_for s past (Some entry) ≡ None → has_room_for_events s entry ≡ true
has_numbers s past entry e =
    roomy (nat_lt s.limits.entries (past.entries + 1)) (nat_lt s.limits.entry_links (past.links + added_links (fresh_of entry))) (has_room_for_events s entry) (HistoryFull past.entries past.links) e

-- an entry is legal where the history has room for it
abbrev LegalWithRoom : State → Past → Option Entry → Type 0
LegalWithRoom s past made = no_room_for s past made ≡ None → IsLegal s made

pub space_legal : SpaceIsLegal
space_legal s space ttl pin answer made is_ttl is_pin gives = made_by_space (IsLegal s) tt s space ttl pin (both _ _ is_ttl is_pin) answer made gives

pub upload_legal : UploadIsLegal
upload_legal s space content hour answer made read short gives =
    made_by_upload (IsLegal s) tt s space content hour
    (λ known room none. both _ _ known (fresh s space content read short (room_has_run s (Upload space (hour_of s hour) (stored_content s content)) room) none)) (λ known blob is. both _ _ known (ap is_some is)) answer made gives

pub put_legal : PutIsLegal
put_legal s past name content hour answer made read short gives =
    made_by_put (LegalWithRoom s past) (λ e. tt) s name content hour
    (λ known room needs are free. both _ _ (has_numbers s past (put_entry s name content needs hour) free)
    (both _ _ known (root_fits s name.space content read short (blob_at s name.space (content_hash content.bytes)) (room_has_run s (put_entry s name content [] hour) room) refl))) answer made gives

-- a reference waits for the object that is_done says is pending
waits : (there : Bool) (found : Option Slot) (hash : IoHash) → (if there then is_done_at found hash else Err UnknownSpace) ≡ Ok false → (there && is_hash (pending_of found) hash) ≡ true
waits false found hash e = absurd (cc)
waits true None hash e = absurd (cc)
waits true (Some slot) hash e = split (is_hash slot.done hash) (is_hash slot.pending hash) e where
  split : (done pending : Bool) → (if done then Ok true else if pending then Ok false else Err NotPending) ≡ Ok false → pending ≡ true
  split true pending e = absurd (cc)
  split false true e = refl
  split false false e = absurd (cc)

pub finalise_legal : FinaliseIsLegal
finalise_legal s past name hash hour answer made gives =
    made_by_finalise (LegalWithRoom s past) (λ e. tt) s name hash hour
    (λ known are free. both _ _ (has_numbers s past (Finalise name hash (hour_of s hour)) free) (waits (has_space s name.space) (get s.slots name) hash known)) answer made gives

-- a reference serves the object that object_of says
serves : (there : Bool) (found : Option Slot) (hash : IoHash) → (if there then done_at found else Err UnknownSpace) ≡ Ok hash → (there && is_some (done_of found)) ≡ true
serves false found hash e = absurd (cc)
serves true None hash e = absurd (cc)
serves true (Some slot) hash e = split slot.done e where
  split : (done : Option IoHash) → done_hash done ≡ Ok hash → is_some done ≡ true
  split (Some object) e = refl
  split None e = absurd (cc)

pub get_legal : GetIsLegal
get_legal cache name hour answer made gives =
    made_by_get (IsLegal cache.index) tt cache name hour (λ hash known. serves (has_space cache.index name.space) (get cache.index.slots name) hash known) answer made gives

pub delete_legal : DeleteIsLegal
delete_legal s past name hour answer made gives =
    made_by_delete (LegalWithRoom s past) (λ e. tt) s name hour
    (λ known there free. both _ _ (has_numbers s past (Delete name (hour_of s hour)) free) (both _ _ known there)) answer made gives
