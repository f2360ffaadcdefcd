-- What holds of no entry, and of the entry where a command makes one, is a fact of what it makes.
use Rattle.std.specs.Prelude.{◌≡◌, ℕ, Bool, true, false, List, [], ◌∷◌, Option, None, Some, is_some, Result, Ok, Err, nat_lt, if◌then◌else◌, refl, ⊤}
use Rattle.std.proofs.Common.{sym, subst}
use Rattle.std.specs.FinMap.{get}
use Rattle.ddc_names.specs.declared.hash.IoHash.{IoHash}
use Rattle.ddc_names.specs.declared.reference.RefName.{RefName}
use Rattle.ref_store.specs.declared.slot.Slot.{Slot}
use Rattle.ddc_model.specs.declared.rows.Blob.{Blob}
use Rattle.ddc_model.specs.declared.entry.Entry.{Entry}
use Rattle.ddc_model.specs.declared.entry.Entry.TheVariants.{Space, Upload, Repin, Finalise, Delete, Touch}
use Rattle.ddc_model.specs.declared.fault.StoreFault.{StoreFault}
use Rattle.ddc_model.specs.declared.fault.StoreFault.TheVariants.{UnknownSpace, NotFound}
use Rattle.ddc_model.specs.State.{State, blob_at, has_space}
use Rattle.ddc_model.specs.Content.{Content, content_hash}
use Rattle.ddc_model.specs.Closure.{links_in, AreNeeds}
use Rattle.ddc_model.specs.Sound.{Cache}
use Rattle.ddc_model.specs.Counts.{full}
use Rattle.ddc_model.specs.Commands.{hour_of, stored_content, unless, with_room, EntryWhere, SpaceAs, upload_where, UploadAs, put_entry, with_object, PutWhere, PutAs, is_done, finalise_entry, FinaliseWhere, FinaliseAs, object_of, touch_where, GetWhere, GetAs}
use Rattle.ddc_model.specs.Reads.{DeleteAs}

module _ (P : Option Entry → Type 0) (none : P None) (s : State) where
  -- an entry is made only where the limits have room for it
  abbrev WithRoom : Option Entry → Type 0
  WithRoom (Some entry) = full s entry ≡ None → P (Some entry)
  WithRoom None = ⊤

  made_with_room : (entry : Option Entry) → WithRoom entry → (answer : Result (Unit {0}) StoreFault) (made : Option Entry) → EntryWhere (with_room s entry) answer made → P made
  made_with_room None some answer made (_, is) = subst P (sym is) none
  made_with_room (Some entry) some answer made gives = by_cases (full s entry) refl gives where
    by_cases : (fault : Option StoreFault) → full s entry ≡ fault → EntryWhere (unless fault (Some entry)) answer made → P made
    by_cases None room (_, is) = subst P (sym is) (some room)
    by_cases (Some fault) room (_, is) = subst P (sym is) none

  room_if : (b : Bool) (entry : Entry) → P (Some entry) → WithRoom (if b then Some entry else None)
  room_if true entry some = λ room. some
  room_if false entry some = tt

  if_made : (b : Bool) (entry : Entry) → P (Some entry) → P (if b then Some entry else None)
  if_made true entry some = some
  if_made false entry some = none

  pub made_by_space : (space : List ℕ) (ttl pin : ℕ) → P (Some (Space space ttl pin))
      → (answer : Result (Unit {0}) StoreFault) (made : Option Entry) → SpaceAs s space ttl pin answer made → P made
  made_by_space space ttl pin some = made_with_room (Some (Space space ttl pin)) (λ room. some)

  pub made_by_upload : (space : List ℕ) (content : Content) (hour : ℕ)
      → (has_space s space ≡ true → full s (Upload space (hour_of s hour) (stored_content s content)) ≡ None → blob_at s space (content_hash content.bytes) ≡ None → P (Some (Upload space (hour_of s hour) (stored_content s content))))
      → (has_space s space ≡ true → (blob : Blob) → blob_at s space (content_hash content.bytes) ≡ Some blob → P (Some (Repin space (content_hash content.bytes) (hour_of s hour))))
      → (answer : Result (Unit {0}) StoreFault) (made : Option Entry) → UploadAs s space content hour answer made → P made
  made_by_upload space content hour new old answer made gives = by_cases (has_space s space) refl gives where
    entry : has_space s space ≡ true → (found : Option Blob) → blob_at s space (content_hash content.bytes) ≡ found → WithRoom (upload_where s found space content (hour_of s hour))
    entry known None is = λ room. new known room is
    entry known (Some blob) is = room_if (nat_lt blob.row.at (hour_of s hour)) (Repin space (content_hash content.bytes) (hour_of s hour)) (old known blob is)

    by_cases : (there : Bool) → has_space s space ≡ there → EntryWhere (if there then with_room s (upload_where s (blob_at s space (content_hash content.bytes)) space content (hour_of s hour)) else Err UnknownSpace) answer made → P made
    by_cases true known given = made_with_room (upload_where s (blob_at s space (content_hash content.bytes)) space content (hour_of s hour)) (entry known (blob_at s space (content_hash content.bytes)) refl) answer made given
    by_cases false known (_, is) = subst P (sym is) none

  pub made_by_put : (name : RefName) (content : Content) (hour : ℕ)
      → (has_space s name.space ≡ true → full s (put_entry s name content [] hour) ≡ None → (needs : List IoHash) → AreNeeds (links_in (with_object s name content hour) name.space) (content_hash content.bytes) needs → P (Some (put_entry s name content needs hour)))
      → (answer : Result (List IoHash) StoreFault) (made : Option Entry) → PutAs s name content hour answer made → P made
  made_by_put name content hour some answer made gives = by_cases (has_space s name.space) refl gives where
    by_fault : has_space s name.space ≡ true → (fault : Option StoreFault) → full s (put_entry s name content [] hour) ≡ fault → PutWhere fault s name content hour answer made → P made
    by_fault known (Some fault) room (_, is) = subst P (sym is) none
    by_fault known None room (needs, are, _, is) = subst P (sym is) (some known room needs are)

    by_cases : (there : Bool) → has_space s name.space ≡ there → PutWhere (if there then full s (put_entry s name content [] hour) else Some UnknownSpace) s name content hour answer made → P made
    by_cases true known given = by_fault known (full s (put_entry s name content [] hour)) refl given
    by_cases false known (_, is) = subst P (sym is) none

  pub made_by_finalise : (name : RefName) (hash : IoHash) (hour : ℕ)
      → (is_done s name hash ≡ Ok false → AreNeeds (links_in s name.space) hash [] → P (Some (Finalise name hash (hour_of s hour))))
      → (answer : Result (List IoHash) StoreFault) (made : Option Entry) → FinaliseAs s name hash hour answer made → P made
  made_by_finalise name hash hour some answer made gives = by_cases (is_done s name hash) refl gives where
    by_needs : is_done s name hash ≡ Ok false → (needs : List IoHash) → AreNeeds (links_in s name.space) hash needs → P (finalise_entry s name hash needs hour)
    by_needs known [] are = some known are
    by_needs known (x ∷ xs) are = none

    by_cases : (known : Result Bool StoreFault) → is_done s name hash ≡ known → FinaliseWhere known s name hash hour answer made → P made
    by_cases (Err fault) known (_, is) = subst P (sym is) none
    by_cases (Ok true) known (_, is) = subst P (sym is) none
    by_cases (Ok false) known (needs, are, _, is) = subst P (sym is) (by_needs known needs are)

  pub made_by_delete : (name : RefName) (hour : ℕ)
      → (has_space s name.space ≡ true → is_some (get s.slots name) ≡ true → P (Some (Delete name (hour_of s hour))))
      → (answer : Result (Unit {0}) StoreFault) (made : Option Entry) → DeleteAs s name hour answer made → P made
  made_by_delete name hour some answer made gives = by_cases (has_space s name.space) refl gives where
    by_slot : has_space s name.space ≡ true → (there : Bool) → is_some (get s.slots name) ≡ there → EntryWhere (if there then Ok (Some (Delete name (hour_of s hour))) else Err NotFound) answer made → P made
    by_slot known true there (_, is) = subst P (sym is) (some known there)
    by_slot known false there (_, is) = subst P (sym is) none

    by_cases : (there : Bool) → has_space s name.space ≡ there → EntryWhere (if there then (if is_some (get s.slots name) then Ok (Some (Delete name (hour_of s hour))) else Err NotFound) else Err UnknownSpace) answer made → P made
    by_cases true known given = by_slot known (is_some (get s.slots name)) refl given
    by_cases false known (_, is) = subst P (sym is) none

pub made_by_get : (P : Option Entry → Type 0) → P None → (cache : Cache) (name : RefName) (hour : ℕ) → ((hash : IoHash) → object_of cache.index name ≡ Ok hash → P (Some (Touch name (hour_of cache.index hour))))
    → (answer : Result (IoHash × List ℕ) StoreFault) (made : Option Entry) → GetAs cache name hour answer made → P made
made_by_get P none cache name hour some answer made gives = by_cases (object_of cache.index name) refl gives where
  touched : P (Some (Touch name (hour_of cache.index hour))) → (found : Option Slot) → P (touch_where found name (hour_of cache.index hour))
  touched touch None = none
  touched touch (Some slot) = if_made P none cache.index (nat_lt slot.seen (hour_of cache.index hour)) (Touch name (hour_of cache.index hour)) touch

  by_cases : (known : Result IoHash StoreFault) → object_of cache.index name ≡ known → GetWhere known cache name hour answer made → P made
  by_cases (Err fault) known (_, is) = subst P (sym is) none
  by_cases (Ok hash) known (bytes, _, _, is) = subst P (sym is) (touched (some hash known) (get cache.index.slots name))
