-- That each command keeps a cache sound.
use Rattle.std.specs.Prelude.{◌≡◌, ℕ, List, [], Option, None, Some, option_map, refl, ⊤}
use Rattle.std.proofs.Common.{ap, sym, ◌∙◌}
use Rattle.std.specs.FinMap.{FinMap, empty, get-empty}
use Rattle.ddc_names.specs.declared.hash.IoHash.{IoHash}
use Rattle.ddc_names.specs.Orders.{ref_name_cmp}
use Rattle.ddc_model.specs.declared.rows.Blob.{Blob}
use Rattle.ddc_model.specs.declared.rows.BlobName.{BlobName}
use Rattle.ddc_model.specs.declared.entry.Entry.{Entry}
use Rattle.ddc_model.specs.declared.entry.Entry.TheVariants.{Put, Expire, Swept}
use Rattle.ddc_model.specs.Keys.{blob_cmp}
use Rattle.ddc_model.specs.State.{State, blob_name, blob_at}
use Rattle.ddc_model.specs.Entries.{after, blob_of}
use Rattle.ddc_model.specs.Content.{Content, IsContent, content_hash}
use Rattle.ddc_model.specs.Sound.{Cache, AreWhole, IsBlobOf, IsSound}
use Rattle.ddc_model.specs.Commands.{hour_of, stored_content, fresh_where, needs_none, kept, changed}
use Rattle.ddc_model.specs.Laws.{KeepsWhole, EmptyIsSound, SpaceStaysSound, UploadStaysSound, PutStaysSound, FinaliseStaysSound, GetStaysSound, DeleteStaysSound, ExpireStaysSound, SweptStaysSound}
use Rattle.ddc_model.proofs.Made.{made_by_space, made_by_upload, made_by_put, made_by_finalise, made_by_get, made_by_delete}
use Rattle.ddc_model.proofs.Whole.{space_whole, upload_whole, put_whole, finalise_whole, get_whole, delete_whole, expire_whole, swept_whole}
use Rattle.ddc_model.proofs.Bytes.{Have, later, Adds, stay}

blob_lasts : (name : BlobName) (blob : Blob) (bytes : List ℕ) (hour : ℕ) → IsBlobOf name blob bytes → IsBlobOf name (later blob hour) bytes
blob_lasts name blob bytes hour is = record { hash = is.hash; length_is = is.length_is; is_object = is.is_object; links = is.links }

-- the blob that an entry adds, where there is one, has these bytes
abbrev AddsBlob : List ℕ → Option Entry → Type 0
AddsBlob bytes (Some entry) = Adds IsBlobOf blob_lasts entry bytes
AddsBlob bytes None = ⊤

blob_stored : (s : State) (space : List ℕ) (content : Content) (hour : ℕ) → IsContent content → IsBlobOf (blob_name space (content_hash content.bytes)) (blob_of (stored_content s content) hour) content.bytes
blob_stored s space content hour read = record { hash = refl; length_is = refl; is_object = content.is_object; links = read }

entry_sound : (cache : Cache) (bytes : List ℕ) (entry : Entry) → IsSound cache → AreWhole (after cache.index entry) → Adds IsBlobOf blob_lasts entry bytes → IsSound (changed cache bytes (Some entry))
entry_sound cache bytes entry sound whole adds =
    let before : Have IsBlobOf cache.index.blobs sound.all = record { each = sound.blobs; none_else = sound.none_else } in
    let now = stay IsBlobOf blob_lasts cache.index sound.all entry bytes before adds in
    record {
      all = kept sound.all entry bytes;
      told = ap (option_map (λ (all : FinMap blob_cmp (List ℕ)). kept all entry bytes)) sound.told;
      blobs = now.each;
      none_else = now.none_else;
      whole = whole;
    }

stays_sound : (cache : Cache) (bytes : List ℕ) (made : Option Entry) → IsSound cache → KeepsWhole cache.index made → AddsBlob bytes made → IsSound (changed cache bytes made)
stays_sound cache bytes None sound keeps adds = sound
stays_sound cache bytes (Some entry) sound keeps adds = entry_sound cache bytes entry sound keeps.1 adds

-- ---- the laws

pub empty_sound : EmptyIsSound
empty_sound limits = record {
  all = empty;
  told = refl;
  blobs = λ name blob there. absurd (no (get-empty blob_cmp name) there);
  none_else = λ name bytes there. absurd (no (get-empty blob_cmp name) there);
  whole = λ name slot hash there done. absurd (no (get-empty ref_name_cmp name) there);
} where
  no : {A : Type 0} {o : Option A} {x : A} → o ≡ None → o ≡ Some x → ⊥
  no e f = let g : None ≡ Some _ = sym e ∙ f in cc

pub space_sound : SpaceStaysSound
space_sound cache space ttl pin answer made sound gives =
    stays_sound cache [] made sound (space_whole cache.index space ttl pin answer made sound.whole gives)
    (made_by_space (AddsBlob []) tt cache.index space ttl pin tt answer made gives)

pub upload_sound : UploadStaysSound
upload_sound cache space content hour answer made sound read gives =
    stays_sound cache content.bytes made sound (upload_whole cache.index space content hour answer made sound.whole gives)
    (made_by_upload (AddsBlob content.bytes) tt cache.index space content hour (λ known room none. blob_stored cache.index space content _ read) (λ known blob is. tt) answer made gives)

pub put_sound : PutStaysSound
put_sound cache name content hour answer made sound read gives =
    stays_sound cache content.bytes made sound (put_whole cache.index name content hour answer made sound.whole gives)
    (made_by_put (AddsBlob content.bytes) tt cache.index name content hour (λ known room needs are. adds needs (blob_at cache.index name.space (content_hash content.bytes))) answer made gives) where
      adds : (needs : List IoHash) (found : Option Blob) → AddsBlob content.bytes (Some (Put name (content_hash content.bytes) (fresh_where cache.index found content) (needs_none needs) (hour_of cache.index hour)))
      adds needs None = blob_stored cache.index name.space content _ read
      adds needs (Some blob) = tt

pub finalise_sound : FinaliseStaysSound
finalise_sound cache name hash hour answer made sound gives =
    stays_sound cache [] made sound (finalise_whole cache.index name hash hour answer made sound.whole gives)
    (made_by_finalise (AddsBlob []) tt cache.index name hash hour (λ known are. tt) answer made gives)

pub get_sound : GetStaysSound
get_sound cache name hour answer made sound gives =
    stays_sound cache [] made sound (get_whole cache name hour answer made sound.whole gives)
    (made_by_get (AddsBlob []) tt cache name hour (λ hash known. tt) answer made gives)

pub delete_sound : DeleteStaysSound
delete_sound cache name hour answer made sound gives =
    stays_sound cache [] made sound (delete_whole cache.index name hour answer made sound.whole gives)
    (made_by_delete (AddsBlob []) tt cache.index name hour (λ known there. tt) answer made gives)

pub expire_sound : ExpireStaysSound
expire_sound cache space spots hour sound = entry_sound cache [] (Expire space spots hour) sound (expire_whole cache.index space spots hour sound.whole) tt

pub swept_sound : SweptStaysSound
swept_sound leases cache space hashes sound lawful = entry_sound cache [] (Swept space hashes) sound (swept_whole leases cache.index space hashes sound.whole lawful) tt
