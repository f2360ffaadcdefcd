-- That the entries of commands are fit to be made.
use Rattle.std.specs.Prelude.{◌≡◌, ℕ, ◌≤◌, true, ◌&&◌, List, length, Option, None, Some, Ok, ⊤}
use Rattle.std.proofs.Common.{ap, sym, ◌∙◌, subst}
use Rattle.std.specs.Option.{unwrap_or}
use Rattle.ddc_names.specs.declared.hash.IoHash.{IoHash}
use Rattle.ddc_names.specs.declared.reference.RefName.{RefName}
use Rattle.ddc_entry.specs.Spelling.{RemovalCountFits}
use Rattle.ddc_model.specs.declared.entry.Stored.{Stored}
use Rattle.ddc_model.specs.declared.entry.Entry.{Entry}
use Rattle.ddc_model.specs.declared.entry.Entry.TheVariants.{Space, Finalise, Delete}
use Rattle.ddc_model.specs.Limits.{most_bytes}
use Rattle.ddc_model.specs.State.{State}
use Rattle.ddc_model.specs.Extents.{free_run, units_of}
use Rattle.ddc_model.specs.Entries.{is_time}
use Rattle.ddc_model.specs.Content.{Content, IsContent}
use Rattle.ddc_model.specs.Sound.{Cache, AreWhole, IsSound}
use Rattle.ddc_model.specs.Counts.{fresh_of}
use Rattle.ddc_model.specs.Commands.{changed, stored_content, SpaceAs, UploadAs, PutAs, FinaliseAs, GetAs}
use Rattle.ddc_model.specs.History.{Past, no_room}
use Rattle.ddc_model.specs.Reads.{DeleteAs}
use Rattle.ddc_model.proofs.Made.{made_by_upload, made_by_put, made_by_get}
use Rattle.ddc_model.proofs.Sound.{space_sound, upload_sound, put_sound, finalise_sound, get_sound, delete_sound}
use Rattle.ddc_model.proofs.Whole.{space_whole, upload_whole, put_whole, finalise_whole, get_whole, delete_whole}
use Rattle.ddc_model.proofs.Legal.{upload_legal, put_legal, finalise_legal, get_legal, delete_legal}
use Rattle.ddc_book.specs.inside.Making.{bytes_or_none, Brings, StartsLow, IsFit}

-- a blob of no bytes is stored at the unit 0
pub starts_low : (s : State) (content : Content) (fresh : Stored) → fresh ≡ stored_content s content → fresh.len ≡ 0 → fresh.start ≡ 0
starts_low s content fresh is none =
    let empty : length content.bytes ≡ 0 = sym (ap (λ (f : Stored). f.len) is) ∙ none in
    ap (λ (f : Stored). f.start) is ∙ ap (λ (n : ℕ). unwrap_or (free_run s (units_of n)) 0) empty

-- the entry that is made, where there is one, names as many references or blobs as it may
abbrev CountFitsIf : Option Entry → Type 0
CountFitsIf (Some entry) = RemovalCountFits entry
CountFitsIf None = ⊤

module _ (cache : Cache) (whole : AreWhole cache.index) where
  pub space_fit : (space : List ℕ) (ttl pin : ℕ) → is_time ttl ≡ true → is_time pin ≡ true → SpaceAs cache.index space ttl pin (Ok tt) (Some (Space space ttl pin)) → IsFit cache (Space space ttl pin) None
  space_fit space ttl pin is_ttl is_pin gives =
      let keeps = space_whole cache.index space ttl pin (Ok tt) (Some (Space space ttl pin)) whole gives in
      record { legal = λ i. is_ttl i && is_pin i; count_fits = tt; lawful = keeps.0; whole = keeps.1; brings = tt; starts = tt; sound = λ sound. space_sound cache space ttl pin (Ok tt) (Some (Space space ttl pin)) sound gives }

  pub upload_fit : (space : List ℕ) (content : Content) (hour : ℕ) → IsContent content → length content.bytes ≤ most_bytes → (entry : Entry) (blob : Option (List ℕ)) → Brings (fresh_of entry) blob → StartsLow (fresh_of entry)
      → changed cache content.bytes (Some entry) ≡ changed cache (bytes_or_none blob) (Some entry) → UploadAs cache.index space content hour (Ok tt) (Some entry) → IsFit cache entry blob
  upload_fit space content hour read short entry blob brings starts alike gives =
      let keeps = upload_whole cache.index space content hour (Ok tt) (Some entry) whole gives in
      record {
        legal = upload_legal cache.index space content hour (Ok tt) (Some entry) read short gives;
        count_fits = made_by_upload CountFitsIf tt cache.index space content hour (λ known room none. tt) (λ known found there. tt) (Ok tt) (Some entry) gives;
        lawful = keeps.0;
        whole = keeps.1;
        brings = brings;
        starts = starts;
        sound = λ sound. subst IsSound alike (upload_sound cache space content hour (Ok tt) (Some entry) sound read gives);
      }

  pub put_fit : (past : Past) (name : RefName) (content : Content) (hour : ℕ) → IsContent content → length content.bytes ≤ most_bytes → (needs : List IoHash) (entry : Entry) (blob : Option (List ℕ)) → Brings (fresh_of entry) blob → StartsLow (fresh_of entry)
      → changed cache content.bytes (Some entry) ≡ changed cache (bytes_or_none blob) (Some entry) → PutAs cache.index name content hour (Ok needs) (Some entry) → no_room cache.index past entry ≡ None → IsFit cache entry blob
  put_fit past name content hour read short needs entry blob brings starts alike gives room =
      let keeps = put_whole cache.index name content hour (Ok needs) (Some entry) whole gives in
      record {
        legal = put_legal cache.index past name content hour (Ok needs) (Some entry) read short gives room;
        count_fits = made_by_put CountFitsIf tt cache.index name content hour (λ known fits missing are. tt) (Ok needs) (Some entry) gives;
        lawful = keeps.0;
        whole = keeps.1;
        brings = brings;
        starts = starts;
        sound = λ sound. subst IsSound alike (put_sound cache name content hour (Ok needs) (Some entry) sound read gives);
      }

  pub finalise_fit : (past : Past) (name : RefName) (hash : IoHash) (hour now : ℕ) (needs : List IoHash) → FinaliseAs cache.index name hash hour (Ok needs) (Some (Finalise name hash now)) → no_room cache.index past (Finalise name hash now) ≡ None → IsFit cache (Finalise name hash now) None
  finalise_fit past name hash hour now needs gives room =
      let keeps = finalise_whole cache.index name hash hour (Ok needs) (Some (Finalise name hash now)) whole gives in
      record {
        legal = finalise_legal cache.index past name hash hour (Ok needs) (Some (Finalise name hash now)) gives room;
        count_fits = tt;
        lawful = keeps.0;
        whole = keeps.1;
        brings = tt;
        starts = tt;
        sound = λ sound. finalise_sound cache name hash hour (Ok needs) (Some (Finalise name hash now)) sound gives;
      }

  pub delete_fit : (past : Past) (name : RefName) (hour now : ℕ) → DeleteAs cache.index name hour (Ok tt) (Some (Delete name now)) → no_room cache.index past (Delete name now) ≡ None → IsFit cache (Delete name now) None
  delete_fit past name hour now gives room =
      let keeps = delete_whole cache.index name hour (Ok tt) (Some (Delete name now)) whole gives in
      record {
        legal = delete_legal cache.index past name hour (Ok tt) (Some (Delete name now)) gives room;
        count_fits = tt;
        lawful = keeps.0;
        whole = keeps.1;
        brings = tt;
        starts = tt;
        sound = λ sound. delete_sound cache name hour (Ok tt) (Some (Delete name now)) sound gives;
      }

  -- ---- a reference that is read is touched

  -- the entry of a touch adds no blob
  abbrev AddsNone : Option Entry → Type 0
  AddsNone (Some entry) = RemovalCountFits entry × Brings (fresh_of entry) None × StartsLow (fresh_of entry)
  AddsNone None = ⊤

  pub touch_fit : (name : RefName) (hash : IoHash) (hour : ℕ) (bytes : List ℕ) (entry : Entry) → GetAs cache name hour (Ok (hash, bytes)) (Some entry) → IsFit cache entry None
  touch_fit name hash hour bytes entry gives =
      let keeps = get_whole cache name hour (Ok (hash, bytes)) (Some entry) whole gives in
      let adds = made_by_get AddsNone tt cache name hour (λ found known. (tt, tt, tt)) (Ok (hash, bytes)) (Some entry) gives in
      record {
        legal = get_legal cache name hour (Ok (hash, bytes)) (Some entry) gives;
        count_fits = adds.0;
        lawful = keeps.0;
        whole = keeps.1;
        brings = adds.1;
        starts = adds.2;
        sound = λ sound. get_sound cache name hour (Ok (hash, bytes)) (Some entry) sound gives;
      }
