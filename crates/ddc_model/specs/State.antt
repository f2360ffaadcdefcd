-- The state of a store, as finite maps.
use Rattle.std.specs.Prelude.{ℕ, Bool, List, Option, None, Some, is_some, refl}
use Rattle.std.specs.FinMap.{FinMap, get, empty, code}
use Rattle.std.specs.Option.{unwrap_or}
use Rattle.std.specs.Coded.{Coded, code_by, coded×, coded_ℕ}
use Rattle.ddc_names.specs.declared.hash.IoHash.{IoHash}
use Rattle.ddc_names.specs.Orders.{name_cmp, ref_name_cmp, coded_name, coded_ref_name}
use Rattle.ref_store.specs.declared.slot.Slot.{Slot}
use Rattle.ref_store.specs.Slots.{coded_slot}
use Rattle.replication_log.specs.Logs.{Log, coded_log, empty_log}
use Rattle.ddc_model.specs.declared.rows.Blob.{Blob}
use Rattle.ddc_model.specs.declared.rows.BlobName.{BlobName}
use Rattle.ddc_model.specs.declared.rows.Cursor.{Cursor}
use Rattle.ddc_model.specs.declared.rows.Limits.{Limits}
use Rattle.ddc_model.specs.declared.rows.SpaceRow.{SpaceRow}
use Rattle.ddc_model.specs.Keys.{blob_cmp, coded_blob_name, coded_blob, coded_space_row, coded_cursor}
use Rattle.ddc_model.specs.Limits.{coded_limits}

-- the namespaces, the blobs with their links, the references, the events that each namespace has noted, how far followers
-- have come, and the greatest hour of a change, within these limits
pub record State : Type 0 where
  pub limits : Limits
  pub hour : ℕ
  pub spaces : FinMap name_cmp SpaceRow
  pub blobs : FinMap blob_cmp Blob
  pub slots : FinMap ref_name_cmp Slot
  pub logs : FinMap name_cmp Log
  pub cursors : FinMap name_cmp Cursor

abbrev pub coded_state : Coded State
coded_state = code_by (Limits × (ℕ × (FinMap name_cmp SpaceRow × (FinMap blob_cmp Blob × (FinMap ref_name_cmp Slot × (FinMap name_cmp Log × FinMap name_cmp Cursor))))))
    (coded× coded_limits (coded× coded_ℕ (coded× (code coded_name coded_space_row) (coded× (code coded_blob_name coded_blob) (coded× (code coded_ref_name coded_slot) (coded× (code coded_name coded_log) (code coded_name coded_cursor)))))))
    (λ s. (s.limits, (s.hour, (s.spaces, (s.blobs, (s.slots, (s.logs, s.cursors)))))))
    (λ p. record { limits = p.0; hour = p.1.0; spaces = p.1.1.0; blobs = p.1.1.1.0; slots = p.1.1.1.1.0; logs = p.1.1.1.1.1.0; cursors = p.1.1.1.1.1.1 }) (λ _. refl)

-- nothing, at the hour 0
abbrev pub empty_state : Limits → State
empty_state limits = record { limits = limits; hour = 0; spaces = empty; blobs = empty; slots = empty; logs = empty; cursors = empty }

abbrev pub blob_name : List ℕ → IoHash → BlobName
blob_name space hash = record { space = space; hash = hash }

abbrev pub blob_at : State → List ℕ → IoHash → Option Blob
blob_at s space hash = get s.blobs (blob_name space hash)

abbrev pub has_blob : State → List ℕ → IoHash → Bool
has_blob s space hash = is_some (blob_at s space hash)

abbrev pub has_space : State → List ℕ → Bool
has_space s space = is_some (get s.spaces space)

-- the finalised object of a reference
abbrev pub done_of : Option Slot → Option IoHash
done_of (Some slot) = slot.done
done_of None = None

-- the object of a reference that isn't finalised yet
abbrev pub pending_of : Option Slot → Option IoHash
pending_of (Some slot) = slot.pending
pending_of None = None

-- the log of a namespace, which has no events where none was noted
abbrev pub log_of : State → List ℕ → Log
log_of s space = unwrap_or (get s.logs space) (empty_log s.limits.kept)
