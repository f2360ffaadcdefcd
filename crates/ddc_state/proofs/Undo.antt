-- To take a blob out that was just added leaves the index as it was.
use Rattle.std.specs.Prelude.{◌≡◌, ℕ, Bool, true, false, not, ◌&&◌, List, Option, None, Some, is_some, refl}
use Rattle.std.proofs.Common.{ap}
use Rattle.std.specs.FinMap.{FinMap}
use Rattle.ddc_names.specs.declared.hash.IoHash.{IoHash}
use Rattle.ddc_model.specs.declared.rows.Blob.{Blob}
use Rattle.ddc_model.specs.declared.entry.Stored.{Stored}
use Rattle.ddc_model.specs.Keys.{blob_cmp, blob_total, blob_exact}
use Rattle.ddc_model.specs.State.{blob_name, blob_at}
use Rattle.ddc_model.specs.Entries.{is_root, with_blob, blob_of, without_blob}
use Rattle.ddc_state.specs.Views.{IndexView, in_state}
use Rattle.ddc_state.proofs.Given.{put_undone}

absent : (o : Option Blob) (same short few free : Bool) → (same && (not (is_some o) && short && few && free)) ≡ true → o ≡ None
absent None same short few free h = refl
absent (Some blob) true short few free h = absurd (cc)
absent (Some blob) false short few free h = absurd (cc)

pub add_undone : (index : IndexView) (space : List ℕ) (root : IoHash) (blob : Stored) (hour : ℕ) → is_root index.state space root (Some blob) ≡ true
    → in_state index (without_blob (with_blob index.state space blob hour) space blob.hash) ≡ index
add_undone index space root blob hour fits = ap (λ (blobs : FinMap blob_cmp Blob). in_state index (record index.state { blobs = blobs }))
    (put_undone blob_cmp blob_total blob_exact index.state.blobs (blob_name space blob.hash) (blob_of blob hour) (absent (blob_at index.state space blob.hash) _ _ _ _ fits))
