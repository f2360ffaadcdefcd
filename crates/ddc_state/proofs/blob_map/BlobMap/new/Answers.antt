use Rattle.std.proofs.Common.{ap, ◌∙◌}
use Rattle.std.specs.FinMap.{len, len-empty}
use Rattle.ddc_model.specs.Keys.{blob_cmp}
use Rattle.ddc_state.specs.Nested.{in_spaces}
use Rattle.ddc_state.proofs.blob_map.BlobMap.new.Goals as goal

pub invariant_of-result : goal.invariant_of-result
invariant_of-result g c = ap (λ es. len (in_spaces es)) c.new.ensures.empty ∙ len-empty blob_cmp g.row.V.Denot
