use Rattle.std.proofs.Common.{ap, ◌∙◌}
use Rattle.ddc_state.proofs.Counting.{links_in_all, empty_counted}
use Rattle.ddc_state.proofs.blobs.BlobTable.new.Goals as goal

pub invariant_of-result : goal.invariant_of-result
invariant_of-result c = ap links_in_all c.new.ensures ∙ empty_counted
