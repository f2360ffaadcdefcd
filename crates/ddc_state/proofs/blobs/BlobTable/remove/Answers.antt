use Rattle.std.proofs.Common.{ap, sym, ◌∙◌, ◌≡◌, length, arith}
use Rattle.ddc_model.specs.Keys.{blob_cmp, blob_total, blob_exact}
use Rattle.ddc_state.proofs.Given.{none_removed}
use Rattle.ddc_state.proofs.Counting.{links_in_all, taken}
use Rattle.ddc_state.proofs.blobs.BlobTable.remove.Goals as goal

pub overflow_sub-self : goal.overflow_sub-self
overflow_sub-self c =
    let all = taken c.self.inside.blobs c.args.name.now c.in-Some.blob (sym (sym c.in-Some.is ∙ c.remove.ensures.value)) in
    let old = c.self.invariant in
    let links : length c.links.result.now ≡ length c.in-Some.blob.links = ap length c.links.ensures in
    omega arith

pub invariant_of-self : goal.invariant_of-self
invariant_of-self c =
    let gone = ap links_in_all c.remove.ensures.gone in
    let all = taken c.self.inside.blobs c.args.name.now c.in-Some.blob (sym (sym c.in-Some.is ∙ c.remove.ensures.value)) in
    let old = c.self.invariant in
    let links : length c.links.result.now ≡ length c.in-Some.blob.links = ap length c.links.ensures in
    omega arith

pub invariant_of-self-in-None : goal.invariant_of-self-in-None
invariant_of-self-in-None c =
    ap links_in_all (c.remove.ensures.gone ∙ sym (none_removed blob_cmp blob_total blob_exact c.self.inside.blobs c.args.name.now (sym c.in-None.is ∙ c.remove.ensures.value))) ∙ c.self.invariant
