use Rattle.std.proofs.Common.{ap, ◌∙◌, arith}
use Rattle.std.specs.FinMap as map
use Rattle.ddc_state.proofs.Counting.{links_in_all, added}
use Rattle.ddc_state.proofs.blobs.BlobTable.add.Goals as goal

pub invariant_of-self-2 : goal.invariant_of-self-2
invariant_of-self-2 c =
    let m = c.self.inside.blobs in
    let set = ap links_in_all (c.in_ok-insert.ensures.ok ∙ ap (map.insert m c.args.name.now) c.of.ensures) in
    let all = added m c.args.name.now c.args.blob (ap (λ m. map.get m c.args.name.now) c.self.view_is ∙ c.requires) in
    let old = c.self.invariant in
    omega (arith, c.in-Some.ensures.1, c.len.ensures)
