use Rattle.std.proofs.Common.{ap, sym, ◌∙◌, ◌+◌, true, false}
use Rattle.std.specs.FinMap as map
use Rattle.ddc_model.specs.Keys.{blob_cmp, blob_total}
use Rattle.ddc_state.specs.Nested.{in_spaces}
use Rattle.ddc_state.proofs.Given.{len_given}
use Rattle.ddc_state.proofs.blob_map.BlobMap.insert.Goals as goal

pub invariant_of-self-then-not-branch : goal.invariant_of-self-then-not-branch
invariant_of-self-then-not-branch g c =
    ap map.len c.in_ok-put.ensures.ok ∙ len_given blob_cmp blob_total (in_spaces c.self.inside.spaces.entries) c.args.name.now c.args.value false (sym c.if-not-branch.true ∙ c.in_ok-put.ensures.had)
    ∙ ap (λ n. n + 1) c.self.invariant ∙ sym c.in-Some.ensures.1

pub invariant_of-self-else-not-branch : goal.invariant_of-self-else-not-branch
invariant_of-self-else-not-branch g c =
    ap map.len c.in_ok-put.ensures.ok ∙ len_given blob_cmp blob_total (in_spaces c.self.inside.spaces.entries) c.args.name.now c.args.value true (sym c.if-not-branch.false ∙ c.in_ok-put.ensures.had)
    ∙ c.self.invariant
