use Rattle.std.proofs.Common.{ap, ◌∙◌, ◌-◌, ◌≤◌, subst}
use Rattle.std.specs.FinMap as map
use Rattle.ddc_model.specs.Keys.{blob_cmp, blob_total, blob_exact}
use Rattle.ddc_state.specs.Nested.{in_spaces}
use Rattle.ddc_state.proofs.Given.{none_removed, len_taken, at_least_one}
use Rattle.ddc_state.proofs.Nesting.{read_in, read_none, taken_in, kept_in}
use Rattle.ddc_state.proofs.blob_map.BlobMap.remove.Goals as goal

pub returns-in_err-get_mut-clause-value : goal.returns-in_err-get_mut-clause-value
returns-in_err-get_mut-clause-value g c = c.from_residual.ensures ∙ read_none c.self.inside.spaces.entries c.args.name.now c.in_err-get_mut.ensures.value ∙ ap (λ m. map.get m c.args.name.now) c.self.view_is

pub returns-in_err-get_mut-clause-gone : goal.returns-in_err-get_mut-clause-gone
returns-in_err-get_mut-clause-gone g c =
    let es = c.self.inside.spaces.entries in
    (λ i. in_spaces (c.get_mut.follows.holds-at-none i).entries)
    ∙ none_removed blob_cmp blob_total blob_exact (in_spaces es) c.args.name.now (read_none es c.args.name.now c.in_err-get_mut.ensures.value)
    ∙ ap (λ m. map.remove m c.args.name.now) c.self.view_is

pub invariant_of-self-in_err-value : goal.invariant_of-self-in_err-value
invariant_of-self-in_err-value g c =
    let new = c.remove.new.self in
    ap map.len (kept_in c.self.inside.spaces (c.get_mut.follows.lender new) c.args.name.now c.in_ok-get_mut.field-0.now new c.in_ok-get_mut.ensures.value (c.get_mut.follows.holds new) c.in_err-value.ensures.unchanged)
    ∙ c.self.invariant

pub returns-in_err-value-clause-value : goal.returns-in_err-value-clause-value
returns-in_err-value-clause-value g c =
    c.from_residual-in_err-value.ensures ∙ c.in_err-value.ensures.value ∙ read_in c.self.inside.spaces.entries c.args.name.now c.in_ok-get_mut.field-0.now c.in_ok-get_mut.ensures.value
    ∙ ap (λ m. map.get m c.args.name.now) c.self.view_is

pub returns-in_err-value-clause-gone : goal.returns-in_err-value-clause-gone
returns-in_err-value-clause-gone g c =
    let es = c.self.inside.spaces.entries in
    let old = c.in_ok-get_mut.field-0.now in
    let new = c.remove.new.self in
    kept_in c.self.inside.spaces (c.get_mut.follows.lender new) c.args.name.now old new c.in_ok-get_mut.ensures.value (c.get_mut.follows.holds new) c.in_err-value.ensures.unchanged
    ∙ none_removed blob_cmp blob_total blob_exact (in_spaces es) c.args.name.now (c.in_err-value.ensures.value ∙ read_in es c.args.name.now old c.in_ok-get_mut.ensures.value)
    ∙ ap (λ m. map.remove m c.args.name.now) c.self.view_is

pub overflow_sub-self : goal.overflow_sub-self
overflow_sub-self g c =
    let es = c.self.inside.spaces.entries in
    subst (λ n. 1 ≤ n) c.self.invariant
    (at_least_one blob_cmp blob_total (in_spaces es) c.args.name.now c.in_ok-value.value (c.in_ok-value.ensures.value ∙ read_in es c.args.name.now c.in_ok-get_mut.field-0.now c.in_ok-get_mut.ensures.value))

pub invariant_of-self-2 : goal.invariant_of-self-2
invariant_of-self-2 g c =
    let m = c.self.inside.spaces in
    let name = c.args.name.now in
    let old = c.in_ok-get_mut.field-0.now in
    let new = c.remove.new.self in
    ap map.len (taken_in m (c.get_mut.follows.lender new) name old new c.in_ok-get_mut.ensures.value (c.get_mut.follows.holds new) c.remove.ensures.updates.0)
    ∙ len_taken blob_cmp blob_total (in_spaces m.entries) name c.in_ok-value.value (c.in_ok-value.ensures.value ∙ read_in m.entries name old c.in_ok-get_mut.ensures.value)
    ∙ ap (λ n. n - 1) c.self.invariant

pub returns-clause-value : goal.returns-clause-value
returns-clause-value g c =
    c.in_ok-value.ensures.value ∙ read_in c.self.inside.spaces.entries c.args.name.now c.in_ok-get_mut.field-0.now c.in_ok-get_mut.ensures.value ∙ ap (λ m. map.get m c.args.name.now) c.self.view_is

pub returns-clause-gone : goal.returns-clause-gone
returns-clause-gone g c =
    let new = c.remove.new.self in
    taken_in c.self.inside.spaces (c.get_mut.follows.lender new) c.args.name.now c.in_ok-get_mut.field-0.now new c.in_ok-get_mut.ensures.value (c.get_mut.follows.holds new) c.remove.ensures.updates.0
    ∙ ap (λ m. map.remove m c.args.name.now) c.self.view_is
