use Rattle.std.proofs.Common.{ap, ◌∙◌, inr}
use Rattle.std.specs.FinMap as map
use Rattle.ddc_state.specs.Nested.{in_spaces}
use Rattle.ddc_state.proofs.Lending.{ends_alike}
use Rattle.ddc_state.proofs.Nesting.{read_in, read_none, kept_in, written, len_written}
use Rattle.ddc_state.proofs.blob_map.BlobMap.get_mut.Goals as goal

pub invariant_of-self-lent : goal.invariant_of-self-lent
invariant_of-self-lent g c = λ _.
    let m = c.self.inside.spaces in
    let name = c.args.name.now in
    let old = c.in-Some.blobs.now in
    let lent = c.get_mut.follows in
    let inner = c.get_mut-in-Some.follows in
    let none = inner.lender-at-none in (
      λ w. let new = inner.lender w in len_written m (lent.lender new) name old new c.in-Some.ensures.value (lent.holds new) w (inner.holds w) ∙ c.self.invariant,
      ap map.len (kept_in m (lent.lender none) name old none c.in-Some.ensures.value (lent.holds none) (λ i. (inner.holds-at-none i).entries)) ∙ c.self.invariant,
    )

pub returns-in-Some : goal.returns-in-Some
returns-in-Some g c =
    let m = c.self.inside.spaces in
    let name = c.args.name.now in
    let old = c.in-Some.blobs.now in
    let lent = c.get_mut.follows in
    let inner = c.get_mut-in-Some.follows in
    let none = inner.lender-at-none in
    let found = c.get_mut-in-Some.ensures.value in (
      ends_alike c.get_mut-in-Some.result _ _ _ _
          (λ v some w. let new = inner.lender w in
          written m (lent.lender new) name old new c.in-Some.ensures.value (lent.holds new) w (inner.holds w) v (some ∙ found) ∙ ap (λ m. map.insert m name w) c.self.view_is)
          (kept_in m (lent.lender none) name old none c.in-Some.ensures.value (lent.holds none) (λ i. (inner.holds-at-none i).entries) ∙ c.self.view_is),
      record { writes_back = tt; value = found ∙ read_in m.entries name old c.in-Some.ensures.value ∙ ap (λ m. map.get m name) c.self.view_is },
    )

pub returns-in-None : goal.returns-in-None
returns-in-None g c = (
  ap inr ((λ i. in_spaces (c.get_mut.follows.holds-at-none i).entries) ∙ c.self.view_is),
  record { writes_back = tt; value = read_none c.self.inside.spaces.entries c.args.name.now c.in-None.ensures.value ∙ ap (λ m. map.get m c.args.name.now) c.self.view_is },
)
