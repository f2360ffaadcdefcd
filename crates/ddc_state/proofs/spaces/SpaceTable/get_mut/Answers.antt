use Rattle.std.proofs.Common.{◌≡◌, ap, sym, ◌∙◌, subst, List, ℕ, length}
use Rattle.std.specs.FinMap as map
use Rattle.ddc_names.specs.Orders.{name_cmp, name_total, name_exact}
use Rattle.ddc_state.proofs.Given.{get_read}
use Rattle.ddc_state.proofs.Lending.{ends_alike}
use Rattle.ddc_state.proofs.Rows.{row_written, row_counted}
use Rattle.ddc_state.proofs.spaces.SpaceTable.get_mut.Goals as goal

pub invariant_of-self-lent : goal.invariant_of-self-lent
invariant_of-self-lent g c = λ _.
    let lent = c.get_mut.follows in (
      λ w. row_counted name_cmp name_total name_exact c.self.inside.rows (lent.lender w) c.args.space.now w (lent.holds w) c.self.invariant,
      subst (λ (es : List (List ℕ × g.row.V.Denot)). map.len (map.from_entries {R = name_cmp} es) ≡ length es) (sym (λ i. (lent.holds-at-none i).entries)) c.self.invariant,
    )

pub returns : goal.returns
returns g c =
    let m = c.self.inside.rows in
    let space = c.args.space.now in
    let lent = c.get_mut.follows in (
      ends_alike c.get_mut.result _ _ _ _
          (λ v some w. row_written name_cmp name_total name_exact m (lent.lender w) space w (lent.holds w) v (some ∙ c.get_mut.ensures.value) ∙ ap (λ m. map.insert m space w) c.self.view_is)
          ((λ i. map.from_entries (lent.holds-at-none i).entries) ∙ c.self.view_is),
      record { writes_back = tt; value = c.get_mut.ensures.value ∙ sym (get_read name_cmp name_total m.entries space) ∙ ap (λ m. map.get m space) c.self.view_is },
    )
