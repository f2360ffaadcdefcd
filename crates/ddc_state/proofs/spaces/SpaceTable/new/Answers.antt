use Rattle.std.proofs.Common.{ap, sym, ◌∙◌, List, ℕ, length}
use Rattle.std.specs.FinMap as map
use Rattle.ddc_names.specs.Orders.{name_cmp}
use Rattle.ddc_state.proofs.spaces.SpaceTable.new.Goals as goal

pub invariant_of-result : goal.invariant_of-result
invariant_of-result g c =
    ap (λ (es : List (List ℕ × g.row.V.Denot)). map.len (map.from_entries {R = name_cmp} es)) c.new.ensures.empty ∙ map.len-empty name_cmp g.row.V.Denot
    ∙ sym (ap (λ (es : List (List ℕ × g.row.V.Denot)). length es) c.new.ensures.empty)
