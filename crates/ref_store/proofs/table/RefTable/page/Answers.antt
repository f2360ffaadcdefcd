use Rattle.std.proofs.Common.{ap, ◌∙◌, ◌+◌, List, take}
use Rattle.std.specs.List.{filter_map}
use Rattle.ddc_names.specs.declared.reference.RefName.{RefName}
use Rattle.ref_store.specs.declared.slot.Slot.{Slot}
use Rattle.ref_store.specs.Pages.{row_of, rows_after}
use Rattle.ref_store.proofs.Pages.{run_read}
use Rattle.ref_store.proofs.table.RefTable.page.Goals as goal

pub returns : goal.returns
returns c = c.cut_page.ensures (rows_after c.args.self.now c.args.space.now c.args.from)
    (c.in_ok-rows.ensures.rows
    ∙ ap (λ (es : List (RefName × Slot)). take (c.args.count + 1) (filter_map row_of es)) (run_read c.args.self.now c.args.space.now c.args.from c.self.inside.slots.entries c.self.view_is c.in_ok-rows.ensures.ordered))
