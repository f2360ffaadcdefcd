use Rattle.std.proofs.Common.{ap, ◌∙◌, ◌-◌, List, Some, arith}
use Rattle.std.specs.List.{slice_index_or}
use Rattle.ref_store.specs.declared.slot.RefRow.{RefRow}
use Rattle.ref_store.specs.declared.slot.SlotPage.{SlotPage}
use Rattle.ref_store.proofs.Cuts.{long_page}
use Rattle.ref_store.proofs.table.cut_page.Goals as goal

pub returns : goal.returns
returns c all front =
    ap (λ (lent : List RefRow). let page : SlotPage = record { rows = c.pop.new.self; next = Some (slice_index_or lent (c.args.count - 1) c.index-as_slice-count.result).spot } in page) c.as_slice.ensures
    ∙ long_page c.args.rows c.pop.new.self all c.pop.result c.args.count c.index-as_slice-count.result c.requires front (omega (arith, c.if-len-count, c.len.ensures)) c.pop.ensures.last c.pop.ensures.empty
