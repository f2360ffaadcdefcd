use Rattle.std.proofs.Common.{ap, ◌∙◌, None}
use Rattle.std.specs.FinMap.{remove}
use Rattle.ddc_names.specs.Orders.{ref_name_cmp, ref_name_total, ref_name_exact}
use Rattle.ref_store.specs.Slots.{Slots}
use Rattle.ddc_model.specs.Entries.{has_numbers}
use Rattle.ddc_state.specs.Views.{IndexView, in_state}
use Rattle.ddc_state.specs.inside.Noted.{noted_where}
use Rattle.ddc_state.proofs.Given.{put_undone}
use Rattle.ddc_state.proofs.Noting.{new_put}
use Rattle.ddc_state.proofs.index.Index.put_new_slot.Goals as goal

pub note_put-requires : goal.note_put-requires
note_put-requires c = λ is. ap (λ (index : IndexView). has_numbers index.state c.args.name.now.space 1) c.in_ok-set_slot.ensures.ok ∙ c.requires.numbers is

pub returns-in-Err-clause-err : goal.returns-in-Err-clause-err
returns-in-Err-clause-err c =
    c.drop_slot.ensures
    ∙ ap (λ (index : IndexView). in_state index (record index.state { slots = remove index.state.slots c.args.name.now })) (c.in-Err.ensures.err ∙ c.in_ok-set_slot.ensures.ok)
    ∙ ap (λ (slots : Slots). in_state c.args.self.now (record c.args.self.now.state { slots = slots })) (put_undone ref_name_cmp ref_name_total ref_name_exact c.args.self.now.state.slots c.args.name.now c.args.slot c.requires.new)

pub returns-clause-ok : goal.returns-clause-ok
returns-clause-ok c =
    c.in_default.ensures.ok
    ∙ ap (λ (index : IndexView). in_state index (noted_where c.args.whole index.state c.args.name.now None c.args.root.now)) c.in_ok-set_slot.ensures.ok
    ∙ ap (in_state c.args.self.now) (new_put c.args.whole c.args.self.now.state c.args.name.now c.args.root.now c.args.slot)
