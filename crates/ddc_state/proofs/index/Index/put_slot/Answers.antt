use Rattle.std.proofs.Common.{◌≡◌, true, Option, Some, is_some, refl, ap, sym, subst}
use Rattle.ref_store.specs.declared.slot.Slot.{Slot}
use Rattle.ddc_model.specs.State.{done_of}
use Rattle.ddc_model.specs.Entries.{count_added, has_numbers}
use Rattle.ddc_state.proofs.Changes.{put_new_done, put_over_done, still_there}
use Rattle.ddc_state.proofs.index.Index.put_slot.Goals as goal

pub put_new_slot-requires : goal.put_new_slot-requires
put_new_slot-requires c = record {
  new = sym c.in_default.ensures;
  numbers = λ is. subst (λ (o : Option Slot). has_numbers c.args.self.now.state c.args.name.now.space (count_added (done_of o) c.args.root.now) ≡ true) (sym c.in_default.ensures) (c.requires is);
}

pub returns-in_default-clause-ok : goal.returns-in_default-clause-ok
returns-in_default-clause-ok c =
    put_new_done c.args.self.now c.put_new_slot.new.self c.args.name.now c.args.root.now c.args.whole c.args.hour c.slot_after_put-slot.result c.in_default.ensures c.slot_after_put-slot.ensures c.in_ok-put_new_slot.ensures.ok

pub note_put-requires : goal.note_put-requires
note_put-requires c = λ is.
    subst (λ (o : Option Slot). has_numbers c.args.self.now.state c.args.name.now.space (count_added (done_of o) c.args.root.now) ≡ true) (sym c.in-Some.ensures) (c.requires is)

pub replace_slot-requires : goal.replace_slot-requires
replace_slot-requires c =
    still_there c.args.self.now c.note_put.new.self c.note_put.new.self c.args.name.now c.args.root.now c.args.whole c.in-Some.before.done (ap is_some (sym c.in-Some.ensures)) c.in_ok-note_put.ensures.ok

pub returns-clause-ok : goal.returns-clause-ok
returns-clause-ok c =
    put_over_done c.args.self.now c.note_put.new.self c.replace_slot.new.self c.args.name.now c.args.root.now c.args.whole c.args.hour (Some c.in-Some.before) c.in-Some.before.done c.slot_after_put-slot-2.result
    c.in-Some.ensures refl c.slot_after_put-slot-2.ensures c.in_ok-note_put.ensures.ok c.replace_slot.ensures
