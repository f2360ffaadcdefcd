use Rattle.std.proofs.Common.{◌≡◌, true, Option, Some, None, sym, subst}
use Rattle.ddc_names.specs.declared.hash.IoHash.{IoHash}
use Rattle.ddc_model.specs.Entries.{count_added, has_numbers}
use Rattle.ddc_state.proofs.Changes.{finalise_done, still_waits}
use Rattle.ddc_state.proofs.index.Index.apply_finalise.Goals as goal

pub note_added-requires : goal.note_added-requires
note_added-requires c = subst (λ (o : Option IoHash). has_numbers c.args.self.now.state c.args.name.now.space (count_added o c.args.hash.now) ≡ true) (sym c.done-old.ensures) c.requires.numbers

pub replace_slot-requires : goal.replace_slot-requires
replace_slot-requires c =
    still_waits c.args.self.now c.note_added.new.self c.note_added.new.self c.args.name.now c.args.hash.now c.done-old.result c.requires.pending c.in_ok-note_added.ensures.ok

pub returns-clause-ok : goal.returns-clause-ok
returns-clause-ok c =
    finalise_done c.args.self.now c.note_added.new.self c.replace_slot.new.self c.raise.new.self c.args.name.now c.args.hash.now c.args.hour c.done-old.result
    (record { done = Some c.args.hash.now; pending = None; seen = c.args.hour }) c.done-old.ensures c.in_ok-note_added.ensures.ok c.replace_slot.ensures c.raise.ensures
