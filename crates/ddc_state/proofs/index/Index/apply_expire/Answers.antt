use Rattle.std.proofs.Common.{◌∙◌}
use Rattle.ddc_state.proofs.Changes.{expire_done, expire_room}
use Rattle.ddc_state.proofs.index.Index.apply_expire.Goals as goal

pub note_deletions-requires : goal.note_deletions-requires
note_deletions-requires c = expire_room c.args.self.now.state c.args.space.now c.args.spots.now c.as_slice.result.now c.requires.numbers (c.as_slice.ensures ∙ c.in_ok-served.ensures)

pub returns-clause-ok : goal.returns-clause-ok
returns-clause-ok c =
    expire_done c.args.self.now c.note_deletions.new.self c.drop_slots.new.self c.raise.new.self c.args.space.now c.args.spots.now c.as_slice.result.now c.args.hour c.requires.ordered
    (c.as_slice.ensures ∙ c.in_ok-served.ensures) c.in_ok-note_deletions.ensures.ok c.drop_slots.ensures c.raise.ensures
