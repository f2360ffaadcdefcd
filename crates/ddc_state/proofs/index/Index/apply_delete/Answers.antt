use Rattle.std.proofs.Common.{◌≡◌, true, Option, sym, subst}
use Rattle.ddc_names.specs.declared.hash.IoHash.{IoHash}
use Rattle.ddc_model.specs.Entries.{count_deleted, has_numbers}
use Rattle.ddc_state.proofs.Changes.{delete_done}
use Rattle.ddc_state.proofs.index.Index.apply_delete.Goals as goal

pub note_deleted-requires : goal.note_deleted-requires
note_deleted-requires c = subst (λ (o : Option IoHash). has_numbers c.args.self.now.state c.args.name.now.space (count_deleted o) ≡ true) (sym c.done-old.ensures) c.requires

pub returns-clause-ok : goal.returns-clause-ok
returns-clause-ok c =
    delete_done c.args.self.now c.note_deleted.new.self c.drop_slot.new.self c.raise.new.self c.args.name.now c.args.hour c.done-old.result c.done-old.ensures
    c.in_ok-note_deleted.ensures.ok c.drop_slot.ensures c.raise.ensures
