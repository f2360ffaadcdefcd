use Rattle.std.proofs.Common.{ℕ, ◌+◌, ap, ◌∙◌}
use Rattle.replication_log.proofs.Each.{follows_next}
use Rattle.ddc_model.specs.State.{log_of}
use Rattle.ddc_model.specs.Entries.{with_numbered}
use Rattle.ddc_state.specs.Views.{in_state}
use Rattle.ddc_state.proofs.index.Index.note.Goals as goal

pub note_numbered-requires : goal.note_numbered-requires
note_numbered-requires c = follows_next (log_of c.args.self.now.state c.args.name.now.space) (c.last_number-last.result + 1) (ap (λ (n : ℕ). n + 1) c.last_number-last.ensures)

pub returns-clause-ok : goal.returns-clause-ok
returns-clause-ok c =
    c.in_ok-note_numbered.ensures.ok ∙ ap (λ (n : ℕ). in_state c.args.self.now (with_numbered c.args.self.now.state c.args.name.now (n + 1) c.args.op)) c.last_number-last.ensures
