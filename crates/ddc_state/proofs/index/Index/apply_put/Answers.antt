use Rattle.std.proofs.Common.{◌∙◌, ap, subst, ◌≡◌, true, Option}
use Rattle.ddc_model.specs.Entries.{is_root, without_blob}
use Rattle.ddc_model.specs.declared.entry.Stored.{Stored}
use Rattle.ddc_state.specs.Views.{IndexView, in_state}
use Rattle.ddc_state.proofs.Undo.{add_undone}
use Rattle.ddc_state.proofs.index.Index.apply_put.Goals as goal

pub returns-in-Err-clause-err : goal.returns-in-Err-clause-err
returns-in-Err-clause-err c = c.remove_blob.ensures
    ∙ ap (λ (index : IndexView). in_state index (without_blob index.state c.args.name.now.space c.in-Some.blob.hash)) (c.in-Err.ensures.err ∙ c.in_ok-add_blob-in-Some.ensures.ok)
    ∙ add_undone c.args.self.now c.args.name.now.space c.args.root.now c.in-Some.blob c.args.hour
    (subst (λ (fresh : Option Stored). is_root c.args.self.now.state c.args.name.now.space c.args.root.now fresh ≡ true) c.in-Some.is c.requires.root)
