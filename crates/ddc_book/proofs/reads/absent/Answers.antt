use Rattle.std.proofs.Common.{ap, sym, ◌∙◌, subst, ◌+◌, []}
use Rattle.std.specs.Prelude.{not, is_some}
use Rattle.ddc_model.specs.declared.rows.Blob.{Blob}
use Rattle.ddc_book.proofs.Absent.{mapped, one_added, none_added, all_sought, IsSought}
use Rattle.ddc_book.proofs.reads.absent.Goals as goal
use Rattle.ddc_book.proofs.reads.absent.Goals.{then-is_none+in_ok-insert, else-is_none}

pub loop-hash-preserved : goal.loop-hash-preserved
loop-hash-preserved c =
    let s = c.args.index.now.state in
    let space = c.args.space.now in
    let hashes = c.args.hashes.now in
    let i = c.loop-hash.hash-index in
    let lt = c.loop-hash-test.true in
    elim c.if-is_none.branch [
      | then-is_none+in_ok-insert w ↦ subst (IsSought s space hashes (i + 1)) (sym w.found-is)
          (one_added s space hashes i (record { 0 = [] }) lt c.loop-hash.found w.insert.new.self (mapped (λ (blob : Blob). blob.row) _ ∙ ap is_some (sym c.blob.ensures.row) ∙ c.is_none.ensures ∙ ap not w.if-is_none.true) w.in_ok-insert.ensures.updates.0 c.loop-hash.invariant)
      | else-is_none w ↦ subst (IsSought s space hashes (i + 1)) (sym w.found-is)
          (none_added s space hashes i (record { 0 = [] }) lt c.loop-hash.found (mapped (λ (blob : Blob). blob.row) _ ∙ ap is_some (sym c.blob.ensures.row) ∙ c.is_none.ensures ∙ ap not w.if-is_none.false) c.loop-hash.invariant)
    ]

pub returns : goal.returns
returns c = all_sought c.args.index.now.state c.args.space.now c.args.hashes.now c.loop-hash.hash-index c.loop-hash.found c.in_ok-list.list c.loop-hash-test.false c.loop-hash.invariant c.in_ok-list.ensures.same c.in_ok-list.ensures.ordered
