use Rattle.std.proofs.Common.{◌≡◌, ◌+◌, ◌∙◌, length, drop, arith, sym}
use Rattle.std.specs.Prelude.{EachIndex, slice_index}
use Rattle.std.proofs.lemmas.Grind.{common_steps}
use Rattle.std.proofs.lemmas.List.{take_at}
use Rattle.ddc_disk.specs.Told.{at_told}
use Rattle.ddc_journal.proofs.Making.{if_told}
use Rattle.ddc_journal.proofs.Windows.{piece_is, when_ok}
use Rattle.ddc_journal.proofs.window.read_piece.Goals as goal

pub returns-clause-bytes : goal.returns-clause-bytes
returns-clause-bytes g c = if_told (g.D.Disk.meaning c.args.disk.now).held _ (λ file is fits.
    let into = c.read.new.into in
    let size : length into ≡ c.args.size = grind (arith, common_steps) in
    let bytes = when_ok c.read.result _ (sym c.if-is_err-2.ensures.value) c.read.ensures.bytes in
    let same = at_told (g.D.Disk.meaning c.args.disk.now).held (λ f. EachIndex into (λ k. slice_index into k ≡ slice_index f (c.args.at + k))) file is bytes in
    let len : length into ≡ c.resize.new.self.len = grind (arith, common_steps) in
    take_at into (drop (length into) c.resize.new.self.items) c.resize.new.self.len len ∙ piece_is into file c.args.at c.args.size size fits same)
