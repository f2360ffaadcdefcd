use Rattle.std.proofs.Common.{◌≡◌, ◌+◌, ◌∙◌}
use Rattle.std.specs.Prelude.{EachIndex, slice_index}
use Rattle.ddc_disk.specs.Told.{at_told}
use Rattle.ddc_journal.proofs.Making.{if_told}
use Rattle.ddc_journal.proofs.Reading.{window_rank}
use Rattle.ddc_journal.proofs.pair.files.rank_of.Goals as goal

pub returns-clause-value : goal.returns-clause-value
returns-clause-value g c = if_told (g.D.Disk.meaning c.args.disk.now).held _ (λ file is.
    let front = c.read.new.into in
    let bytes = at_told (g.D.Disk.meaning c.args.disk.now).held (λ f. EachIndex front (λ k. slice_index front k ≡ slice_index f (0 + k))) file is c.in_ok-read.ensures.bytes in
    c.rank_in.ensures ∙ window_rank front file c.read.auto.into bytes)
