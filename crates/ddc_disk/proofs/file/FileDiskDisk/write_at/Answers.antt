use Rattle.std.proofs.Common.{length}
use Rattle.ddc_disk.specs.Unknown.{unknown_tears}
use Rattle.ddc_disk.proofs.file.FileDiskDisk.write_at.Goals as goal

pub returns-clause-crash : goal.returns-clause-crash
returns-clause-crash c = unknown_tears c.args.at (length c.args.bytes.now) 0 0 0 0
