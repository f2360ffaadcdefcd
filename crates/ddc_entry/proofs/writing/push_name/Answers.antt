use Rattle.std.proofs.Common.{arith}
use Rattle.ddc_names.proofs.Laws.{length-name}
use Rattle.ddc_entry.proofs.writing.push_name.Goals as goal

pub overflow_cast-text : goal.overflow_cast-text
overflow_cast-text c = omega (arith, length-name c.args.text.now c.requires)
