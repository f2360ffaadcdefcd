use Rattle.std.proofs.Common.{rules, refl}
use Rattle.ddc_disk.specs.Memory.{fresh}
use Rattle.ddc_disk.proofs.tear.crash_image.Goals as goal

pub loop-rest-init : goal.loop-rest-init
loop-rest-init c = (fresh c.args.start.now, (search rules, search rules), refl, λ none. (search rules, search rules), search rules)
