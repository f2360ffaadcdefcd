use Rattle.cb_fields.proofs.Agree.{object_links}
use Rattle.cb_fields.proofs.check.links_of.Goals as goal

pub returns-in-Ok : goal.returns-in-Ok
returns-in-Ok c = object_links c.args.bytes.now c.in-Ok.links c.in-Ok.ensures
