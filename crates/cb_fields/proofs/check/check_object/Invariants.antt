use Rattle.std.proofs.Common.{List}
use Rattle.cb_fields.specs.declared.links.Link.{Link}
use Rattle.cb_fields.specs.inside.FieldWalk.{InBounds, Carries, ahead}
use Rattle.cb_fields.proofs.check.check_object.Given as goal

abbrev pub invariant-loop-walk : goal.invariant-loop-walk
invariant-loop-walk l = InBounds l.bytes l.walk × ((links : List Link) × Carries l.bytes l.walk links)

abbrev pub decreases-loop-walk : goal.decreases-loop-walk
decreases-loop-walk l = ahead l.bytes l.walk
