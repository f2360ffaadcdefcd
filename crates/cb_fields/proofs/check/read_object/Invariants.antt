use Rattle.cb_fields.specs.inside.FieldWalk.{InBounds, Carries, ahead}
use Rattle.cb_fields.proofs.check.read_object.Given as goal

abbrev pub invariant-loop-walk : goal.invariant-loop-walk
invariant-loop-walk l = InBounds l.bytes l.walk × Carries l.bytes l.walk l.links

abbrev pub decreases-loop-walk : goal.decreases-loop-walk
decreases-loop-walk l = ahead l.bytes l.walk
