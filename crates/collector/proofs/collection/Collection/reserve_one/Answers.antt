use Rattle.std.proofs.Common.{arith}
use Rattle.collector.proofs.collection.Collection.reserve_one.Goals as goal

pub overflow_add-self : goal.overflow_add-self
overflow_add-self c = omega (arith, c.in_ok-reserve_one.ensures.few, c.in_ok-reserve_one.ensures.ok, c.self.invariant.hash_room)
