use Rattle.std.proofs.Common.{◌≡◌, ◌+◌, ◌-◌, ◌≤◌, min, length, drop}
use Rattle.std.specs.VecDeque.{deque_len, deque_capacity}
use Rattle.replication_log.specs.Several.{with_each}
use Rattle.replication_log.proofs.ring.push_each.Given as goal

abbrev pub invariant-loop-spot : goal.invariant-loop-spot
invariant-loop-spot l = record {
  same : with_each (record { kept = l.kept; last = l.number; events = l.events.items }) l.op (drop l.spot-index l.spots) ≡ with_each (record { kept = l.kept; last = l.last; events = l.fn.events.items }) l.op l.spots;
  counted : l.number ≡ l.last + l.spot-index;
  few : deque_len l.events ≤ l.kept;
  room : min l.kept (deque_len l.events + (length l.spots - l.spot-index)) ≤ deque_capacity l.events;
}
