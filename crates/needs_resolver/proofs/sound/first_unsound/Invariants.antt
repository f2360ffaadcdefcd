use Rattle.std.proofs.Common.{◌≡◌, ◌+◌, ◌≤◌}
use Rattle.std.specs.FinMap.{len}
use Rattle.needs_resolver.specs.Walking.{met_of}
use Rattle.needs_resolver.specs.Unsound.{AreWholeUpTo, IsIdleAfter, reads_after, count_behind}
use Rattle.needs_resolver.proofs.sound.first_unsound.Given as goal

abbrev pub invariant-loop-name : goal.invariant-loop-name
invariant-loop-name l = record {
  same : l.index.state ≡ l.fn.index.state;
  counted : l.index.reads + reads_after l.fn.index.state l.last (met_of l.walk) ≤ l.fn.index.reads + len l.fn.index.state.blobs;
  whole : AreWholeUpTo l.fn.index.state l.last;
  idle : IsIdleAfter l.fn.index.state l.last (met_of l.walk);
}

abbrev pub decreases-loop-name : goal.decreases-loop-name
decreases-loop-name l = count_behind l.fn.index.state.slots l.last
