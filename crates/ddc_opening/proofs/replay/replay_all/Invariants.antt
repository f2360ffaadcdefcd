use Rattle.std.proofs.Common.{◌≡◌, ◌+◌, ◌-◌, ◌^◌, ◌++◌, length}
use Rattle.std.specs.Prelude.{min}
use Rattle.std.specs.Vec.Iter.{into_iter_items, into_iter_len}
use Rattle.ddc_journal.specs.Journal.{front_size, items}
use Rattle.ddc_opening.specs.inside.Replaying.{AreReplayed}
use Rattle.ddc_opening.proofs.replay.replay_all.Given as goal

abbrev pub invariant-loop-body : goal.invariant-loop-body
invariant-loop-body l = record {
  all : l.yielded ++ into_iter_items l.body-iterator ≡ l.fn.bodies;
  left : into_iter_len l.body-iterator ≡ length (into_iter_items l.body-iterator);
  replayed : AreReplayed l.fn.limits l.yielded l.replay.index.state l.replay.steps.items;
  place : l.at ≡ min (front_size + length (items l.yielded)) (2 ^ 64 - 1);
}
