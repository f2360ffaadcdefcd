use Rattle.std.proofs.Common.{◌≡◌, ◌≤◌, ◌++◌, None, take, length}
use Rattle.std.specs.List.{filter_map}
use Rattle.ref_store.specs.Pages.{expired_spot}
use Rattle.ref_store.specs.inside.Places.{run_of, run_after}
use Rattle.ref_store.proofs.ranges.first_expired.Given as goal

abbrev pub invariant-loop-place : goal.invariant-loop-place
invariant-loop-place l = record {
  few : length l.spots ≤ l.count;
  told : take l.count (l.spots ++ filter_map (expired_spot l.hour l.ttl) (run_of l.space l.place-iterator)) ≡ take l.count (filter_map (expired_spot l.hour l.ttl) (run_after l.space None l.slots.entries));
}
