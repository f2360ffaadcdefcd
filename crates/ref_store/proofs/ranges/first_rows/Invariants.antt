use Rattle.std.proofs.Common.{◌≡◌, ◌≤◌, ◌++◌, take, length}
use Rattle.std.specs.List.{filter_map}
use Rattle.ref_store.specs.Pages.{row_of}
use Rattle.ref_store.specs.inside.Places.{run_of, run_after}
use Rattle.ref_store.proofs.ranges.first_rows.Given as goal

abbrev pub invariant-loop-place : goal.invariant-loop-place
invariant-loop-place l = record {
  few : length l.rows ≤ l.count;
  told : take l.count (l.rows ++ filter_map row_of (run_of l.space l.place-iterator)) ≡ take l.count (filter_map row_of (run_after l.space l.fn.from l.slots.entries));
}
