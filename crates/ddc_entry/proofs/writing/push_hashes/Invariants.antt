use Rattle.std.proofs.Common.{◌≡◌, ◌++◌, take}
use Rattle.std.specs.List.{flat_map, AllByRecursion}
use Rattle.ddc_entry.specs.Spelling.{twenty_bytes, IsHash}
use Rattle.ddc_entry.proofs.writing.push_hashes.Given as goal

abbrev pub invariant-loop-hash : goal.invariant-loop-hash
invariant-loop-hash l = (l.out.items ≡ l.initial.out.items ++ flat_map twenty_bytes (take l.hash-index l.hashes)) × AllByRecursion IsHash (take l.hash-index l.hashes)
