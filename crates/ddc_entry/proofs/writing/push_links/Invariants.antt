use Rattle.std.proofs.Common.{◌≡◌, ◌++◌, take}
use Rattle.std.specs.List.{flat_map, AllByRecursion}
use Rattle.ddc_entry.specs.Spelling.{link_bytes, IsLink}
use Rattle.ddc_entry.proofs.writing.push_links.Given as goal

abbrev pub invariant-loop-to : goal.invariant-loop-to
invariant-loop-to l = (l.out.items ≡ l.initial.out.items ++ flat_map link_bytes (take l.to-index l.links)) × AllByRecursion IsLink (take l.to-index l.links)
