use Rattle.std.proofs.Common.{◌≡◌, ◌<◌, ◌-◌, ℕ, List, length}
use Rattle.std.specs.Prelude.{Some}
use Rattle.ddc_journal.specs.inside.Reads.{IsOnlyRead}
use Rattle.ddc_journal.specs.inside.Scanning.{IsReadTo}
use Rattle.ddc_journal.proofs.window.read_items.Given as goal

abbrev pub invariant-windows : goal.invariant-windows
invariant-windows g l = record {
  inside : l.walk.at < l.size;
  only : IsOnlyRead (g.D.Disk.meaning l.initial.disk) (g.D.Disk.meaning l.disk);
  faults : (g.D.Disk.meaning l.initial.disk).faults ≡ (g.D.Disk.meaning l.disk).faults;
  told : (file : List ℕ) → (g.D.Disk.meaning l.initial.disk).held ≡ Some file → l.size ≡ length file → IsReadTo l.walk.bodies l.walk.at file;
}

abbrev pub decreases-windows : goal.decreases-windows
decreases-windows g l = l.size - l.walk.at
