use Rattle.ddc_disk.specs.Images.{devices_line}
use Rattle.ddc_disk.specs.MemDisks.{told_by}
use Rattle.tests_store.proofs.book.served.Given as goal

abbrev pub ghosts-run : goal.ghosts-run
ghosts-run a = record { start = devices_line told_by a.devices }
