-- What becomes of the devices once one that was lent comes back.
use Rattle.std.specs.Borrow.{Lends, Fml, RattleType, MutBor}
use Rattle.ddc_disk.specs.declared.devices.Devices.{Devices}
use Rattle.ddc_disk.specs.contracts.devices.HeldDevices.{the_row}

module _ (D : RattleType) (s : MutBor (Devices D.Denot)) where
  -- the first device is then what was left behind the borrow r, and the others are as before
  abbrev pub lends_first : MutBor D.Denot → Fml
  lends_first r = Lends (the_row D) D s r (λ w. record s.now { first = w })

  abbrev pub lends_second : MutBor D.Denot → Fml
  lends_second r = Lends (the_row D) D s r (λ w. record s.now { second = w })

  abbrev pub lends_blobs : MutBor D.Denot → Fml
  lends_blobs r = Lends (the_row D) D s r (λ w. record s.now { blobs = w })
