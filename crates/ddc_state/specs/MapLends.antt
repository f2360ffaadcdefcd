-- What a map of blobs, and a table of namespaces, ends as, once a `&mut` into it has ended.
use Rattle.std.specs.Prelude.{ℕ, List, Option}
use Rattle.std.specs.Borrow.{Fml, RattleType, MutBor, LendsIf}
use Rattle.std.specs.FinMap.{FinMap, insert}
use Rattle.ddc_names.specs.Orders.{name_cmp}
use Rattle.ddc_model.specs.declared.rows.BlobName.{BlobName}
use Rattle.ddc_model.specs.Keys.{blob_cmp}
use Rattle.ddc_state.specs.contracts.blob_map.BlobMap.{the_row}
use Rattle.ddc_state.specs.contracts.spaces.SpaceTable.{the_row as table_row}

-- it has under the name the last value written through r, and at `None` it stays as it is
abbrev pub lends_value : (V : RattleType) → MutBor (FinMap blob_cmp V.Denot) → BlobName → Option (MutBor V.Denot) → Fml
lends_value V m name r = LendsIf (the_row V) V m r (λ w. insert m.now name w) m.now

abbrev pub lends_row : (V : RattleType) → MutBor (FinMap name_cmp V.Denot) → List ℕ → Option (MutBor V.Denot) → Fml
lends_row V m space r = LendsIf (table_row V) V m r (λ w. insert m.now space w) m.now
