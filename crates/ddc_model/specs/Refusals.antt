-- What kinds of refusals there are, for tables that treat all of a kind alike.
use Rattle.ddc_model.specs.declared.fault.StoreFault.{StoreFault}
use Rattle.ddc_model.specs.declared.fault.StoreFault.TheVariants.{Broken, NoMemory, DiskFailed, Damaged}

-- There is no memory, which may be so at any time. A disk fails in this call. The store broke in an earlier one. A blob has
-- bytes of another hash. Or the state and the limits don't allow the command.
pub data RefusalKind : Type 0 where
  NoMemoryLeft : RefusalKind
  DiskFails : RefusalKind
  StoreIsBroken : RefusalKind
  BlobIsDamaged : RefusalKind
  NotAllowed : RefusalKind

abbrev pub refusal_kind : StoreFault → RefusalKind
refusal_kind NoMemory = NoMemoryLeft
refusal_kind DiskFailed = DiskFails
refusal_kind (Broken faults) = StoreIsBroken
refusal_kind (Damaged hash found) = BlobIsDamaged
refusal_kind fault = NotAllowed
