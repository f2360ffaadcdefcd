use Rattle.ddc_names.proofs.Laws.{IsUtf8-name}
use Rattle.ddc_names.proofs.name.Name.as_str.Goals as goal

pub unreachable-requires : goal.unreachable-requires
unreachable-requires c = (rw c.in-Err.is at c.from_utf8.ensures.cases).0 (IsUtf8-name _ c.as_bytes.ensures.named)
