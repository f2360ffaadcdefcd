use Rattle.std.proofs.Common.{sym}
use Rattle.blob_store.specs.inside.Areas.{extents_in}
use Rattle.blob_store.proofs.Spanned.{span_end}
use Rattle.blob_store.proofs.area.Area.end_after.Goals as goal

pub returns-in-Some : goal.returns-in-Some
returns-in-Some c = span_end c.args.from (extents_in c.args.self.now) c.in-Some.span (sym c.in-Some.ensures)
