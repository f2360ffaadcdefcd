use Rattle.std.proofs.Common.{[], refl}
use Rattle.ddc_disk.specs.MemDisks.{told_by}
use Rattle.ddc_service.proofs.Opened.{is_unbroken}
use Rattle.tests_service.proofs.service.ended.Goals as goal

pub replay_session-requires : goal.replay_session-requires
replay_session-requires c = is_unbroken told_by c.in-Ok.book [] c.in-Ok.ensures.created.steps refl
