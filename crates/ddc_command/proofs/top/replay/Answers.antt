use Rattle.std.proofs.Common.{refl, subst}
use Rattle.ddc_model.specs.declared.rows.Limits.{Limits}
use Rattle.ddc_book.specs.Loading.{IsLoaded}
use Rattle.ddc_service.specs.Effects.{effect}
use Rattle.ddc_command.specs.Ends.{scene}
use Rattle.ddc_service.proofs.Opened.{is_unbroken}
use Rattle.ddc_command.proofs.Replaying.{replays, replay_unopened}
use Rattle.ddc_command.proofs.top.replay.Goals as goal

pub replay_session-end-requires : goal.replay_session-end-requires
replay_session-end-requires g c = let loaded = c.in-Ok.ensures.loaded in is_unbroken g.D.Disk.meaning c.in-Ok.book loaded.changes loaded.steps loaded.unbroken

pub returns-in-Ok-clause-ends : goal.returns-in-Ok-clause-ends
returns-in-Ok-clause-ends g c =
    let P : Limits → Type 0 = λ l. IsLoaded g.D.Disk.tells g.D.Disk.meaning c.args.devices l c.in-Ok.book in
    let run = c.replay_session-end in
    replays g.D.Disk.tells g.D.Disk.meaning c.args.devices c.in-Ok.book run.new.book (g.C.Clock.tells c.args.clock.now) (effect g.S.Source.left g.S.Source.faults c.args.source.now run.new.source) (effect g.W.Sink.written g.W.Sink.faults c.args.sink.now run.new.sink)
    run.result g.met.D.Disk.rests g.met.D.Disk.reads g.met.D.Disk.told c.one_opening.ensures.opening (subst P c.standard.ensures c.in-Ok.ensures.loaded) run.ensures.gives run.ensures.any_moment run.ensures.stops run.ensures.limits run.ensures.unbroken run.ensures.counts
    c.into_devices.result c.into_devices.ensures.devices c.into_devices.ensures.opened

pub returns-in-Err-clause-ends : goal.returns-in-Err-clause-ends
returns-in-Err-clause-ends g c =
    replay_unopened c.one_pair_reading.ensures.none
    (scene g.D.Disk.tells g.D.Disk.meaning c.args.devices c.in-Err.devices (g.C.Clock.tells c.args.clock.now) (effect g.S.Source.left g.S.Source.faults c.args.source.now c.args.source.now) (effect g.W.Sink.written g.W.Sink.faults c.args.sink.now c.args.sink.now))
    c.standard.result c.standard.ensures (refl, refl) (refl, refl) c.in-Err.fault c.in-Err.ensures.back c.in-Err.ensures.fault c.in-Err.ensures.cause
