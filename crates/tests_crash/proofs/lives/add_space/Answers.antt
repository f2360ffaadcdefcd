use Rattle.std.specs.Prelude.{[]}
use Rattle.ddc_model.specs.Limits.{standard}
use Rattle.ddc_model.specs.Commands.{SpaceAs}
use Rattle.ddc_model.specs.History.{past_of, WithRoom}
use Rattle.tests_crash.proofs.Honest.{honest_then, limits_kept}
use Rattle.tests_crash.proofs.lives.add_space.Goals as goal

pub returns-clause-honest : goal.returns-clause-honest
returns-clause-honest c =
    let old = c.args.book.now in
    let new = c.set_space.new.self in
    let same = limits_kept old new [] (WithRoom old.cache.index (past_of old.steps) (SpaceAs old.cache.index c.args.space 24 4)) c.set_space.result c.set_space.ensures.gives in
    honest_then standard old.opened old new [] c.requires c.set_space.ensures.goes_on same
