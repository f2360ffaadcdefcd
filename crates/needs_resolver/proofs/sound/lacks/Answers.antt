use Rattle.needs_resolver.specs.Walking.{met_of}
use Rattle.needs_resolver.proofs.Unsound.{walk_tells, walk_goes_on}
use Rattle.std.proofs.Common.{refl}
use Rattle.needs_resolver.proofs.sound.lacks.Goals as goal

pub returns-in_ok-read_all-in-Some-clause-lacks : goal.returns-in_ok-read_all-in-Some-clause-lacks
returns-in_ok-read_all-in-Some-clause-lacks c =
    walk_tells c.args.index.now.state c.args.name.now c.args.slot.now c.in-Some.root (met_of c.args.walk.now) (met_of c.meet.new.self) (met_of c.read_all.new.self) c.in-Some.is c.requires
    c.in_ok-meet-in-Some.ensures.met c.in_ok-read_all-in-Some.ensures.read c.in_ok-read_all-in-Some.ensures.done c.read_all.new.self.absent.keys c.is_whole.result (λ h. refl) c.is_whole.ensures

pub returns-in_ok-read_all-in-Some-clause-idle : goal.returns-in_ok-read_all-in-Some-clause-idle
returns-in_ok-read_all-in-Some-clause-idle c =
    walk_goes_on c.args.index.now.state c.args.name.now c.args.slot.now c.in-Some.root (met_of c.args.walk.now) (met_of c.meet.new.self) (met_of c.read_all.new.self) c.in-Some.is c.requires
    c.in_ok-meet-in-Some.ensures.met c.in_ok-read_all-in-Some.ensures.read c.in_ok-read_all-in-Some.ensures.done c.read_all.new.self.absent.keys c.is_whole.result (λ h. refl) c.is_whole.ensures
