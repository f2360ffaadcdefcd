use Rattle.std.proofs.Common.{ap, ◌∙◌, Bool, ℕ, nat_eq}
use Rattle.collector.specs.Marks.{Marks}
use Rattle.collector.specs.Sweeping.{is_loose}
use Rattle.collector.proofs.Sweeps.{unreached_list, none_left}
use Rattle.collector.proofs.collection.Collection.sweep_list.Goals as goal

pub end_if-requires : goal.end_if-requires
end_if-requires c = c.requires.phase.0

pub returns-clause-unreached : goal.returns-clause-unreached
returns-clause-unreached c = unreached_list c.args.index.now.state c.args.self.now c.args.limit c.in_ok-hashes.hashes c.requires.phase.0 c.in_ok-hashes.ensures

pub returns-clause-none_left : goal.returns-clause-none_left
returns-clause-none_left c = none_left (is_loose c.args.index.now.state c.args.self.now) c.args.limit c.in_ok-hashes.hashes c.requires.limit c.in_ok-hashes.ensures

pub returns-clause-ended : goal.returns-clause-ended
returns-clause-ended c = c.end_if.ensures ∙ ap (λ (b : Bool). let old : Marks = c.args.self.now in record old { ended = b }) (ap (λ (n : ℕ). nat_eq n 0) c.len.ensures)
