use Rattle.std.proofs.Common.{◌≡◌, ◌+◌, ◌≤◌, ◌∷◌, [], List, length, length-append, ◌∙◌, ap, subst, refl, arith}
use Rattle.ddc_names.specs.declared.hash.IoHash.{IoHash}
use Rattle.ddc_model.specs.State.{State}
use Rattle.ddc_model.specs.Closure.{links_in}
use Rattle.needs_resolver.specs.Walking.{Met, IsObjectRead, met_of, most_reads}
use Rattle.needs_resolver.proofs.Reading.{read_more}
use Rattle.needs_resolver.proofs.closure_walk.ClosureWalk.read_all.Goals as goal

pub loop-held-preserved : goal.loop-held-preserved
loop-held-preserved c =
    let state = c.args.index.now.state in
    let now = met_of c.loop-held.self in
    let left : Met = record now { work = c.pop.new.self.items } in
    let new = met_of c.read.new.self in
    let read : IsObjectRead (links_in state c.args.space.now) c.in-Some.held left new =
    subst (λ (s : State). IsObjectRead (links_in s c.args.space.now) c.in-Some.held left new) c.loop-held.invariant.same c.in_ok-read.ensures.read in
    let less : most_reads state c.args.space.now new ≤ most_reads state c.args.space.now left = subst (λ (s : State). most_reads s c.args.space.now new ≤ most_reads s c.args.space.now left) c.loop-held.invariant.same c.in_ok-read.ensures.less in
    let popped : length now.work ≡ length left.work + 1 = ap (λ (xs : List IoHash). length xs) c.in-Some.ensures.items ∙ length-append left.work (c.in-Some.held ∷ []) in
    let before : c.loop-held.index.reads + most_reads state c.args.space.now now ≤ c.args.index.now.reads + most_reads state c.args.space.now (met_of c.args.self.now) = c.loop-held.invariant.counted in
    let one : c.read.new.index.reads ≤ c.loop-held.index.reads + 1 = c.in_ok-read.ensures.counted in
    record {
      same = c.in_ok-read.ensures.same ∙ c.loop-held.invariant.same;
      counted = omega arith;
      read = read_more (links_in state c.args.space.now) c.in-Some.held (met_of c.args.self.now) now left new refl refl c.in-Some.ensures.items c.loop-held.invariant.read read;
    }
