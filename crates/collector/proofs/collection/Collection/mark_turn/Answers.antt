use Rattle.std.proofs.Common.{rules, ap, subst, sym, ◌∙◌, ◌≡◌, ◌+◌, ◌≤◌, Bool, List, ℕ, true, false, cond, refl, arith}
use Rattle.ddc_model.specs.State.{State}
use Rattle.ddc_model.specs.Closure.{Links, links_in}
use Rattle.collector.specs.Marks.{NoneGrey}
use Rattle.collector.specs.Turns.{AreTaken}
use Rattle.collector.specs.inside.Steps.{TakesOne}
use Rattle.collector.proofs.Turning.{taken_space, taken_covers, taken_more}
use Rattle.collector.proofs.collection.Collection.mark_turn.Goals as goal

pub loop-taken-init : goal.loop-taken-init
loop-taken-init c = record { state = refl; reads = omega arith; at_most = omega arith; taken = refl }

pub loop-taken-preserved : goal.loop-taken-preserved
loop-taken-preserved c =
    let old = c.args.self.now in
    let state = c.args.index.now.state in
    let inv = c.loop-taken.invariant in
    let yes : c.take_one.result ≡ true = search rules in
    let other : Links = links_in c.loop-taken.index.state c.loop-taken.self.space in
    let same : other ≡ links_in state old.space =
    ap (λ (s : State). links_in s c.loop-taken.self.space) inv.state ∙ ap (λ (sp : List ℕ). links_in state sp) (taken_space (links_in state old.space) old c.loop-taken.taken c.loop-taken.self inv.taken) in
    let more : c.take_one.new.index.reads ≤ c.loop-taken.index.reads + 1 = subst (λ (b : Bool). c.take_one.new.index.reads ≤ c.loop-taken.index.reads + cond b 1 0) yes c.take_one.ensures.reads in
    let before : c.loop-taken.index.reads ≤ c.args.index.now.reads + c.loop-taken.taken = inv.reads in
    record {
      state = c.take_one.ensures.state ∙ inv.state;
      reads = omega arith;
      at_most = omega arith;
      taken = taken_more (links_in state old.space) other old c.loop-taken.self c.take_one.new.self c.loop-taken.taken same inv.taken (subst (λ (b : Bool). TakesOne other c.loop-taken.self b c.take_one.new.self) yes c.take_one.ensures.taken);
    }

pub returns-then-not-take_one : goal.returns-then-not-take_one
returns-then-not-take_one c =
    let old = c.args.self.now in
    let state = c.args.index.now.state in
    let inv = c.loop-taken.invariant in
    let no : c.take_one.result ≡ false = search rules in
    let other : Links = links_in c.loop-taken.index.state c.loop-taken.self.space in
    let none : TakesOne other c.loop-taken.self false c.take_one.new.self = subst (λ (b : Bool). TakesOne other c.loop-taken.self b c.take_one.new.self) no c.take_one.ensures.taken in
    let all : AreTaken (links_in state old.space) old c.loop-taken.taken c.take_one.new.self = subst (AreTaken (links_in state old.space) old c.loop-taken.taken) (sym none.1) inv.taken in
    let more : c.take_one.new.index.reads ≤ c.loop-taken.index.reads + 0 = subst (λ (b : Bool). c.take_one.new.index.reads ≤ c.loop-taken.index.reads + cond b 1 0) no c.take_one.ensures.reads in
    let before : c.loop-taken.index.reads ≤ c.args.index.now.reads + c.loop-taken.taken = inv.reads in
    record {
      state = c.take_one.ensures.state ∙ inv.state;
      reads = omega arith;
      taken = all;
      at_most = omega arith;
      all = λ lt. subst NoneGrey (sym none.1) none.0;
      cover = taken_covers state old c.requires c.loop-taken.taken c.take_one.new.self all;
    }

pub returns : goal.returns
returns c =
    let old = c.args.self.now in
    let state = c.args.index.now.state in
    let inv = c.loop-taken.invariant in
    record {
      state = inv.state;
      reads = inv.reads;
      taken = inv.taken;
      at_most = inv.at_most;
      all = λ lt. absurd (omega (arith, lt));
      cover = taken_covers state old c.requires c.loop-taken.taken c.loop-taken.self inv.taken;
    }
