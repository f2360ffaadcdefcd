use Rattle.std.proofs.Common.{ap, subst, sym, ◌∙◌, List, None, ℕ, arith}
use Rattle.ddc_state.specs.NextKeys.{NextBlob}
use Rattle.collector.specs.Marks.{Marks, knows}
use Rattle.collector.specs.inside.Starts.{AreKnownTo}
use Rattle.collector.specs.inside.Sweeps.{IsNextBlob}
use Rattle.collector.proofs.Starting.{none_known, roomier, not_yet, known_more, all_known}
use Rattle.collector.proofs.collection.Collection.know_all.Goals as goal

pub loop-init : goal.loop-init
loop-init c = record { known = none_known c.args.index.now.state c.args.self.now c.requires; space = c.space-space.ensures }

pub know-requires : goal.know-requires
know-requires c =
    let s = c.args.index.now.state in
    let old = c.args.self.now in
    let next : IsNextBlob s.blobs old.space c.loop.last c.in-Some.hash = subst (λ (sp : List ℕ). IsNextBlob s.blobs sp c.loop.last c.in-Some.hash) c.loop.invariant.space c.in-Some.ensures in
    let room = c.in_ok-reserve_one.ensures.ok in
    record {
      absent = ap (λ (m : Marks). knows m c.in-Some.hash) room ∙ not_yet s old c.loop.self c.loop.last c.in-Some.hash c.loop.invariant.known next;
      room = omega (arith, ap (λ (m : Marks). m.spare) room);
    }

pub returns-in_default : goal.returns-in_default
returns-in_default c =
    all_known c.args.index.now.state c.args.self.now c.loop.self c.loop.last c.loop.invariant.known
    (subst (λ (sp : List ℕ). NextBlob c.args.index.now.state.blobs sp c.loop.last None) c.loop.invariant.space c.in_default.ensures)

pub loop-preserved : goal.loop-preserved
loop-preserved c =
    let s = c.args.index.now.state in
    let old = c.args.self.now in
    let next : IsNextBlob s.blobs old.space c.loop.last c.in-Some.hash = subst (λ (sp : List ℕ). IsNextBlob s.blobs sp c.loop.last c.in-Some.hash) c.loop.invariant.space c.in-Some.ensures in
    let room = c.in_ok-reserve_one.ensures.ok in
    let mid : AreKnownTo s old c.loop.last c.reserve_one.new.self = subst (AreKnownTo s old c.loop.last) (sym room) (roomier s old c.loop.self c.loop.last _ c.loop.invariant.known) in
    record {
      known = known_more s old c.reserve_one.new.self c.know.new.self c.loop.last c.in-Some.hash mid next c.know.ensures.entered;
      space = c.loop.invariant.space;
    }
