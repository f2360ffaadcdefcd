use Rattle.std.proofs.Common.{◌≡◌, ◌∙◌, ℕ, List, None, inl, inr, subst}
use Rattle.std.specs.Io.KnownBytes.{prepend_known}
use Rattle.ddc_protocol.specs.Requests.{HasNoHead, IsUnread}
use Rattle.ddc_http.specs.inside.Parts.{HeadAt}
use Rattle.ddc_http.proofs.Taken.{when_ready, never_yet, lacks_yet, kept-known, formless}
use Rattle.ddc_http.proofs.Pieces.{keeps-both, fill_fails, then-holds, then-takes}
use Rattle.ddc_http.specs.Reader.{stream_ahead}
use Rattle.ddc_http.proofs.reader.read_head.Goals as goal

pub returns-in-Head-default-Some-clause-ready : goal.returns-in-Head-default-Some-clause-ready
returns-in-Head-default-Some-clause-ready g c = when_ready _ _ c.pieces.invariant.ready

pub returns-in-Head-default-None-clause-ready : goal.returns-in-Head-default-None-clause-ready
returns-in-Head-default-None-clause-ready g c = when_ready _ _ c.pieces.invariant.ready

pub returns-in-Head-default-None-clause-gives : goal.returns-in-Head-default-None-clause-gives
returns-in-Head-default-None-clause-gives g c =
    let left = g.S.Source.left c.pieces.source in
    let P : List ℕ → Type 0 = λ bytes. HeadAt bytes c.in-Head-default-None.field-0 None in
    let head = subst P c.deref.ensures.value (rw c.in-Head-default-None.field-1-is at c.in-Head-default-None.ensures) in
    kept-known (prepend_known c.args.held.now.items (g.S.Source.left c.args.source.now)) (prepend_known c.pieces.held.items left) IsUnread c.pieces.invariant.same
    (formless c.pieces.held.items left c.in-Head-default-None.field-0 head)

pub returns-in-Never-clause-ready : goal.returns-in-Never-clause-ready
returns-in-Never-clause-ready g c = when_ready _ _ c.pieces.invariant.ready

pub returns-then-is_empty-clause-ready : goal.returns-then-is_empty-clause-ready
returns-then-is_empty-clause-ready g c = never_yet _ _ c.pieces.held c.args.held.now (subst HasNoHead c.deref.ensures.value c.in-More.ensures.0) c.pieces.invariant.ready

pub returns-in-Ok-false-clause-ready : goal.returns-in-Ok-false-clause-ready
returns-in-Ok-false-clause-ready g c = never_yet _ _ c.pieces.held c.args.held.now (subst HasNoHead c.deref.ensures.value c.in-More.ensures.0) c.pieces.invariant.ready

pub returns-in-Err-clause-ready : goal.returns-in-Err-clause-ready
returns-in-Err-clause-ready g c = never_yet _ _ c.pieces.held c.args.held.now (subst HasNoHead c.deref.ensures.value c.in-More.ensures.0) c.pieces.invariant.ready

pub pieces-preserved : goal.pieces-preserved
pieces-preserved g c =
    let i = c.pieces.invariant in
    let left = g.S.Source.left in
    record {
      same = keeps-both (prepend_known c.args.held.now.items (left c.args.source.now)) (prepend_known c.pieces.held.items (left c.pieces.source)) (prepend_known c.fill.new.held.items (left c.fill.new.source))
          i.same (rw c.in-Ok-true.field-0-test at c.in-Ok-true.ensures.gives);
      ready = inl (lacks_yet (c.pieces.source ≡ c.args.source.now) c.pieces.held c.args.held.now (subst HasNoHead c.deref.ensures.value c.in-More.ensures.0) i.ready);
      pieces = inr (
          then-holds left c.args.source.now c.pieces.source c.fill.new.source c.args.held.now c.pieces.held c.fill.new.held.items i.pieces (rw c.in-Ok-true.field-0-test at c.in-Ok-true.ensures.pieces)
          );
      faults = i.faults ∙ c.in-Ok-true.ensures.faults;
    }

pub returns-then-is_empty-clause-pieces : goal.returns-then-is_empty-clause-pieces
returns-then-is_empty-clause-pieces g c = inr (
    then-takes g.S.Source.left c.args.source.now c.pieces.source c.fill.new.source c.args.held.now c.pieces.held c.pieces.invariant.pieces (rw c.in-Ok-false.field-0-test at c.in-Ok-false.ensures.pieces)
    )

pub returns-in-Ok-false-clause-pieces : goal.returns-in-Ok-false-clause-pieces
returns-in-Ok-false-clause-pieces g c = inr (
    then-takes g.S.Source.left c.args.source.now c.pieces.source c.fill.new.source c.args.held.now c.pieces.held c.pieces.invariant.pieces (rw c.in-Ok-false.field-0-test at c.in-Ok-false.ensures.pieces)
    )

pub returns-in-Err-clause-pieces : goal.returns-in-Err-clause-pieces
returns-in-Err-clause-pieces g c = inr (then-takes g.S.Source.left c.args.source.now c.pieces.source c.fill.new.source c.args.held.now c.pieces.held c.pieces.invariant.pieces c.in-Err.ensures.pieces)

pub returns-in-Err-clause-gives : goal.returns-in-Err-clause-gives
returns-in-Err-clause-gives g c =
    fill_fails (stream_ahead c.args.held.now.items (g.S.Source.left c.args.source.now)) (stream_ahead c.pieces.held.items (g.S.Source.left c.pieces.source))
    (stream_ahead c.fill.new.held.items (g.S.Source.left c.fill.new.source)) c.in-Err.fault c.pieces.invariant.same c.in-Err.ensures.gives
