use Rattle.std.proofs.Common.{◌∙◌, ℕ, refl, sym, subst}
use Rattle.std.specs.Prelude.{Vec}
use Rattle.std.specs.declared.alloc.Global.{Global}
use Rattle.ddc_http.specs.Reader.{HasRequestText, stream_ahead}
use Rattle.ddc_http.proofs.Taken.{kept-reads, faults-from}
use Rattle.ddc_http.proofs.Pieces.{body-takes}
use Rattle.ddc_http.proofs.reader.next_request.Goals as goal

pub returns-in-Ok-Some-clause-gives : goal.returns-in-Ok-Some-clause-gives
returns-in-Ok-Some-clause-gives g c =
    kept-reads (stream_ahead c.args.held.now.items (g.S.Source.left c.args.source.now)) (stream_ahead c.read_head.new.held.items (g.S.Source.left c.read_head.new.source))
    (stream_ahead c.take_request.new.held.items (g.S.Source.left c.take_request.new.source)) c.args.place.now c.take_request.new.place c.take_request.result
    (rw c.in-Ok-Some.field-0-is at c.in-Ok-Some.ensures.gives).0 c.take_request.ensures.gives

pub returns-in-Ok-Some-clause-faults : goal.returns-in-Ok-Some-clause-faults
returns-in-Ok-Some-clause-faults g c =
    faults-from (g.S.Source.faults c.args.source.now) (g.S.Source.faults c.read_head.new.source) (g.S.Source.faults c.take_request.new.source) c.take_request.result c.in-Ok-Some.ensures.faults
    c.take_request.ensures.faults

-- where a whole request was held, it still is
pub returns-in-Ok-Some-clause-ready : goal.returns-in-Ok-Some-clause-ready
returns-in-Ok-Some-clause-ready g c = λ has.
    let same = c.read_head.ensures.ready has in
    let P : Vec ℕ Global → Type 0 = λ v. HasRequestText v.items in
    c.take_request.ensures.ready (subst P (sym same.1) has) ∙ same.0

pub returns-in-Ok-Some-clause-pieces : goal.returns-in-Ok-Some-clause-pieces
returns-in-Ok-Some-clause-pieces g c =
    body-takes g.S.Source.left c.args.source.now c.read_head.new.source c.take_request.new.source c.args.held.now c.read_head.new.held ((rw c.in-Ok-Some.field-0-is at c.in-Ok-Some.ensures.found) refl)
    c.take_request.ensures.pieces
