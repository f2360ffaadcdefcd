use Rattle.std.proofs.Common.{◌≡◌, ◌∙◌, ◌++◌, List, [], ℕ, false, length, take, ap, sym, refl, subst, arith, length-append, append-nil, append_assoc}
use Rattle.std.specs.List.{list_any}
use Rattle.std.specs.Io.KnownBytes.{Keeps, prepend_known}
use Rattle.ddc_protocol.specs.Requests.{HasNoHead, HasNoRequestText}
use Rattle.ddc_http.specs.inside.Parts.{is_line_feed}
use Rattle.ddc_http.proofs.Heads.{headless_without_line_feed}
use Rattle.ddc_http.proofs.Taken.{keeps-more, no_item-without_head}
use Rattle.ddc_http.proofs.Pieces.{keeps-same, consumes-nothing, consumes-both, takes-piece, takes-nothing}
use Rattle.ddc_http.proofs.reader.fill.Goals as goal

-- no whole request was held before a piece that was taken
lacks : (held old front : List ℕ) → old ≡ held ++ front → HasNoHead old → HasNoRequestText (held ++ front)
lacks held old front is none = let P : List ℕ → Type 0 = HasNoRequestText in subst P is (no_item-without_head old none)

pub pieces-init : goal.pieces-init
pieces-init g c = record {
  same = keeps-same (prepend_known c.args.held.now.items (g.S.Source.left c.args.source.now));
  headless = c.requires;
  took = ([], sym (append-nil c.args.held.now.items), consumes-nothing (g.S.Source.left c.args.source.now));
  longer = omega arith;
  faults = refl;
}

pub pieces-preserved : goal.pieces-preserved
pieces-preserved g c =
    let i = c.pieces.invariant in
    let held = c.pieces.held.items in
    let piece = take c.in-Ok.count c.take.new.into in
    let before = prepend_known c.args.held.now.items (g.S.Source.left c.args.source.now) in
    let after = g.S.Source.left c.take.new.self in
    let more : c.extend_from_slice.new.self.items ≡ held ++ piece = c.in-Ok-extend_from_slice.ensures.items in
    let without : list_any is_line_feed piece ≡ false = sym c.contains.ensures.value ∙ c.if-contains.false in
    let P : List ℕ → Type 0 = λ l. Keeps before (prepend_known l after) in
    let (front, is, taken) = i.took in
    record {
      same = subst P (sym more) (keeps-more before (g.S.Source.left c.pieces.source) after held piece i.same c.in-Ok.ensures.bytes.0);
      headless = subst HasNoHead (sym more) (headless_without_line_feed held piece i.headless without);
      took = (
        front ++ piece,
        more ∙ ap (λ l. l ++ piece) is ∙ append_assoc c.args.held.now.items front piece,
        consumes-both (g.S.Source.left c.args.source.now) (g.S.Source.left c.pieces.source) after front piece taken c.in-Ok.ensures.bytes.0,
      );
      longer = let long = ap length more ∙ length-append held piece in let first = i.longer in omega arith;
      faults = i.faults ∙ c.in-Ok.ensures.cause.same;
    }

pub returns-in-Err-clause-pieces : goal.returns-in-Err-clause-pieces
returns-in-Err-clause-pieces g c =
    let i = c.pieces.invariant in
    let (front, is, taken) = i.took in
    takes-nothing (g.S.Source.left c.args.source.now) (g.S.Source.left c.pieces.source) (g.S.Source.left c.take.new.self) c.args.held.now.items front taken c.in-Err.ensures.bytes
    (lacks c.args.held.now.items c.pieces.held.items front is i.headless)

pub returns-in-Ok-eq0-clause-pieces : goal.returns-in-Ok-eq0-clause-pieces
returns-in-Ok-eq0-clause-pieces g c =
    let i = c.pieces.invariant in
    let piece = take c.in-Ok-eq0.field-0 c.take.new.into in
    let empty : length piece ≡ 0 = ap (λ k. length (take k c.take.new.into)) c.in-Ok-eq0.field-0-test in
    let (front, is, taken) = i.took in
    takes-piece (g.S.Source.left c.args.source.now) (g.S.Source.left c.pieces.source) (g.S.Source.left c.take.new.self) c.args.held.now.items front piece taken c.in-Ok-eq0.ensures.bytes.0 (omega arith)
    (lacks c.args.held.now.items c.pieces.held.items front is i.headless)

pub returns-in-Err-extend_from_slice-clause-pieces : goal.returns-in-Err-extend_from_slice-clause-pieces
returns-in-Err-extend_from_slice-clause-pieces g c =
    let i = c.pieces.invariant in
    let piece = take c.in-Ok.count c.take.new.into in
    let fits = c.in-Ok.ensures.bound in
    let (front, is, taken) = i.took in
    takes-piece (g.S.Source.left c.args.source.now) (g.S.Source.left c.pieces.source) (g.S.Source.left c.take.new.self) c.args.held.now.items front piece taken c.in-Ok.ensures.bytes.0
    (omega (arith, c.take.auto.into, fits.0, fits.1)) (lacks c.args.held.now.items c.pieces.held.items front is i.headless)
