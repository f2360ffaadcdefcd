use Rattle.std.proofs.Common.{◌≡◌, ◌≤◌, ◌<◌, ◌+◌, ◌-◌, ◌++◌, ℕ, List, length, take, drop, sym, ap, ◌∙◌, subst, arith, refl, length-append, drop_of_length-le, append-nil, append_assoc, take-append-drop, [], inl, inr}
use Rattle.std.proofs.lemmas.List.{length-drop, length-take-le, take-append-le, take_all}
use Rattle.std.specs.Io.KnownBytes.{Consumes, prepend_known}
use Rattle.ddc_protocol.specs.Requests.{IsCut, HasNoRequestText}
use Rattle.io_hash.specs.Intakes.{Taken}
use Rattle.ddc_http.proofs.Taken.{lacks, no_item-short, cut-short, known-at-end, consumes-kept, consumes-bare, taken-first, taken-more}
use Rattle.ddc_http.specs.inside.Parts.{BodyAt}
use Rattle.ddc_http.proofs.Pieces.{consumes-nothing, consumes-both, takes-piece, takes-nothing}
use Rattle.ddc_http.proofs.reader.take_body.Goals as goal

-- what was held, with what was taken, is a head and less than its body
short_yet : (held taken body : List ℕ) (len size : ℕ) → BodyAt held len size → held ++ taken ≡ take len held ++ body → length body < size → HasNoRequestText (held ++ taken)
short_yet held taken body len size at is short =
    let P : List ℕ → Type 0 = HasNoRequestText in
    subst P (sym is) (no_item-short (take len held ++ body) size (lacks held body len size at short))

pub pieces-init : goal.pieces-init
pieces-init g c =
    let held = c.args.held.now.items in
    let len = c.args.len in
    let first = c.min-first.result in
    let piece = take (len + first - len) (drop len c.deref.result.now) in
    let places : len + first - len ≡ first = omega arith in
    let fed : c.take.new.self.bytes ≡ take first (drop len held) =
    ap (λ p. p.bytes) c.in-Ok.ensures.taken ∙ ap (λ (p : Taken). p.bytes ++ piece) c.new-intake.ensures ∙ ap (λ n. take n (drop len c.deref.result.now)) places ∙ ap (λ l. take first (drop len l)) c.deref.ensures.value in
    let room : first ≤ length (drop len held) = omega (arith, length-drop len held) in
    let long : length c.take.new.self.bytes ≡ first = ap length fed ∙ length-take-le first (drop len held) room in
    record {
      taken = taken-first (g.S.Source.left c.args.source.now) held c.drop_front.new.held.items c.take.new.self.bytes len first c.drop_front.ensures fed;
      limit = ap (λ p. p.limit) c.in-Ok.ensures.taken ∙ ap (λ (p : Taken). p.limit) c.new-intake.ensures;
      counted = omega arith;
      bare = λ more. c.drop_front.ensures ∙ drop_of_length-le held {i = len + first} (omega arith);
      ready = λ whole. (omega arith, refl);
      took = (
        [],
        consumes-nothing (g.S.Source.left c.args.source.now),
        λ more. append-nil held ∙ sym (ap (λ b. take len held ++ b) (fed ∙ take_all first (drop len held) (omega (arith, length-drop len held))) ∙ take-append-drop len held),
      );
      pieces = inl refl;
      faults = refl;
    }

pub returns-in-Err-clause-gives : goal.returns-in-Err-clause-gives
returns-in-Err-clause-gives g c =
    let i = c.pieces.invariant in
    let held = c.args.held.now.items in
    let short : length c.pieces.intake.bytes < c.args.size = omega arith in
    let part = take c.args.len held ++ c.pieces.intake.bytes in
    let before = prepend_known held (g.S.Source.left c.args.source.now) in (
      part,
      consumes-kept before (g.S.Source.left c.pieces.source) (g.S.Source.left c.take-in-pieces.new.self) part
          (consumes-bare before (g.S.Source.left c.pieces.source) c.drop_front.new.held.items part (i.bare (omega arith)) i.taken) c.in-Err.ensures.bytes,
      no_item-short part c.args.size (lacks held c.pieces.intake.bytes c.args.len c.args.size c.requires.body short),
    )

pub returns-in-Ok-eq0-clause-gives : goal.returns-in-Ok-eq0-clause-gives
returns-in-Ok-eq0-clause-gives g c =
    let i = c.pieces.invariant in
    let held = c.args.held.now.items in
    let n = c.in-Ok-eq0.field-0 in
    let piece = take n c.take-in-pieces.new.into in
    let body = c.pieces.intake.bytes ++ piece in
    let none : n ≡ 0 = c.in-Ok-eq0.field-0-test in
    let empty : length piece ≡ 0 = ap (λ k. length (take k c.take-in-pieces.new.into)) none in
    let short : length body < c.args.size = omega (arith, length-append c.pieces.intake.bytes piece) in
    let room : 0 < length c.take-in-pieces.new.into = omega (arith, c.take-in-pieces.auto.into, length-take-le c.min-most.result c.pieces.piece (omega arith)) in
    let before = prepend_known held (g.S.Source.left c.args.source.now) in
    let bare = i.bare (omega arith) in
    let after = g.S.Source.left c.take-in-pieces.new.self in
    let part = take c.args.len held ++ body in
    let taken = taken-more before (g.S.Source.left c.pieces.source) after c.drop_front.new.held.items (take c.args.len held) c.pieces.intake.bytes piece bare i.taken c.in-Ok-eq0.ensures.bytes.0 in
    known-at-end before after part IsCut (consumes-bare before after c.drop_front.new.held.items part bare taken) (c.in-Ok-eq0.ensures.bytes.1 none room)
    (cut-short part c.args.size (lacks held body c.args.len c.args.size c.requires.body short))

pub pieces-preserved : goal.pieces-preserved
pieces-preserved g c =
    let i = c.pieces.invariant in
    let held = c.args.held.now.items in
    let n = c.in-Ok-take.count in
    let piece = take n c.take-in-pieces.new.into in
    let fits = c.in-Ok-take.ensures.bound in
    let fed : c.take-in-pieces-2.new.self.bytes ≡ c.pieces.intake.bytes ++ piece =
    ap (λ p. p.bytes) c.in-Ok-take-2.ensures.taken ∙ ap (λ l. c.pieces.intake.bytes ++ l) (take-append-le n c.take-in-pieces.new.into (drop c.min-most.result c.pieces.piece) fits.0) in
    let long : length c.take-in-pieces-2.new.self.bytes ≡ length c.pieces.intake.bytes + n = ap length fed ∙ length-append c.pieces.intake.bytes piece ∙ ap (λ k. length c.pieces.intake.bytes + k) (sym fits.1) in
    let within : n ≤ c.pieces.wanted = omega (arith, c.take-in-pieces.auto.into, length-take-le c.min-most.result c.pieces.piece (omega arith)) in
    let before = prepend_known held (g.S.Source.left c.args.source.now) in
    let after = g.S.Source.left c.take-in-pieces.new.self in
    let bare = i.bare (omega arith) in
    let P : List ℕ → Type 0 = λ b. Consumes before (prepend_known c.drop_front.new.held.items after) (take c.args.len held ++ b) in
    let (taken, took, is) = i.took in
    let small : n ≤ 16384 = omega (arith, c.take-in-pieces.auto.into, length-take-le c.min-most.result c.pieces.piece (omega arith)) in
    record {
      taken = subst P (sym fed) (taken-more before (g.S.Source.left c.pieces.source) after c.drop_front.new.held.items (take c.args.len held) c.pieces.intake.bytes piece bare i.taken c.in-Ok-take.ensures.bytes.0);
      limit = ap (λ p. p.limit) c.in-Ok-take-2.ensures.taken ∙ i.limit;
      counted = omega arith;
      bare = λ more. bare;
      ready = λ whole. let done = i.ready whole in absurd (omega arith);
      took = (
        taken ++ piece,
        consumes-both (g.S.Source.left c.args.source.now) (g.S.Source.left c.pieces.source) after taken piece took c.in-Ok-take.ensures.bytes.0,
        λ more. sym (append_assoc held taken piece) ∙ ap (λ l. l ++ piece) (is (omega arith)) ∙ append_assoc (take c.args.len held) c.pieces.intake.bytes piece
            ∙ ap (λ b. take c.args.len held ++ b) (sym fed),
      );
      pieces = inr (
          takes-piece (g.S.Source.left c.args.source.now) (g.S.Source.left c.pieces.source) after held taken piece took c.in-Ok-take.ensures.bytes.0 (let count = fits.1 in omega (arith, small))
          (short_yet held taken c.pieces.intake.bytes c.args.len c.args.size c.requires.body (is (omega arith)) (omega arith))
          );
      faults = i.faults ∙ c.in-Ok-take.ensures.cause.same;
    }

pub returns-clause-gives : goal.returns-clause-gives
returns-clause-gives g c =
    let i = c.pieces.invariant in
    let held = c.args.held.now.items in
    let P : List ℕ → Type 0 = λ b. Consumes (prepend_known held (g.S.Source.left c.args.source.now)) (prepend_known c.drop_front.new.held.items (g.S.Source.left c.pieces.source)) (take c.args.len held ++ b) in
    (subst P (sym c.finish.ensures) i.taken, ap length c.finish.ensures ∙ omega arith)

pub returns-in-Err-clause-pieces : goal.returns-in-Err-clause-pieces
returns-in-Err-clause-pieces g c =
    let i = c.pieces.invariant in
    let held = c.args.held.now.items in
    let (taken, took, is) = i.took in
    inr (
    takes-nothing (g.S.Source.left c.args.source.now) (g.S.Source.left c.pieces.source) (g.S.Source.left c.take-in-pieces.new.self) held taken took c.in-Err.ensures.bytes
    (short_yet held taken c.pieces.intake.bytes c.args.len c.args.size c.requires.body (is (omega arith)) (omega arith))
    )

pub returns-in-Ok-eq0-clause-pieces : goal.returns-in-Ok-eq0-clause-pieces
returns-in-Ok-eq0-clause-pieces g c =
    let i = c.pieces.invariant in
    let held = c.args.held.now.items in
    let n = c.in-Ok-eq0.field-0 in
    let piece = take n c.take-in-pieces.new.into in
    let none : n ≡ 0 = c.in-Ok-eq0.field-0-test in
    let empty : length piece ≡ 0 = ap (λ k. length (take k c.take-in-pieces.new.into)) none in
    let (taken, took, is) = i.took in
    inr (
    takes-piece (g.S.Source.left c.args.source.now) (g.S.Source.left c.pieces.source) (g.S.Source.left c.take-in-pieces.new.self) held taken piece took c.in-Ok-eq0.ensures.bytes.0 (omega arith)
    (short_yet held taken c.pieces.intake.bytes c.args.len c.args.size c.requires.body (is (omega arith)) (omega arith))
    )

pub returns-in-Err-NoMemory-take-clause-pieces : goal.returns-in-Err-NoMemory-take-clause-pieces
returns-in-Err-NoMemory-take-clause-pieces g c =
    let i = c.pieces.invariant in
    let held = c.args.held.now.items in
    let n = c.in-Ok-take.count in
    let piece = take n c.take-in-pieces.new.into in
    let fits = c.in-Ok-take.ensures.bound in
    let small : n ≤ 16384 = omega (arith, c.take-in-pieces.auto.into, length-take-le c.min-most.result c.pieces.piece (omega arith)) in
    let (taken, took, is) = i.took in
    inr (
    takes-piece (g.S.Source.left c.args.source.now) (g.S.Source.left c.pieces.source) (g.S.Source.left c.take-in-pieces.new.self) held taken piece took c.in-Ok-take.ensures.bytes.0
    (let count = fits.1 in omega (arith, small)) (short_yet held taken c.pieces.intake.bytes c.args.len c.args.size c.requires.body (is (omega arith)) (omega arith))
    )
