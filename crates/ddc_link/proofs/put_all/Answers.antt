use Rattle.std.proofs.Common.{◌≡◌, ℕ, ◌-◌, List, [], ◌++◌, take, drop, length, refl, sym, ap, ◌∙◌, append_assoc, take-append-drop, arith}
use Rattle.std.proofs.lemmas.List.{take_rest}
use Rattle.std.proofs.KnownBytes.{Appends-nil, Appends-trans}
use Rattle.ddc_link.proofs.put_all.Goals as goal

moves_front : (all done rest : List ℕ) (n : ℕ) → all ≡ done ++ rest → all ≡ (done ++ take n rest) ++ take (length rest - n) (drop n rest)
moves_front all done rest n e =
    e ∙ ap (λ l. done ++ l) (sym (take-append-drop n rest)) ∙ sym (append_assoc done (take n rest) (drop n rest)) ∙ ap (λ l. (done ++ take n rest) ++ l) (sym (take_rest rest n))

pub pieces-init : goal.pieces-init
pieces-init g c = record { done = ([], refl, Appends-nil _); same = refl }

pub pieces-preserved : goal.pieces-preserved
pieces-preserved g c =
    let (done, split, appended) = c.pieces.invariant.done in
    let rest = c.pieces.rest.now in
    let n = c.in-Ok.count in
    record {
      done = (done ++ take n rest, moves_front _ done rest n split, Appends-trans _ _ _ _ _ appended c.in-Ok.ensures.bytes);
      same = c.pieces.invariant.same ∙ c.in-Ok.ensures.cause.same;
    }
