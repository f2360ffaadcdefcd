use Rattle.std.proofs.Common.{◌≡◌, ◌-◌, ◌∷◌, [], ◌++◌, List, ℕ, length, take, drop, sym, ◌∙◌, ap, subst, arith, append_assoc}
use Rattle.std.proofs.lemmas.Grind.{common_steps}
use Rattle.ddc_journal.specs.Journal.{framed, items, AreSized}
use Rattle.ddc_journal.specs.inside.Scanning.{NeedsAt}
use Rattle.ddc_journal.proofs.Spelling.{items-push, sized-push}
use Rattle.ddc_journal.proofs.parse.take_items.Goals as goal

pub loop-rest-preserved : goal.loop-rest-preserved
loop-rest-preserved c =
    let i = c.loop-rest.invariant in
    let old = c.loop-rest.bodies in
    let body = c.in-Ok.body.now in
    let tail = c.in-Ok.tail.now in
    let rest_is : c.loop-rest.rest.now ≡ 1 ∷ (framed body ++ tail) = grind (arith, common_steps) in
    let added : c.add_body.new.bodies ≡ old ++ body ∷ [] = c.in_ok-add_body-in-Ok.ensures.ok in
    record {
      split = ap (λ (l : List (List ℕ)). items l ++ tail) added ∙ ap (λ (l : List ℕ). l ++ tail) (items-push old body) ∙ append_assoc (items old) (1 ∷ framed body) tail
          ∙ ap (λ (l : List ℕ). items old ++ l) (sym rest_is) ∙ i.split;
      some = c.in-Ok.ensures.sized.1;
      shorter = omega (arith, i.shorter, c.in-Ok.ensures.sized.2);
      sized = λ all. subst AreSized (sym added) (sized-push old body (i.sized all) c.in-Ok.ensures.sized.0);
    }

pub returns-in-Err : goal.returns-in-Err
returns-in-Err c =
    let i = c.loop-rest.invariant in
    let rest = c.loop-rest.rest.now in
    let after = take (length rest - 1) (drop 1 rest) in
    let rest_is : rest ≡ 1 ∷ after = grind (arith, common_steps) in
    record {
      rest = rest;
      split = sym i.split;
      size = omega arith;
      some = i.some;
      stops = subst (NeedsAt c.in-Err.need) (sym rest_is) c.in-Err.ensures.needs;
      is_cut = omega (arith, ap length rest_is, c.in-Err.ensures.is_cut);
      sized = i.sized;
    }
