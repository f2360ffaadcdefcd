-- Events with consecutive numbers: parts of them, and those after a number.
use Rattle.std.proofs.Common.{◌≡◌, ℕ, zero, suc, ◌+◌, ◌-◌, Bool, true, false, cond, nat_lt, List, [], ◌∷◌, ◌++◌, length, drop, refl, sym, ap, ◌∙◌, subst, arith}
use Rattle.std.proofs.lemmas.List.{drop_all}
use Rattle.std.proofs.lemmas.Bool.{lt-ltb, le-ltb}
use Rattle.replication_log.specs.declared.event.Event.{Event}
use Rattle.replication_log.specs.Logs.{first_number, AreNumbered}
use Rattle.replication_log.specs.LogPages.{events_after}

pub first_is : (n next : ℕ) (es : List Event) → AreNumbered n es → n + length es ≡ next → first_number next es ≡ n
first_is n next [] numbered ends = omega (arith, ends)
first_is n next (e ∷ es) numbered ends = numbered.0

pub numbered_at : (n m : ℕ) (es : List Event) → n ≡ m → AreNumbered n es → AreNumbered m es
numbered_at n m es is numbered = subst (λ (k : ℕ). AreNumbered k es) is numbered

pub numbered_drop : (n : ℕ) (es : List Event) (j : ℕ) → AreNumbered n es → AreNumbered (n + j) (drop j es)
numbered_drop n es zero numbered = numbered_at n (n + 0) es (omega arith) numbered
numbered_drop n [] (suc j) numbered = tt
numbered_drop n (e ∷ es) (suc j) numbered = numbered_at (n + 1 + j) (n + suc j) (drop j es) (omega arith) (numbered_drop (n + 1) es j numbered.1)

pub numbered_append : (n : ℕ) (es : List Event) (e : Event) → AreNumbered n es → e.number ≡ n + length es → AreNumbered n (es ++ e ∷ [])
numbered_append n [] e numbered is = (is ∙ omega arith, tt)
numbered_append n (x ∷ es) e numbered is = (numbered.0, numbered_append (n + 1) es e numbered.1 (is ∙ omega arith))

kept_where : (b : Bool) (e : Event) (es fs gs : List Event) → b ≡ true → es ≡ fs → cond b (e ∷ es) gs ≡ e ∷ fs
kept_where true e es fs gs h is = ap (λ (l : List Event). e ∷ l) is
kept_where false e es fs gs h is = absurd (cc)

left_where : (b : Bool) (e : Event) (es fs gs : List Event) → b ≡ false → gs ≡ fs → cond b (e ∷ es) gs ≡ fs
left_where true e es fs gs h is = absurd (cc)
left_where false e es fs gs h is = is

-- where the first of consecutive numbers isn't left out, all are there, and else those after the first of them
after_first : (n : ℕ) (e : Event) (es : List Event) (a d : ℕ) → e.number ≡ n → a + 1 - n ≡ d → events_after es a ≡ drop (a + 1 - (n + 1)) es → events_after (e ∷ es) a ≡ drop d (e ∷ es)
after_first n e es a zero first is rest =
    kept_where (nat_lt a e.number) e _ es _ (lt-ltb a e.number (omega (arith, first, is)))
    (rest ∙ ap (λ (j : ℕ). drop j es) (let none : a + 1 - (n + 1) ≡ 0 = omega (arith, is) in none))
after_first n e es a (suc d) first is rest =
    left_where (nat_lt a e.number) e _ (drop d es) _ (le-ltb a e.number (omega (arith, first, is)))
    (rest ∙ ap (λ (j : ℕ). drop j es) (let less : a + 1 - (n + 1) ≡ d = omega (arith, is) in less))

-- of consecutive numbers those after one of them are the rest
pub after_drop : (n : ℕ) (es : List Event) (a : ℕ) → AreNumbered n es → events_after es a ≡ drop (a + 1 - n) es
after_drop n [] a numbered = sym (drop_all (a + 1 - n) [] (omega arith))
after_drop n (e ∷ es) a numbered = after_first n e es a (a + 1 - n) numbered.0 refl (after_drop (n + 1) es a numbered.1)
