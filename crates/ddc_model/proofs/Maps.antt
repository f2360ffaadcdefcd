-- What a map has after an insertion or a removal.
use Rattle.std.specs.Prelude.{◌≡◌, Option, None, Some, ◌⊎◌, cond, refl}
use Rattle.std.proofs.Common.{ap, sym, ◌∙◌, subst, inl, inr}
use Rattle.std.specs.FinMap.{FinMap, get, insert, remove, get-insert, get-remove}
use Rattle.std.specs.Cmp.{IsTotalOrder}
use Rattle.std.specs.Option.{unwrap_or}
use Rattle.std.specs.Ordering.{is_eq, ordering_reverse}
use Rattle.std.specs.declared.cmp.Ordering.{Ordering}
use Rattle.std.specs.declared.cmp.Ordering.TheVariants.{Less, Equal, Greater}
use Rattle.std.proofs.lemmas.Map.Lookups.{CmpEqualImpliesEq}

module _ {K : Type 0} {R : K → K → Ordering} (total : IsTotalOrder R) (exact : CmpEqualImpliesEq R) where
  reflexive : (x : K) → R x x ≡ Equal
  reflexive x = by_cases (R x x) (total.antisymm x x) where
    by_cases : (o : Ordering) → o ≡ ordering_reverse o → o ≡ Equal
    by_cases Less e = absurd (cc)
    by_cases Equal e = refl
    by_cases Greater e = absurd (cc)

  not_itself : (x y : K) (o : Ordering) → (o ≡ Equal → ⊥) → R x y ≡ o → x ≡ y → ⊥
  not_itself x y o unlike e same = unlike (sym e ∙ subst (λ (z : K). R x z ≡ Equal) same (reflexive x))

  pub same_or_not : (x y : K) → (x ≡ y) ⊎ (x ≡ y → ⊥)
  same_or_not x y = by_cases (R x y) refl where
    by_cases : (o : Ordering) → R x y ≡ o → (x ≡ y) ⊎ (x ≡ y → ⊥)
    by_cases Less e = inr (not_itself x y Less (λ l. cc) e)
    by_cases Equal e = inl (exact x y e)
    by_cases Greater e = inr (not_itself x y Greater (λ l. cc) e)

  pub get_here : {X : Type 0} (m : FinMap R X) (k : K) (v : X) → get (insert m k v) k ≡ Some v
  get_here m k v = get-insert total m k v k ∙ ap (λ (o : Ordering). cond (is_eq o) (Some v) (get m k)) (reflexive k)

  pub get_away : {X : Type 0} (m : FinMap R X) (k : K) (v : X) (q : K) → (q ≡ k → ⊥) → get (insert m k v) q ≡ get m q
  get_away m k v q other = by_cases (R q k) refl where
    by_cases : (o : Ordering) → R q k ≡ o → get (insert m k v) q ≡ get m q
    by_cases Less e = get-insert total m k v q ∙ ap (λ (o : Ordering). cond (is_eq o) (Some v) (get m q)) e
    by_cases Equal e = absurd (other (exact q k e))
    by_cases Greater e = get-insert total m k v q ∙ ap (λ (o : Ordering). cond (is_eq o) (Some v) (get m q)) e

  pub get_removed : {X : Type 0} (m : FinMap R X) (k : K) → get (remove m k) k ≡ None
  get_removed m k = get-remove total m k k ∙ ap (λ (o : Ordering). cond (is_eq o) None (get m k)) (reflexive k)

  pub get_left : {X : Type 0} (m : FinMap R X) (k q : K) → (q ≡ k → ⊥) → get (remove m k) q ≡ get m q
  get_left m k q other = by_cases (R q k) refl where
    by_cases : (o : Ordering) → R q k ≡ o → get (remove m k) q ≡ get m q
    by_cases Less e = get-remove total m k q ∙ ap (λ (o : Ordering). cond (is_eq o) None (get m q)) e
    by_cases Equal e = absurd (other (exact q k e))
    by_cases Greater e = get-remove total m k q ∙ ap (λ (o : Ordering). cond (is_eq o) None (get m q)) e

pub same_some : {A : Type 0} (x y : A) → Some x ≡ Some y → x ≡ y
same_some x y e = ap (λ (o : Option _). unwrap_or o x) e
