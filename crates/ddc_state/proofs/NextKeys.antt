-- The first entry of a range is that of the first key after a place.
use Rattle.std.specs.Prelude.{◌≡◌, ℕ, Bool, true, false, cond, ◌&&◌, List, [], ◌∷◌, Option, None, Some, is_some, refl}
use Rattle.std.proofs.Common.{ap, sym, ◌∙◌, subst}
use Rattle.std.specs.Cmp.{IsTotalOrder, eq_by_cmp_equiv}
use Rattle.std.specs.Map.{keys_of, lookup}
use Rattle.std.specs.List.{AllByRecursion}
use Rattle.std.specs.List.Sorted.{IsStrictlySortedBy}
use Rattle.std.proofs.lemmas.Map.Keys.{sorted_head, sorted_tail}
use Rattle.std.proofs.lemmas.Map.Lookups.{CmpEqualImpliesEq}
use Rattle.std.specs.declared.cmp.Ordering.{Ordering}
use Rattle.std.specs.declared.cmp.Ordering.TheVariants.{Less, Equal, Greater}
use Rattle.std.specs.declared.ops.Bound.{Bound}
use Rattle.std.specs.declared.ops.Bound.TheVariants.{Unbounded}
use Rattle.std.specs.Ordering.{is_eq, is_lt, eq_by_cmp}
use Rattle.std.specs.BTreeMap.{BTreeMap, is_at}
use Rattle.std.specs.BTreeMap.Range.{entries_between, range_contains}
use Rattle.ddc_names.specs.Orders.{io_hash_cmp, name_cmp}
use Rattle.ddc_names.specs.declared.hash.IoHash.{IoHash}
use Rattle.ddc_model.specs.State.{blob_name}
use Rattle.ddc_state.specs.Nested.{in_spaces}
use Rattle.ddc_state.specs.NextKeys.{is_past, NextKey, NextBlob}
use Rattle.ddc_state.specs.inside.Ranges.{start_of, first_key}
use Rattle.ddc_state.proofs.Nesting.{read, found as found_in}

and_true : (b : Bool) → (b && true) ≡ b
and_true true = refl
and_true false = refl

in_range : {K : Type 0} (R : K → K → Ordering) (after : Option K) (k : K) → range_contains R (start_of after) Unbounded k ≡ is_past R after k
in_range R None k = refl
in_range R (Some before) k = and_true (is_lt (R before k))

is_same : (o : Ordering) → is_eq o ≡ true → o ≡ Equal
is_same Less h = absurd (cc)
is_same Equal h = refl
is_same Greater h = absurd (cc)

-- the same of keys that have the same values
pub next_alike : {K V : Type 0} (R : K → K → Ordering) (f g : K → Option V) → ((q : K) → g q ≡ f q) → (after found : Option K) → NextKey R f after found → NextKey R g after found
next_alike R f g same after None h = λ other t. same other ∙ h other t
next_alike R f g same after (Some k) h = record { there = ap is_some (same k) ∙ h.there; past = h.past; first = λ other t l. same other ∙ h.first other t l }

module _ {K V : Type 0} (R : K → K → Ordering) (total : IsTotalOrder R) (exact : CmpEqualImpliesEq R) where
  abbrev at : List (K × V) → K → Option V
  at es q = lookup (is_at (R q)) es

  -- what is below all isn't found
  not_found : (q x : K) (es : List (K × V)) → R q x ≡ Less → AllByRecursion (λ y. R x y ≡ Less) (keys_of es) → at es q ≡ None
  not_found q x [] l h = refl
  not_found q x (e ∷ es) l h = ap (λ (o : Ordering). cond (is_eq o) (Some e.1) (at es q)) (total.trans q x e.0 l h.0) ∙ not_found q x es l h.1

  -- an entry that isn't after the place is passed over by those that are
  passed : (after : Option K) (e : K × V) (es : List (K × V)) (q : K) → is_past R after e.0 ≡ false → is_past R after q ≡ true → at (e ∷ es) q ≡ at es q
  passed after e es q f t = split (eq_by_cmp R q e.0) refl where
    split : (b : Bool) → eq_by_cmp R q e.0 ≡ b → cond b (Some e.1) (at es q) ≡ at es q
    split true s = let same : is_past R after q ≡ is_past R after e.0 = ap (is_past R after) (exact q e.0 (is_same _ s)) in absurd (cc)
    split false s = refl

  one_passed : (after : Option K) (e : K × V) (es : List (K × V)) (found : Option K) → is_past R after e.0 ≡ false → NextKey R (at es) after found → NextKey R (at (e ∷ es)) after found
  one_passed after e es None f h = λ other t. passed after e es other f t ∙ h other t
  one_passed after e es (Some x) f h = record {
    there = ap is_some (passed after e es x f h.past) ∙ h.there;
    past = h.past;
    first = λ other t l. passed after e es other f t ∙ h.first other t l;
  }

  here : (after : Option K) (e : K × V) (es : List (K × V)) → is_past R after e.0 ≡ true → AllByRecursion (λ y. R e.0 y ≡ Less) (keys_of es) → NextKey R (at (e ∷ es)) after (Some e.0)
  here after e es t below = record {
    there = ap (λ (b : Bool). is_some (cond b (Some e.1) (at es e.0))) ((eq_by_cmp_equiv total).refl e.0);
    past = t;
    first = λ other behind l. ap (λ (o : Ordering). cond (is_eq o) (Some e.1) (at es other)) l ∙ not_found other e.0 es l below;
  }

  abbrev between : Option K → List (K × V) → List (K × V)
  between after es = entries_between R (start_of after) Unbounded es

  one_more : (after : Option K) (e : K × V) (es : List (K × V)) (b : Bool) → is_past R after e.0 ≡ b → AllByRecursion (λ y. R e.0 y ≡ Less) (keys_of es) → NextKey R (at es) after (first_key (between after es))
      → NextKey R (at (e ∷ es)) after (first_key (cond b (e ∷ between after es) (between after es)))
  one_more after e es true t below h = here after e es t below
  one_more after e es false f below h = one_passed after e es (first_key (between after es)) f h

  first_between : (after : Option K) (es : List (K × V)) → IsStrictlySortedBy R (keys_of es) → NextKey R (at es) after (first_key (between after es))
  first_between after [] s = λ other t. refl
  first_between after (e ∷ es) s =
      subst (λ (b : Bool). NextKey R (at (e ∷ es)) after (first_key (cond b (e ∷ between after es) (between after es)))) (sym (in_range R after e.0))
      (one_more after e es (is_past R after e.0) refl (sorted_head R e.0 (keys_of es) s) (first_between after es (sorted_tail R e.0 (keys_of es) s)))

  -- the first entry of the range has the first key after the place
  pub next_read : (es : List (K × V)) (after : Option K) (start : Bound K) (found : Option K) → IsStrictlySortedBy R (keys_of es) → start ≡ start_of after → found ≡ first_key (entries_between R start Unbounded es)
      → NextKey R (λ q. lookup (is_at (R q)) es) after found
  next_read es after start found sorted at_start is =
      subst (NextKey R (at es) after) (sym (is ∙ ap (λ (b : Bound K). first_key (entries_between R b Unbounded es)) at_start)) (first_between after es sorted)

-- ---- the blobs of a namespace, among the maps of all namespaces

module _ {V : Type 0} (es : List (List ℕ × BTreeMap IoHash V)) (space : List ℕ) (after : Option IoHash) where
  pub next_there : (blobs : BTreeMap IoHash V) → Some blobs ≡ lookup (is_at (name_cmp space)) es → (found : Option IoHash) → NextKey io_hash_cmp (λ q. lookup (is_at (io_hash_cmp q)) blobs.entries) after found
      → NextBlob (in_spaces es) space after found
  next_there blobs was found next =
      next_alike io_hash_cmp (λ q. lookup (is_at (io_hash_cmp q)) blobs.entries) _ (λ q. read es (blob_name space q) ∙ sym (ap (λ o. found_in o q) was)) after found next

  pub next_nowhere : None ≡ lookup (is_at (name_cmp space)) es → NextBlob (in_spaces es) space after None
  next_nowhere was other t = read es (blob_name space other) ∙ sym (ap (λ o. found_in o other) was)
