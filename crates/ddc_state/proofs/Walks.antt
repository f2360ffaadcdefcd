-- Steps of loops over lists.
use Rattle.std.specs.Prelude.{◌≡◌, ℕ, ◌+◌, ◌≤◌, ◌<◌, Bool, true, false, ◌&&◌, List, [], ◌∷◌, ◌++◌, length, drop, get_or, Option, None, Some, is_some, refl}
use Rattle.std.proofs.Common.{ap, sym, ◌∙◌, arith, append_assoc}
use Rattle.std.proofs.lemmas.List.{at_drop_more, at_drop_all}
use Rattle.ddc_names.specs.declared.hash.IoHash.{IoHash}
use Rattle.ddc_names.specs.declared.reference.RefSpot.{RefSpot}
use Rattle.ddc_state.specs.inside.Expired.{where_served}

-- ---- a test of each item

pub and_when : (b rest : Bool) → b ≡ true → rest ≡ (b && rest)
and_when true rest h = refl
and_when false rest h = absurd (cc)

pub and_unless : (b rest : Bool) → b ≡ false → false ≡ (b && rest)
and_unless true rest h = absurd (cc)
and_unless false rest h = refl

module _ {A : Type 0} (is : A → Bool) (are : List A → Bool) (more : (a : A) (others : List A) → are (a ∷ others) ≡ (is a && are others)) (xs : List A) (i : ℕ) where
  pub all_on : (d : A) → i < length xs → is (get_or xs i d) ≡ true → are (drop i xs) ≡ are xs → are (drop (i + 1) xs) ≡ are xs
  all_on d below holds before = and_when (is (get_or xs i d)) (are (drop (i + 1) xs)) holds ∙ sym (at_drop_more are xs i d below ∙ more (get_or xs i d) (drop (i + 1) xs)) ∙ before

  pub all_stop : (d : A) → i < length xs → is (get_or xs i d) ≡ false → are (drop i xs) ≡ are xs → false ≡ are xs
  all_stop d below fails before = and_unless (is (get_or xs i d)) (are (drop (i + 1) xs)) fails ∙ sym (at_drop_more are xs i d below ∙ more (get_or xs i d) (drop (i + 1) xs)) ∙ before

  pub all_end : are [] ≡ true → length xs ≤ i → are (drop i xs) ≡ are xs → true ≡ are xs
  all_end none end before = sym (at_drop_all are xs i end ∙ none) ∙ before

-- ---- a change for each item

module _ {S A : Type 0} (step : S → A → S) (steps : S → List A → S) (more : (s : S) (a : A) (others : List A) → steps s (a ∷ others) ≡ steps (step s a) others) (none : (s : S) → steps s [] ≡ s) (xs : List A) (i : ℕ) where
  pub steps_on : (old now new : S) (d : A) → i < length xs → new ≡ step now (get_or xs i d) → steps now (drop i xs) ≡ steps old xs → steps new (drop (i + 1) xs) ≡ steps old xs
  steps_on old now new d below is before =
      ap (λ (s : S). steps s (drop (i + 1) xs)) is ∙ sym (at_drop_more (steps now) xs i d below ∙ more now (get_or xs i d) (drop (i + 1) xs)) ∙ before

  pub steps_end : (old now : S) → length xs ≤ i → steps now (drop i xs) ≡ steps old xs → now ≡ steps old xs
  steps_end old now end before = sym (at_drop_all (steps now) xs i end ∙ none now) ∙ before

-- ---- a count

module _ {A : Type 0} (one : A → ℕ) (all : List A → ℕ) (more : (a : A) (others : List A) → all (a ∷ others) ≡ one a + all others) (xs : List A) (i : ℕ) where
  pub count_on : (count : ℕ) (d : A) → i < length xs → count + all (drop i xs) ≡ all xs → (count + one (get_or xs i d)) + all (drop (i + 1) xs) ≡ all xs
  count_on count d below before =
      let now : all (drop i xs) ≡ one (get_or xs i d) + all (drop (i + 1) xs) = at_drop_more all xs i d below ∙ more (get_or xs i d) (drop (i + 1) xs) in
      omega (arith, now, before)

  pub count_end : all [] ≡ 0 → (count : ℕ) → length xs ≤ i → count + all (drop i xs) ≡ all xs → count ≡ all xs
  count_end none count end before =
      let now : all (drop i xs) ≡ 0 = at_drop_all all xs i end ∙ none in
      omega (arith, now, before)

-- ---- references that serve an object

pub served_one : (old : Option IoHash) (spot : RefSpot) (served rest all : List RefSpot) → is_some old ≡ true → served ++ where_served old spot rest ≡ all → (served ++ spot ∷ []) ++ rest ≡ all
served_one None spot served rest all h before = absurd (cc)
served_one (Some object) spot served rest all h before = append_assoc served (spot ∷ []) rest ∙ before

pub served_none : (old : Option IoHash) (spot : RefSpot) (served rest all : List RefSpot) → is_some old ≡ false → served ++ where_served old spot rest ≡ all → served ++ rest ≡ all
served_none None spot served rest all h before = before
served_none (Some object) spot served rest all h before = absurd (cc)
