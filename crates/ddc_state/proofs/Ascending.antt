-- One step of a test whether keys ascend, and keys that stand after another.
use Rattle.std.specs.Prelude.{◌≡◌, ℕ, ◌+◌, ◌-◌, ◌≤◌, ◌<◌, Bool, true, false, ◌&&◌, List, [], ◌∷◌, length, drop, get_or, refl}
use Rattle.std.proofs.Common.{ap, sym, ◌∙◌, arith}
use Rattle.std.proofs.lemmas.Bool.{and_parts}
use Rattle.std.proofs.lemmas.List.{drop_more, length-drop}
use Rattle.std.specs.declared.cmp.Ordering.{Ordering}
use Rattle.std.specs.declared.cmp.Ordering.TheVariants.{Less, Equal, Greater}
use Rattle.std.specs.Ordering.{is_lt}
use Rattle.std.specs.Cmp.{IsTotalOrder}
use Rattle.ddc_model.specs.Entries.{ascends, ascends_after}

pub is_less : (o : Ordering) → is_lt o ≡ true → o ≡ Less
is_less Less h = refl
is_less Equal h = absurd (cc)
is_less Greater h = absurd (cc)

both_true : (a b : Bool) → a ≡ true → b ≡ true → (a && b) ≡ true
both_true true b h k = k
both_true false b h k = absurd (cc)

module _ {K : Type 0} (R : K → K → Ordering) where
  -- the keys from one on ascend where the next stands after it and those from the next on ascend
  pub ascends_step : (keys : List K) (i : ℕ) (a b : K) → 1 ≤ i → i < length keys → a ≡ get_or keys (i - 1) a → b ≡ get_or keys i b → ascends R (drop (i - 1) keys) ≡ (is_lt (R a b) && ascends R (drop i keys))
  ascends_step keys i a b some below at_a at_b =
      let back : (i - 1) + 1 ≡ i = omega (arith, some) in
      let now : drop i keys ≡ b ∷ drop (i + 1) keys = drop_more keys i b below ∙ ap (λ (x : K). x ∷ drop (i + 1) keys) (sym at_b) in
      let before : drop (i - 1) keys ≡ a ∷ drop i keys = drop_more keys (i - 1) a (omega (arith, some, below)) ∙ ap (λ (x : K). x ∷ drop ((i - 1) + 1) keys) (sym at_a) ∙ ap (λ (n : ℕ). a ∷ drop n keys) back in
      ap (ascends R) (before ∙ ap (λ (ks : List K). a ∷ ks) now) ∙ sym (ap (λ (ks : List K). is_lt (R a b) && ascends R ks) now)

  -- one key ascends
  pub ascends_last : (keys : List K) (i : ℕ) → 1 ≤ i → length keys ≤ i → ascends R (drop (i - 1) keys) ≡ true
  ascends_last keys i some end = short (drop (i - 1) keys) (omega (arith, some, end, length-drop (i - 1) keys)) where
    short : (ks : List K) → length ks ≤ 1 → ascends R ks ≡ true
    short [] h = refl
    short (k ∷ []) h = refl
    short (k ∷ l ∷ ks) h = absurd (omega arith)

  pub ascends_rest : (a : K) (ks : List K) → ascends_after R a ks ≡ true → ascends R ks ≡ true
  ascends_rest a [] h = refl
  ascends_rest a (k ∷ ks) h = (and_parts (is_lt (R a k)) (ascends_after R k ks) h).1

  -- what stands after a key stands after those before it
  pub ascends_before : IsTotalOrder R → (a b : K) (ks : List K) → is_lt (R a b) ≡ true → ascends_after R b ks ≡ true → ascends_after R a ks ≡ true
  ascends_before total a b [] l h = refl
  ascends_before total a b (k ∷ ks) l h =
      let parts = and_parts (is_lt (R b k)) (ascends_after R k ks) h in
      both_true (is_lt (R a k)) (ascends_after R k ks) (ap is_lt (total.trans a b k (is_less _ l) (is_less _ parts.0))) parts.1
