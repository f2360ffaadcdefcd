-- First parts of one list.
use Rattle.std.proofs.Common.{◌≡◌, ◌≤◌, leb, List, [], ◌∷◌, length, Bool, true, false, if◌then◌else◌, refl, arith}
use Rattle.std.proofs.lemmas.Bool.Decides.{nat_tests}
use mathlib.Core.List.{IsPrefix}
use base.Growing.{prefix_refl}
use Rattle.ddc_desk.specs.Fronts.{longer}

module _ {I : Type 0} where
  pub prefix_nil : (xs : List I) → IsPrefix [] xs
  prefix_nil xs = (xs, refl)

  -- of two first parts of one list the shorter begins the longer
  pub prefix_shorter : (xs ys zs : List I) → IsPrefix xs zs → IsPrefix ys zs → length xs ≤ length ys → IsPrefix xs ys
  prefix_shorter [] ys zs p q le = (ys, refl)
  prefix_shorter (x ∷ xs) [] zs p q le = absurd (omega arith)
  prefix_shorter (x ∷ xs) (y ∷ ys) [] p q le = absurd (cc (p.1))
  prefix_shorter (x ∷ xs) (y ∷ ys) (z ∷ zs) p q le =
      let heads : x ≡ y = cc (p.1, q.1) in
      let rest = prefix_shorter xs ys zs (p.0, cc (p.1)) (q.0, cc (q.1)) (omega arith) in
      (rest.0, cc (heads, rest.1))

  by_length : (xs ys zs : List I) → IsPrefix xs zs → IsPrefix ys zs → (b : Bool) → leb (length xs) (length ys) ≡ b
      → let w = if b then ys else xs in IsPrefix w zs × IsPrefix xs w × IsPrefix ys w
  by_length xs ys zs p q true is = let le : length xs ≤ length ys = grind (arith, nat_tests) in (q, prefix_shorter xs ys zs p q le, prefix_refl ys)
  by_length xs ys zs p q false is = let le : length ys ≤ length xs = grind (arith, nat_tests) in (p, prefix_refl xs, prefix_shorter ys xs zs q p le)

  -- both begin the longer, which begins the whole
  pub longer_begins : (xs ys zs : List I) → IsPrefix xs zs → IsPrefix ys zs → IsPrefix (longer xs ys) zs × IsPrefix xs (longer xs ys) × IsPrefix ys (longer xs ys)
  longer_begins xs ys zs p q = by_length xs ys zs p q (leb (length xs) (length ys)) refl
