-- The list of grey numbers beside the marks.
use Rattle.std.specs.Prelude.{◌≡◌, ℕ, zero, suc, ◌+◌, ◌<◌, ◌≤◌, Bool, true, false, cond, List, [], ◌∷◌, ◌++◌, length, set, nat_eq, refl}
use Rattle.std.proofs.Common.{ap, sym, ◌∙◌, arith, ◌≢◌, length-append}
use Rattle.std.specs.List.{count_by}
use Rattle.std.proofs.lemmas.List.{get_or-set_same, get_or-set_other}
use Rattle.std.proofs.lemmas.List.Sums.{sum_by-append, sum_by-set, count_by-le-length}
use Rattle.std.proofs.lemmas.Bool.Decides.{nat_tests}
use Rattle.collector.specs.declared.nodes.NodeMark.{NodeMark}
use Rattle.collector.specs.Marks.{white}
use Rattle.collector.specs.inside.Tables.{grey_at, one_if, count_grey, AreListed, taken}
use Rattle.collector.proofs.Lists.{at_white}

pub grey_below : (ms : List NodeMark) (n : ℕ) → grey_at ms n ≡ true → n < length ms
grey_below [] n e = absurd (cc)
grey_below (m ∷ ms) zero e = omega arith
grey_below (m ∷ ms) (suc n) e = let below : n < length ms = grey_below ms n e in omega arith

is_itself : (n : ℕ) → nat_eq n n ≡ true
is_itself n = grind (arith, nat_tests)

one_then : (b : Bool) (n : ℕ) → 1 + n ≡ one_if b → b ≡ true
one_then true n e = refl
one_then false n e = absurd (omega arith)

counted_last : (k n : ℕ) (xs : List ℕ) → count_by (nat_eq k) (xs ++ n ∷ []) ≡ count_by (nat_eq k) xs + one_if (nat_eq k n)
counted_last k n xs = sum_by-append (λ (x : ℕ). cond (nat_eq k x) 1 0) xs (n ∷ []) ∙ omega arith

counted_first : (k n : ℕ) (xs : List ℕ) → count_by (nat_eq k) (n ∷ xs) ≡ one_if (nat_eq k n) + count_by (nat_eq k) xs
counted_first k n xs = sum_by-append (λ (x : ℕ). cond (nat_eq k x) 1 0) (n ∷ []) xs ∙ omega arith

-- what stands in the list is grey
pub last_is_grey : (ms : List NodeMark) (xs : List ℕ) (n : ℕ) → AreListed ms (xs ++ n ∷ []) → grey_at ms n ≡ true
last_is_grey ms xs n listed =
    let here : count_by (nat_eq n) (xs ++ n ∷ []) ≡ count_by (nat_eq n) xs + 1 = counted_last n n xs ∙ ap (λ (b : Bool). count_by (nat_eq n) xs + one_if b) (is_itself n) in
    let all : count_by (nat_eq n) (xs ++ n ∷ []) ≡ one_if (grey_at ms n) = listed n in
    one_then (grey_at ms n) (count_by (nat_eq n) xs) (omega arith)

pub first_is_grey : (ms : List NodeMark) (xs : List ℕ) → AreListed ms xs → 0 < length xs → (n : ℕ) × (n < length ms) × (grey_at ms n ≡ true)
first_is_grey ms [] listed some = absurd (omega arith)
first_is_grey ms (x ∷ xs) listed some =
    let here : 1 + count_by (nat_eq x) xs ≡ one_if (grey_at ms x) = ap (λ (b : Bool). one_if b + count_by (nat_eq x) xs) (sym (is_itself x)) ∙ sym (counted_first x x xs) ∙ listed x in
    let grey : grey_at ms x ≡ true = one_then (grey_at ms x) (count_by (nat_eq x) xs) here in
    (x, grey_below ms x grey, grey)

-- ---- a white node more

pub listed_added : (ms : List NodeMark) (xs : List ℕ) → AreListed ms xs → AreListed (ms ++ white ∷ []) xs
listed_added ms xs listed n = listed n ∙ ap (λ (m : NodeMark). one_if m.grey) (sym (at_white ms n))

pub counted_added : (ms : List NodeMark) → count_grey (ms ++ white ∷ []) ≡ count_grey ms
counted_added ms = sum_by-append (λ (m : NodeMark). cond m.grey 1 0) ms (white ∷ []) ∙ omega arith

-- ---- one node less is grey

module _ (ms : List NodeMark) (xs : List ℕ) (n : ℕ) (listed : AreListed ms (xs ++ n ∷ [])) where
  below : n < length ms
  below = grey_below ms n (last_is_grey ms xs n listed)

  pub listed_taken : AreListed (set ms n taken) xs
  listed_taken k = split (nat_eq k n) refl where
    split : (b : Bool) → nat_eq k n ≡ b → count_by (nat_eq k) xs ≡ one_if (grey_at (set ms n taken) k)
    split true e =
        let same : k ≡ n = grind (arith, nat_tests) in
        let gone : grey_at (set ms n taken) k ≡ false = ap (λ (i : ℕ). grey_at (set ms n taken) i) same ∙ ap (λ (m : NodeMark). m.grey) (get_or-set_same ms n taken white below) in
        let was : grey_at ms k ≡ true = ap (grey_at ms) same ∙ last_is_grey ms xs n listed in
        let all : count_by (nat_eq k) xs + one_if true ≡ one_if true = ap (λ (b : Bool). count_by (nat_eq k) xs + one_if b) (sym e) ∙ sym (counted_last k n xs) ∙ listed k ∙ ap one_if was in
        let none : count_by (nat_eq k) xs ≡ 0 = omega arith in
        none ∙ ap one_if (sym gone)
    split false e =
        let other : k ≢ n = grind (arith, nat_tests) in
        let all : count_by (nat_eq k) xs + one_if false ≡ one_if (grey_at ms k) = ap (λ (b : Bool). count_by (nat_eq k) xs + one_if b) (sym e) ∙ sym (counted_last k n xs) ∙ listed k in
        let same : count_by (nat_eq k) xs ≡ one_if (grey_at ms k) = omega arith in
        same ∙ ap (λ (m : NodeMark). one_if m.grey) (sym (get_or-set_other ms n k taken white other))

  pub counted_taken : length (xs ++ n ∷ []) ≡ count_grey ms → length xs ≡ count_grey (set ms n taken)
  counted_taken counted =
      let more : count_grey (set ms n taken) + one_if (grey_at ms n) ≡ count_grey ms + 0 = sum_by-set (λ (m : NodeMark). cond m.grey 1 0) ms n taken white below in
      let one : count_grey (set ms n taken) + 1 ≡ count_grey ms + 0 = ap (λ (b : Bool). count_grey (set ms n taken) + one_if b) (sym (last_is_grey ms xs n listed)) ∙ more in
      let long : length (xs ++ n ∷ []) ≡ length xs + 1 = length-append xs (n ∷ []) in
      omega arith

-- ---- one node more is grey

at_most_one : (b : Bool) → one_if b ≤ 1
at_most_one true = omega arith
at_most_one false = omega arith

grey_first : (m : NodeMark) (ms : List NodeMark) → count_grey (m ∷ ms) ≡ one_if m.grey + count_grey ms
grey_first m ms = sum_by-append (λ (m : NodeMark). cond m.grey 1 0) (m ∷ []) ms ∙ omega arith

pub fewer_grey : (ms : List NodeMark) (n : ℕ) → n < length ms → grey_at ms n ≡ false → count_grey ms + 1 ≤ length ms
fewer_grey [] n lt e = absurd (omega arith)
fewer_grey (m ∷ ms) zero lt e =
    let few : count_grey ms ≤ length ms = count_by-le-length (λ (m : NodeMark). m.grey) ms in
    let none : one_if m.grey ≡ 0 = ap one_if e in
    let all : count_grey (m ∷ ms) ≡ one_if m.grey + count_grey ms = grey_first m ms in
    omega arith
fewer_grey (m ∷ ms) (suc n) lt e =
    let few : count_grey ms + 1 ≤ length ms = fewer_grey ms n (omega arith) e in
    let most : one_if m.grey ≤ 1 = at_most_one m.grey in
    let all : count_grey (m ∷ ms) ≡ one_if m.grey + count_grey ms = grey_first m ms in
    omega arith
