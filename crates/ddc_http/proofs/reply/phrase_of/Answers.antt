use Rattle.std.proofs.Common.{◌≡◌, ◌≤◌, ◌<◌, ◌⊎◌, inl, inr, ℕ, None, rules, sym, arith}
use Rattle.std.proofs.lemmas.Bool.{cases_order}
use Rattle.http.specs.StatusCode.{reason_phrase}
use borrow.Author.Tests.{tests}
use Rattle.ddc_http.proofs.reply.phrase_of.Goals as goal

below : (n : ℕ) → n < 100 → reason_phrase n ≡ None
below n h = grind (arith, tests)

above : (n : ℕ) → 1000 ≤ n → reason_phrase n ≡ None
above n h = search (tests, rules, arith)

-- a number that isn't of three digits has no phrase
outside : (n : ℕ) → (100 ≤ n → n < 1000 → ⊥) → (n ≡ 100) ⊎ ((n < 100) ⊎ (100 < n)) → reason_phrase n ≡ None
outside n h (inl same) = absurd (h (omega arith) (omega arith))
outside n h (inr (inl less)) = below n less
outside n h (inr (inr more)) = above n (omega arith)

pub returns-in-Err : goal.returns-in-Err
returns-in-Err c =
    let status = c.args.status in
    sym (outside status (λ low high. c.in-Err.ensures (low, high)) (cases_order status 100))
