-- The shortest spelling spells its number.
use Rattle.std.proofs.Common.{◌≡◌, ℕ, zero, suc, ◌+◌, ◌-◌, ◌*◌, ◌/◌, ◌%◌, ◌^◌, ◌<◌, ◌≤◌, Bool, true, false, nat_lt, ◌∷◌, length, refl, sym, ap, ◌∙◌, arith, mul_comm}
use Rattle.std.proofs.Math.Nat.{pow-suc, one-le-pow}
use Rattle.std.proofs.Math.Arith.{mod-mul}
use Rattle.std.proofs.lemmas.Bool.{ltb-false}
use borrow.Author.Tests.{ltb-true}
use Rattle.std.proofs.lemmas.Bool.Decides.{nat_tests}
use Rattle.std.specs.Int.{bytes_high_first, byte_at}
use Rattle.cb_fields.specs.Varuint.{followers, marked, big_endian_from, IsVaruint}
use Rattle.cb_fields.specs.Needs.{width, lead, minimal}

length-high : (k n : ℕ) → length (bytes_high_first k n) ≡ k
length-high zero n = refl
length-high (suc k) n = ap suc (length-high k n)

byte_is : (k n : ℕ) → byte_at k n ≡ n / 256 ^ k % 256
byte_is zero n = omega arith
byte_is (suc k) n = refl

spelled_high : (k m n : ℕ) → big_endian_from m (bytes_high_first k n) ≡ m * 256 ^ k + n % 256 ^ k
spelled_high zero m n = omega arith
spelled_high (suc k) m n =
    let p : 256 ^ (suc k) ≡ 256 * 256 ^ k = pow-suc 256 k ∙ mul_comm (256 ^ k) 256 in
    let q : n % (256 * 256 ^ k) ≡ (n / 256 ^ k % 256) * 256 ^ k + n % 256 ^ k = mod-mul n (omega arith) (one-le-pow k 256 (omega arith)) in
    let e : byte_at k n ≡ n / 256 ^ k % 256 = byte_is k n in
    let r : big_endian_from (m * 256 + byte_at k n) (bytes_high_first k n) ≡ (m * 256 + byte_at k n) * 256 ^ k + n % 256 ^ k = spelled_high k (m * 256 + byte_at k n) n in
    r ∙ (rw (e, p, q) (omega arith))

-- the first byte of k more has the bits mark and then the number high
pub record IsFirst (k mark high first : ℕ) : Type 0 where
  pub is : first ≡ mark + high
  pub followed : followers first ≡ k
  pub leading : marked first ≡ mark

first_spells : (n k mark high first : ℕ) → IsFirst k mark high first → high * 256 ^ k + n % 256 ^ k ≡ n → IsVaruint n (first ∷ bytes_high_first k n)
first_spells n k mark high first f whole =
    let low : first - marked first ≡ high = rw f.leading (omega (arith, f.is)) in
    (length-high k n ∙ sym f.followed, sym (rw (low, spelled_high k high n) whole))

first_0 : (high : ℕ) → high < 0x80 → IsFirst 0 0x0 high (0x0 + high)
unfolding followers marked
first_0 high small = record { is = refl; followed = grind (arith, nat_tests); leading = grind (arith, nat_tests) }

minimal_0 : (n : ℕ) → 0x0 ≤ n → n < 0x80 → IsVaruint n (minimal n)
unfolding minimal width lead
minimal_0 n least most =
    let few : width n ≡ 0 = grind (arith, nat_tests) in
    let first : lead n ≡ 0x0 + n = grind (arith, nat_tests) in
    rw (few, first) (first_spells n 0 0x0 (n) (0x0 + n) (first_0 (n) (omega arith)) (omega arith))

first_1 : (high : ℕ) → high < 0x40 → IsFirst 1 0x80 high (0x80 + high)
unfolding followers marked
first_1 high small = record { is = refl; followed = grind (arith, nat_tests); leading = grind (arith, nat_tests) }

minimal_1 : (n : ℕ) → 0x80 ≤ n → n < 0x4000 → IsVaruint n (minimal n)
unfolding minimal width lead
minimal_1 n least most =
    let few : width n ≡ 1 = grind (arith, nat_tests) in
    let first : lead n ≡ 0x80 + n / 0x100 = grind (arith, nat_tests) in
    rw (few, first) (first_spells n 1 0x80 (n / 0x100) (0x80 + n / 0x100) (first_1 (n / 0x100) (omega arith)) (omega arith))

first_2 : (high : ℕ) → high < 0x20 → IsFirst 2 0xc0 high (0xc0 + high)
unfolding followers marked
first_2 high small = record { is = refl; followed = grind (arith, nat_tests); leading = grind (arith, nat_tests) }

minimal_2 : (n : ℕ) → 0x4000 ≤ n → n < 0x200000 → IsVaruint n (minimal n)
unfolding minimal width lead
minimal_2 n least most =
    let few : width n ≡ 2 = grind (arith, nat_tests) in
    let first : lead n ≡ 0xc0 + n / 0x10000 = grind (arith, nat_tests) in
    rw (few, first) (first_spells n 2 0xc0 (n / 0x10000) (0xc0 + n / 0x10000) (first_2 (n / 0x10000) (omega arith)) (omega arith))

first_3 : (high : ℕ) → high < 0x10 → IsFirst 3 0xe0 high (0xe0 + high)
unfolding followers marked
first_3 high small = record { is = refl; followed = grind (arith, nat_tests); leading = grind (arith, nat_tests) }

minimal_3 : (n : ℕ) → 0x200000 ≤ n → n < 0x10000000 → IsVaruint n (minimal n)
unfolding minimal width lead
minimal_3 n least most =
    let few : width n ≡ 3 = grind (arith, nat_tests) in
    let first : lead n ≡ 0xe0 + n / 0x1000000 = grind (arith, nat_tests) in
    rw (few, first) (first_spells n 3 0xe0 (n / 0x1000000) (0xe0 + n / 0x1000000) (first_3 (n / 0x1000000) (omega arith)) (omega arith))

first_4 : (high : ℕ) → high < 0x8 → IsFirst 4 0xf0 high (0xf0 + high)
unfolding followers marked
first_4 high small = record { is = refl; followed = grind (arith, nat_tests); leading = grind (arith, nat_tests) }

minimal_4 : (n : ℕ) → 0x10000000 ≤ n → n < 0x800000000 → IsVaruint n (minimal n)
unfolding minimal width lead
minimal_4 n least most =
    let few : width n ≡ 4 = grind (arith, nat_tests) in
    let first : lead n ≡ 0xf0 + n / 0x100000000 = grind (arith, nat_tests) in
    rw (few, first) (first_spells n 4 0xf0 (n / 0x100000000) (0xf0 + n / 0x100000000) (first_4 (n / 0x100000000) (omega arith)) (omega arith))

first_5 : (high : ℕ) → high < 0x4 → IsFirst 5 0xf8 high (0xf8 + high)
unfolding followers marked
first_5 high small = record { is = refl; followed = grind (arith, nat_tests); leading = grind (arith, nat_tests) }

minimal_5 : (n : ℕ) → 0x800000000 ≤ n → n < 0x40000000000 → IsVaruint n (minimal n)
unfolding minimal width lead
minimal_5 n least most =
    let few : width n ≡ 5 = grind (arith, nat_tests) in
    let first : lead n ≡ 0xf8 + n / 0x10000000000 = grind (arith, nat_tests) in
    rw (few, first) (first_spells n 5 0xf8 (n / 0x10000000000) (0xf8 + n / 0x10000000000) (first_5 (n / 0x10000000000) (omega arith)) (omega arith))

first_6 : (high : ℕ) → high < 0x2 → IsFirst 6 0xfc high (0xfc + high)
unfolding followers marked
first_6 high small = record { is = refl; followed = grind (arith, nat_tests); leading = grind (arith, nat_tests) }

minimal_6 : (n : ℕ) → 0x40000000000 ≤ n → n < 0x2000000000000 → IsVaruint n (minimal n)
unfolding minimal width lead
minimal_6 n least most =
    let few : width n ≡ 6 = grind (arith, nat_tests) in
    let first : lead n ≡ 0xfc + n / 0x1000000000000 = grind (arith, nat_tests) in
    rw (few, first) (first_spells n 6 0xfc (n / 0x1000000000000) (0xfc + n / 0x1000000000000) (first_6 (n / 0x1000000000000) (omega arith)) (omega arith))

first_7 : (high : ℕ) → high < 0x1 → IsFirst 7 0xfe high (0xfe + high)
unfolding followers marked
first_7 high small = record { is = refl; followed = grind (arith, nat_tests); leading = grind (arith, nat_tests) }

minimal_7 : (n : ℕ) → 0x2000000000000 ≤ n → n < 0x100000000000000 → IsVaruint n (minimal n)
unfolding minimal width lead
minimal_7 n least most =
    let few : width n ≡ 7 = grind (arith, nat_tests) in
    let first : lead n ≡ 0xfe + 0 = grind (arith, nat_tests) in
    rw (few, first) (first_spells n 7 0xfe (0) (0xfe + 0) (first_7 (0) (omega arith)) (omega arith))

first_8 : (high : ℕ) → high < 0x1 → IsFirst 8 0xff high (0xff + high)
unfolding followers marked
first_8 high small = record { is = refl; followed = grind (arith, nat_tests); leading = grind (arith, nat_tests) }

minimal_8 : (n : ℕ) → 0x100000000000000 ≤ n → n < 0x10000000000000000 → IsVaruint n (minimal n)
unfolding minimal width lead
minimal_8 n least most =
    let few : width n ≡ 8 = grind (arith, nat_tests) in
    let first : lead n ≡ 0xff + 0 = grind (arith, nat_tests) in
    rw (few, first) (first_spells n 8 0xff (0) (0xff + 0) (first_8 (0) (omega arith)) (omega arith))

by_flag : (P : Type 0) (a b : ℕ) → (a < b → P) → (b ≤ a → P) → (flag : Bool) → nat_lt a b ≡ flag → P
by_flag P a b f g true e = f (ltb-true a b e)
by_flag P a b f g false e = g (ltb-false a b e)

by_order : (P : Type 0) (a b : ℕ) → (a < b → P) → (b ≤ a → P) → P
by_order P a b f g = by_flag P a b f g (nat_lt a b) refl

pub minimal_spells : (n : ℕ) → n < 2 ^ 64 → IsVaruint n (minimal n)
minimal_spells n h =
    by_order (IsVaruint n (minimal n)) n 128 (λ b. minimal_0 n (omega arith) b) (λ a0.
    by_order (IsVaruint n (minimal n)) n 16384 (λ b. minimal_1 n (omega arith) b) (λ a1.
    by_order (IsVaruint n (minimal n)) n 2097152 (λ b. minimal_2 n (omega arith) b) (λ a2.
    by_order (IsVaruint n (minimal n)) n 268435456 (λ b. minimal_3 n (omega arith) b) (λ a3.
    by_order (IsVaruint n (minimal n)) n 34359738368 (λ b. minimal_4 n (omega arith) b) (λ a4.
    by_order (IsVaruint n (minimal n)) n 4398046511104 (λ b. minimal_5 n (omega arith) b) (λ a5.
    by_order (IsVaruint n (minimal n)) n 562949953421312 (λ b. minimal_6 n (omega arith) b) (λ a6.
    by_order (IsVaruint n (minimal n)) n 72057594037927936 (λ b. minimal_7 n (omega arith) b) (λ a7.
    minimal_8 n a7 h))))))))
