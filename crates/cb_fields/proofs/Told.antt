-- What is written tells the hashes.
use Rattle.std.proofs.Common.{◌≡◌, ℕ, ◌^◌, ◌<◌, ◌≤◌, List, [], ◌∷◌, ◌++◌, length, take, drop, refl, sym, ap, ◌∙◌, arith, length-append, Option, Some, None}
use Rattle.std.proofs.Math.Seq.{take-append_seam, drop-append_seam}
use Rattle.ddc_names.specs.declared.hash.IoHash.{IoHash}
use Rattle.cb_fields.specs.Varuint.{varuint_at}
use Rattle.cb_fields.specs.Needs.{minimal, with_size, hash_bytes, needs_field, needs_object, AreHashes}
use Rattle.cb_fields.proofs.Front.{varuint_read}
use Rattle.cb_fields.proofs.Shortest.{minimal_spells}

same_front : (front xs ys : List ℕ) → front ++ xs ≡ front ++ ys → xs ≡ ys
same_front front xs ys e = sym (drop-append_seam front xs) ∙ ap (drop (length front)) e ∙ drop-append_seam front ys

abbrev number_of : Option (ℕ × ℕ) → ℕ
number_of None = 0
number_of (Some found) = found.0

abbrev first_of : List ℕ → ℕ
first_of [] = 0
first_of (b ∷ bs) = b

-- a number and what follows it
number_told : (n m : ℕ) (xs ys : List ℕ) → n < 2 ^ 64 → m < 2 ^ 64 → minimal n ++ xs ≡ minimal m ++ ys → (n ≡ m) × (xs ≡ ys)
number_told n m xs ys small fits e =
    let a : varuint_at (minimal n ++ xs) ≡ Some (n, length (minimal n)) = varuint_read n (minimal n) xs (minimal_spells n small) in
    let b : varuint_at (minimal m ++ ys) ≡ Some (m, length (minimal m)) = varuint_read m (minimal m) ys (minimal_spells m fits) in
    let same : n ≡ m = ap number_of (sym a ∙ ap varuint_at e ∙ b) in
    let f : minimal n ++ xs ≡ minimal n ++ ys = rw (sym same) at e in
    (same, same_front (minimal n) xs ys f)

size_told : (xs ys : List ℕ) → length xs < 2 ^ 64 → length ys < 2 ^ 64 → with_size xs ≡ with_size ys → xs ≡ ys
size_told xs ys small fits e = (number_told (length xs) (length ys) xs ys small fits e).1

hash_told : (h g : IoHash) → h.0 ≡ g.0 → h ≡ g
hash_told h g e = ap (λ (bytes : List ℕ). let hash : IoHash = record { 0 = bytes } in hash) e

joined_told : (hs gs : List IoHash) → AreHashes hs → AreHashes gs → length hs ≡ length gs → hash_bytes hs ≡ hash_bytes gs → hs ≡ gs
joined_told [] [] a b n e = refl
joined_told [] (g ∷ gs) a b n e = absurd (omega arith)
joined_told (h ∷ hs) [] a b n e = absurd (omega arith)
joined_told (h ∷ hs) (g ∷ gs) a b n e =
    let len : length h.0 ≡ length g.0 = a.0 ∙ sym b.0 in
    let front : take (length h.0) (g.0 ++ hash_bytes gs) ≡ g.0 = rw len (take-append_seam g.0 (hash_bytes gs)) in
    let same : h.0 ≡ g.0 = sym (take-append_seam h.0 (hash_bytes hs)) ∙ ap (take (length h.0)) e ∙ front in
    let behind : h.0 ++ hash_bytes hs ≡ h.0 ++ hash_bytes gs = rw (sym same) at e in
    let fewer : length hs ≡ length gs = omega arith in
    let rest : hs ≡ gs = joined_told hs gs a.1 b.1 fewer (same_front h.0 (hash_bytes hs) (hash_bytes gs) behind) in
    rw (hash_told h g same, rest) refl

few_hashes : (hs : List IoHash) → AreHashes hs → length hs ≤ length (hash_bytes hs)
few_hashes [] a = omega arith
few_hashes (h ∷ hs) a = rw length-append (omega (arith, a.0, few_hashes hs a.1))

-- the count, the type byte and the hashes
abbrev inside : List IoHash → List ℕ
inside hs = minimal (length hs) ++ 0x10 ∷ hash_bytes hs

inside_told : (hs gs : List IoHash) → AreHashes hs → AreHashes gs → length (inside hs) < 2 ^ 64 → length (inside gs) < 2 ^ 64 → inside hs ≡ inside gs → hs ≡ gs
inside_told hs gs a b small fits e =
    let few : length hs < 2 ^ 64 = omega (arith, small, few_hashes hs a, length-append (minimal (length hs)) (0x10 ∷ hash_bytes hs)) in
    let fewer : length gs < 2 ^ 64 = omega (arith, fits, few_hashes gs b, length-append (minimal (length gs)) (0x10 ∷ hash_bytes gs)) in
    let same = number_told (length hs) (length gs) (0x10 ∷ hash_bytes hs) (0x10 ∷ hash_bytes gs) few fewer e in
    let rest : hash_bytes hs ≡ hash_bytes gs = ap (drop 1) same.1 in
    joined_told hs gs a b same.0 rest

field_told : (hs gs : List IoHash) → AreHashes hs → AreHashes gs → length (needs_field hs) < 2 ^ 64 → length (needs_field gs) < 2 ^ 64 → needs_field hs ≡ needs_field gs → hs ≡ gs
field_told [] [] a b small fits e = refl
field_told [] (g ∷ gs) a b small fits e = absurd (let differ : 0x84 ≡ 0x85 = ap first_of e in omega arith)
field_told (h ∷ hs) [] a b small fits e = absurd (let differ : 0x85 ≡ 0x84 = ap first_of e in omega arith)
field_told (h ∷ hs) (g ∷ gs) a b small fits e =
    let short : length (inside (h ∷ hs)) < 2 ^ 64 = omega (arith, small, length-append (minimal (length (inside (h ∷ hs)))) (inside (h ∷ hs))) in
    let shorter : length (inside (g ∷ gs)) < 2 ^ 64 = omega (arith, fits, length-append (minimal (length (inside (g ∷ gs)))) (inside (g ∷ gs))) in
    let same : with_size (inside (h ∷ hs)) ≡ with_size (inside (g ∷ gs)) = ap (drop 7) e in
    inside_told (h ∷ hs) (g ∷ gs) a b short shorter (size_told (inside (h ∷ hs)) (inside (g ∷ gs)) short shorter same)

pub needs_told : (hs gs : List IoHash) → AreHashes hs → AreHashes gs → length (needs_object hs) < 2 ^ 64 → length (needs_object gs) < 2 ^ 64 → needs_object hs ≡ needs_object gs → hs ≡ gs
needs_told hs gs a b small fits e =
    let short : length (needs_field hs) < 2 ^ 64 = omega (arith, small, length-append (minimal (length (needs_field hs))) (needs_field hs)) in
    let shorter : length (needs_field gs) < 2 ^ 64 = omega (arith, fits, length-append (minimal (length (needs_field gs))) (needs_field gs)) in
    let same : with_size (needs_field hs) ≡ with_size (needs_field gs) = ap (drop 1) e in
    field_told hs gs a b short shorter (size_told (needs_field hs) (needs_field gs) short shorter same)
