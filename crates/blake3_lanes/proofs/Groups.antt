-- Eight chunk values are eight leaves more.
use Rattle.std.proofs.Common.{◌≡◌, ℕ, zero, suc, ◌+◌, ◌-◌, ◌*◌, ◌<◌, ◌≤◌, List, [], ◌∷◌, ◌++◌, length, take, drop, slice_index_or, refl, sym, ap, ◌∙◌, inl, inr, arith, add-zero}
use Rattle.std.proofs.lemmas.List.{drop-append-le, drop-drop, take-append-le, take-take, take_all}
use Rattle.std.proofs.lemmas.Bool.{cases_lt}
use Rattle.std.proofs.Math.Seq.{take-append-add}
use Rattle.tree_hash.specs.TreeHash.{chunk_value}
use Rattle.blake3_hash.specs.Spine.{leaves}
use Rattle.blake3_hash.proofs.Leaves.{length-leaves, take-leaves}
use Rattle.blake3_hash.proofs.Held.{drop_behind, leaves-append}

pub rows_leaves : (k : ℕ) (rows : List (List ℕ)) (b : List ℕ) (n : ℕ) → length rows ≡ k
    → ((j : ℕ) → j < k → slice_index_or rows j [] ≡ chunk_value (take 1024 (drop (1024 * j) b)) (n + j) 0) → rows ≡ leaves k b n
unfolding leaves
rows_leaves zero [] b n len h = refl
rows_leaves zero (r ∷ rows) b n len h = absurd (omega arith)
rows_leaves (suc k) [] b n len h = absurd (omega arith)
rows_leaves (suc k) (r ∷ rows) b n len h =
    let first : r ≡ chunk_value (take 1024 b) n 0 = rw add-zero at (h 0 (omega arith)) in
    let others : rows ≡ leaves k (drop 1024 b) (n + 1) =
    rows_leaves k rows (drop 1024 b) (n + 1) (omega arith) (λ j lt.
    let e : 1024 * suc j ≡ 1024 + 1024 * j = omega arith in
    let g : n + suc j ≡ n + 1 + j = omega arith in
    rw (drop-drop (1024 * j) 1024 b, ← e, ← g) (h (suc j) (omega arith))) in
    rw (first, others) refl

pub leaves_add : (i k : ℕ) (b : List ℕ) (n : ℕ) → leaves (i + k) b n ≡ leaves i b n ++ leaves k (drop (1024 * i) b) (n + i)
unfolding leaves
leaves_add zero k b n =
    let z : 0 + k ≡ k = omega arith in
    rw (z, add-zero) refl
leaves_add (suc i) k b n =
    let s : suc i + k ≡ suc (i + k) = omega arith in
    let e : 1024 * suc i ≡ 1024 + 1024 * i = omega arith in
    let g : n + suc i ≡ n + 1 + i = omega arith in
    rw (s, e, g, ← drop-drop (1024 * i) 1024 b)
    (ap (λ (r : List (List ℕ)). chunk_value (take 1024 b) n 0 ∷ r) (leaves_add i k (drop 1024 b) (n + 1)))

-- k leaves lie in the first k chunks
pub leaves_within : (k : ℕ) (b : List ℕ) (n : ℕ) → leaves k (take (1024 * k) b) n ≡ leaves k b n
leaves_within k b n = sym (take-leaves k k b n (omega arith)) ∙ take_all k (leaves k b n) (omega (arith, length-leaves k b n))

-- of the first bytes
pub leaves_front : (k len : ℕ) (b : List ℕ) (n : ℕ) → 1024 * k ≤ len → leaves k (take len b) n ≡ leaves k b n
leaves_front k len b n h =
    sym (leaves_within k (take len b) n)
    ∙ ap (λ (r : List ℕ). leaves k r n) (take-take (1024 * k) len b h)
    ∙ leaves_within k b n

-- the first of some leaves
pub first_leaves : (k i : ℕ) (b : List ℕ) (n : ℕ) (rows : List (List ℕ)) → k ≤ i → rows ≡ leaves i b n → take k rows ≡ leaves k b n
first_leaves k i b n rows h e = rw e (take-leaves k i b n h ∙ leaves_within k b n)

-- the first k of four values and four more
pub halves_leaves : (k i j : ℕ) (front back : List (List ℕ)) (b : List ℕ) (n : ℕ) → length front ≡ 4 → (k ≤ 4 → i ≡ k) × (4 < k → i ≡ 4) → j ≡ k - 4
    → take i front ≡ leaves i (take 4096 b) n → take j back ≡ leaves j (drop 4096 b) (n + 4) → take k (front ++ back) ≡ leaves k b n
halves_leaves k i j front back b n len ei ej hf hb = elim (cases_lt 4 k) [
  | inl lt ↦
      let four : i ≡ 4 = ei.1 lt in
      let more : k ≡ 4 + j = omega arith in
      let f : front ≡ leaves 4 b n = sym (take_all 4 front (omega arith)) ∙ (rw four at hf) ∙ leaves_front 4 4096 b n (omega arith) in
      let both : take (4 + j) (front ++ back) ≡ front ++ take j back = rw len at (take-append-add front back j) in
      rw more (both ∙ rw (f, hb) (sym (leaves_add 4 j b n)))
  | inr le ↦
      let same : i ≡ k = ei.0 le in
      take-append-le k front back (omega arith) ∙ (rw same at hf) ∙ leaves_front k 4096 b n (omega arith)
]

-- four values and four more
pub eight_leaves : (front back : List (List ℕ)) (b : List ℕ) (n : ℕ) → length front ≡ 4 → length back ≡ 4
    → ((j : ℕ) → j < 4 → slice_index_or front j [] ≡ chunk_value (take 1024 (drop (1024 * j) (take 4096 b))) (n + j) 0)
    → ((j : ℕ) → j < 4 → slice_index_or back j [] ≡ chunk_value (take 1024 (drop (1024 * j) (drop 4096 b))) (n + 4 + j) 0)
    → front ++ back ≡ leaves 8 b n
eight_leaves front back b n lf lb hf hb =
    let f : front ≡ leaves 4 b n = rows_leaves 4 front (take 4096 b) n lf hf ∙ leaves_within 4 b n in
    let g : back ≡ leaves 4 (drop 4096 b) (n + 4) = rows_leaves 4 back (drop 4096 b) (n + 4) lb hb in
    rw (f, g) (sym (leaves_add 4 4 b n))

-- the next eight, from the bytes that begin with their chunks
leaves_group : (count : ℕ) (m rest : List ℕ) (rows : List (List ℕ)) → drop (1024 * count) m ≡ rest → rows ≡ leaves 8 (take 8192 rest) count
    → leaves (count + 8) m 0 ≡ leaves count m 0 ++ rows
leaves_group count m rest rows at e =
    let z : 0 + count ≡ count = omega arith in
    leaves_add count 8 m 0
    ∙ ap (λ (r : List (List ℕ)). leaves count m 0 ++ r) (rw (at, z) refl ∙ sym (leaves_within 8 rest count) ∙ sym e)

-- eight whole chunks of d after m are the next eight leaves
pub group_after : (count k : ℕ) (m d : List ℕ) (rows : List (List ℕ)) → 1024 * count ≡ length m
    → rows ≡ leaves 8 (take 8192 (drop (8192 * k) d)) (count + 8 * k)
    → leaves (count + 8 * (k + 1)) (m ++ d) 0 ≡ leaves (count + 8 * k) (m ++ d) 0 ++ rows
group_after count k m d rows len e =
    let n : count + 8 * (k + 1) ≡ count + 8 * k + 8 = omega arith in
    rw n (leaves_group (count + 8 * k) (m ++ d) (drop (8192 * k) d) rows (drop_behind m d (1024 * (count + 8 * k)) (8192 * k) (omega arith)) e)

-- the buffer is filled, and its chunks are the next eight leaves
pub group_filled : (count : ℕ) (buffer : List ℕ) (used : ℕ) (m d full : List ℕ) (rows : List (List ℕ)) → 1024 * count + used ≡ length m
    → take used buffer ≡ drop (1024 * count) m → length full ≡ 8192 → full ≡ take used buffer ++ d → rows ≡ leaves 8 full count
    → leaves (count + 8) (m ++ d) 0 ≡ leaves count m 0 ++ rows
group_filled count buffer used m d full rows len rest fits ef er =
    let all : drop (1024 * count) (m ++ d) ≡ full = drop-append-le (1024 * count) m d (omega arith) ∙ sym (ef ∙ ap (λ (r : List ℕ). r ++ d) rest) in
    leaves_group count (m ++ d) full rows all (er ∙ ap (λ (r : List ℕ). leaves 8 r count) (sym (take_all 8192 full (omega arith))))
    ∙ ap (λ (r : List (List ℕ)). r ++ rows) (leaves-append count m d 0 (omega arith))
