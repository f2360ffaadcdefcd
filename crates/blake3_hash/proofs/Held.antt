-- How a message that is taken in piece by piece grows.
use Rattle.std.proofs.Common.{◌≡◌, ℕ, zero, suc, ◌+◌, ◌-◌, ◌*◌, ◌/◌, ◌<◌, ◌≤◌, List, [], ◌∷◌, ◌++◌, length, take, drop, refl, sym, ap, ◌∙◌, arith, length-append}
use Rattle.std.proofs.lemmas.List.{take-append-le, drop-append-le, take_all, drop_all, length-drop, drop-drop, append_assoc, take-append-drop, take_at, append-nil}
use Rattle.std.proofs.lemmas.Slice.{take-put_mid}
use Rattle.tree_hash.specs.TreeHash.{chunk_value, value}
use Rattle.blake3_hash.specs.Spine.{Holds, leaves, spine_root}
use Rattle.blake3_hash.specs.Fed.{IsHeld}
use Rattle.blake3_hash.proofs.Leaves.{leaves_next, leaves_none, spine_root-leaves}
use borrow.Rule.Slice.PartMut.{put_mid, post_of}

pub leaves-append : (k : ℕ) (b d : List ℕ) (n : ℕ) → 1024 * k ≤ length b → leaves k (b ++ d) n ≡ leaves k b n
unfolding leaves
leaves-append zero b d n h = refl
leaves-append (suc k) b d n h =
    let l : length (drop 1024 b) ≡ length b - 1024 = length-drop 1024 b in
    rw (take-append-le 1024 b d (omega arith), drop-append-le 1024 b d (omega arith), leaves-append k (drop 1024 b) d (n + 1) (omega arith)) refl

-- after m
pub drop_behind : (m d : List ℕ) (i j : ℕ) → i ≡ length m + j → drop i (m ++ d) ≡ drop j d
drop_behind m d i j e =
    let a : drop (length m) (m ++ d) ≡ d = drop-append-le (length m) m d (omega arith) ∙ ap (λ (r : List ℕ). r ++ d) (drop_all (length m) m (omega arith)) in
    ap (λ (k : ℕ). drop k (m ++ d)) e ∙ sym (drop-drop j (length m) (m ++ d)) ∙ ap (λ (r : List ℕ). drop j r) a

pub IsHeld_none : (levels : List (List ℕ)) (count : ℕ) (buffer : List ℕ) → count ≡ 0 → Holds levels count [] → IsHeld levels count buffer 0 []
IsHeld_none levels count buffer e h = record {
  len = omega arith;
  some = λ one. absurd (omega arith);
  rest = rw e refl;
  spine = rw (e, leaves_none [] 0) (rw e at h);
}

-- bytes that fit the buffer
pub IsHeld_fits : (levels : List (List ℕ)) (count : ℕ) (buffer : List ℕ) (used j : ℕ) (m d ys : List ℕ) → IsHeld levels count buffer used m → used ≤ length buffer → ys ≡ d
    → IsHeld levels count (put_mid used j buffer ys) (used + length d) (m ++ d)
IsHeld_fits levels count buffer used j m d ys f within e = record {
  len = omega (arith, f.len, length-append m d);
  some = λ one. omega (arith, f.some one);
  rest =
      rw e (take-put_mid used j buffer d (used + length d) refl within)
      ∙ ap (λ (r : List ℕ). r ++ d) f.rest ∙ sym (drop-append-le (1024 * count) m d (omega (arith, f.len)));
  spine = rw (leaves-append count m d 0 (omega (arith, f.len))) f.spine;
}

-- the buffer is filled, and its chunk is the next leaf
pub leaf_filled : (count : ℕ) (buffer : List ℕ) (used : ℕ) (m d full x : List ℕ) → 1024 * count + used ≡ length m → take used buffer ≡ drop (1024 * count) m
    → used + length d ≡ 1024 → full ≡ take used buffer ++ d → x ≡ chunk_value full count 0 → leaves (count + 1) (m ++ d) 0 ≡ leaves count m 0 ++ x ∷ []
leaf_filled count buffer used m d full x len rest fits ef ex =
    let all : drop (1024 * count) (m ++ d) ≡ full = drop-append-le (1024 * count) m d (omega arith) ∙ sym (ef ∙ ap (λ (r : List ℕ). r ++ d) rest) in
    let long : length (drop (1024 * count) (m ++ d)) ≡ 1024 = length-drop (1024 * count) (m ++ d) ∙ omega (arith, length-append m d) in
    let one : take 1024 (drop (1024 * count) (m ++ d)) ≡ full = take_all 1024 (drop (1024 * count) (m ++ d)) (omega arith) ∙ all in
    leaves_next count (m ++ d) x (ex ∙ ap (λ (r : List ℕ). chunk_value r count 0) (sym one))
    ∙ ap (λ (r : List (List ℕ)). r ++ x ∷ []) (leaves-append count m d 0 (omega arith))

-- a whole chunk of d after m is the next leaf
pub leaf_behind : (count k : ℕ) (m d x : List ℕ) → 1024 * count ≡ length m → x ≡ chunk_value (take 1024 (drop (1024 * k) d)) (count + k) 0
    → leaves (count + (k + 1)) (m ++ d) 0 ≡ leaves (count + k) (m ++ d) 0 ++ x ∷ []
leaf_behind count k m d x len ex =
    let n : count + (k + 1) ≡ count + k + 1 = omega arith in
    let at : drop (1024 * (count + k)) (m ++ d) ≡ drop (1024 * k) d = drop_behind m d (1024 * (count + k)) (1024 * k) (omega arith) in
    rw n (leaves_next (count + k) (m ++ d) x (ex ∙ ap (λ (r : List ℕ). chunk_value (take 1024 r) (count + k) 0) (sym at)))

-- the tail of d after m is in the buffer
pub IsHeld_tail : (levels : List (List ℕ)) (count k n j u : ℕ) (buffer m d ys : List ℕ) → n ≡ count + k → 1024 * count ≡ length m → 1024 * k < length d
    → Holds levels n (leaves (count + k) (m ++ d) 0) → ys ≡ drop (1024 * k) d → u ≡ length d - 1024 * k → IsHeld levels n (ys ++ post_of 0 j buffer) u (m ++ d)
IsHeld_tail levels count k n j u buffer m d ys en len below h e eu =
    let l : length (drop (1024 * k) d) ≡ length d - 1024 * k = length-drop (1024 * k) d in
    record {
      len = omega (arith, length-append m d);
      some = λ one. omega arith;
      rest =
          rw (e, en) (take_at (drop (1024 * k) d) (post_of 0 j buffer) u (omega arith)
          ∙ sym (drop_behind m d (1024 * (count + k)) (1024 * k) (omega arith)));
      spine = rw (ap (λ (i : ℕ). leaves i (m ++ d) 0) en) h;
    }

pub filled : (used j : ℕ) (buffer ys d : List ℕ) → length buffer ≤ used + j → ys ≡ d → put_mid used j buffer ys ≡ take used buffer ++ d
filled used j buffer ys d h e =
    let rest : post_of used j buffer ≡ [] = drop_all j (drop used buffer) (omega (arith, length-drop used buffer)) in
    rw (rest, append-nil, e) refl

pub whole_of : (m d : List ℕ) (i : ℕ) → (m ++ take i d) ++ drop i d ≡ m ++ d
whole_of m d i = append_assoc m (take i d) (drop i d) ∙ ap (λ (r : List ℕ). m ++ r) (take-append-drop i d)

count_is : (count used n : ℕ) → 1024 * count + used ≡ n → (1 ≤ count → 1 ≤ used) → used ≤ 1024 → count ≡ (n - 1) / 1024
count_is zero used n e some within = omega arith
count_is (suc count) used n e some within =
    let one : 1 ≤ used = some (omega arith) in
    omega arith

pub IsHeld_root : (levels : List (List ℕ)) (count : ℕ) (buffer : List ℕ) (used : ℕ) (m : List ℕ) → IsHeld levels count buffer used m → used ≤ 1024
    → spine_root (leaves count m 0) (take used buffer) ≡ value m 0 8
IsHeld_root levels count buffer used m f within =
    rw f.rest (spine_root-leaves count m (count_is count used (length m) f.len f.some within))
