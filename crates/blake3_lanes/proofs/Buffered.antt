-- The bytes in the buffer are the message's, from the spine's chunks on.
use Rattle.std.proofs.Common.{◌≡◌, ℕ, zero, suc, ◌+◌, ◌-◌, ◌*◌, ◌/◌, ◌<◌, ◌≤◌, List, [], ◌∷◌, ◌++◌, length, take, drop, slice_index_or, slice_set, sym, ap, ◌∙◌, arith, add-one}
use Rattle.std.proofs.lemmas.List.{drop-drop, drop-take, get_or-take, get_or_push, length-drop, length-take-le, take-take, take_all, take_more_set}
use Rattle.tree_hash.specs.TreeHash.{chunk_value}
use Rattle.blake3_hash.specs.Spine.{leaves}
use Rattle.blake3_hash.proofs.Leaves.{leaves-snoc, length-leaves}
use Rattle.blake3_lanes.proofs.Groups.{first_leaves, leaves_add, leaves_front}

-- k whole chunks, and one more that may be short
pub short_last : (k used n : ℕ) (b : List ℕ) (v : List (List ℕ)) (x : List ℕ) → used ≤ length b → 1024 * k ≤ used → used ≤ 1024 * k + 1024
    → k < length v → take k v ≡ leaves k b n → x ≡ chunk_value (take (used - 1024 * k) (drop (1024 * k) b)) (n + k) 0
    → take (k + 1) (slice_set v k x) ≡ leaves (k + 1) (take used b) n
short_last k used n b v x within low high lt front e =
    let rest : List ℕ = drop (1024 * k) (take used b) in
    let long : length rest ≡ used - 1024 * k = length-drop (1024 * k) (take used b) ∙ omega (arith, length-take-le used b within) in
    let at : rest ≡ take (used - 1024 * k) (drop (1024 * k) b) =
    ap (λ (i : ℕ). drop (1024 * k) (take i b)) (omega arith) ∙ drop-take (1024 * k) (used - 1024 * k) b in
    let whole : take 1024 rest ≡ take (used - 1024 * k) (drop (1024 * k) b) = take_all 1024 rest (omega arith) ∙ at in
    take_more_set v k x lt
    ∙ rw (front, e, ← whole, ← leaves_front k used b n low, add-one) (sym (leaves-snoc k (take used b) n))

-- those before the last of k + 1
pub values_before : (k n : ℕ) (d : List ℕ) (v : List (List ℕ)) → take (k + 1) v ≡ leaves (k + 1) d n → take k v ≡ leaves k d n
values_before k n d v e =
    sym (take-take k (k + 1) v (omega arith)) ∙ first_leaves k (k + 1) d n (take (k + 1) v) (omega arith) e

-- and the last
pub last_value : (k n : ℕ) (d : List ℕ) (v : List (List ℕ)) → k < length v → length d ≤ 1024 * k + 1024 → take (k + 1) v ≡ leaves (k + 1) d n
    → slice_index_or v k [] ≡ chunk_value (drop (1024 * k) d) (n + k) 0
last_value k n d v lt short e =
    let rest : List ℕ = drop (1024 * k) d in
    let whole : take 1024 rest ≡ rest = take_all 1024 rest (omega (arith, length-drop (1024 * k) d)) in
    let more : leaves (k + 1) d n ≡ leaves k d n ++ chunk_value rest (n + k) 0 ∷ [] = rw (add-one, ← whole) (leaves-snoc k d n) in
    sym (get_or-take (k + 1) v k [] (omega arith))
    ∙ ap (λ (r : List (List ℕ)). slice_index_or r k []) (e ∙ more)
    ∙ get_or_push (leaves k d n) (chunk_value rest (n + k) 0) [] k (length-leaves k d n)

-- the message from chunk count on
pub leaves_on : (count k : ℕ) (m : List ℕ) → leaves (count + k) m 0 ≡ leaves count m 0 ++ leaves k (drop (1024 * count) m) count
leaves_on count k m =
    let z : 0 + count ≡ count = omega arith in
    leaves_add count k m 0 ∙ ap (λ (i : ℕ). leaves count m 0 ++ leaves k (drop (1024 * count) m) i) z

pub drop_on : (count k : ℕ) (m : List ℕ) → drop (1024 * k) (drop (1024 * count) m) ≡ drop (1024 * (count + k)) m
drop_on count k m = drop-drop (1024 * k) (1024 * count) m ∙ ap (λ (i : ℕ). drop i m) (omega arith)

-- the whole chunks before the last
pub whole_is : (count used whole n : ℕ) → 1024 * count + used ≡ n → (1 ≤ count → 1 ≤ used) → whole ≡ (used - 1) / 1024 → count + whole ≡ (n - 1) / 1024
whole_is zero used whole n e some w = omega arith
whole_is (suc count) used whole n e some w =
    let one : 1 ≤ used = some (omega arith) in
    omega arith
