-- Hashes and marks by number.
use Rattle.std.specs.Prelude.{◌≡◌, ℕ, zero, suc, ◌+◌, ◌<◌, ◌≤◌, Bool, true, false, cond, List, [], ◌∷◌, ◌++◌, length, take, Err, Option, None, Some, option_map, slice_index_or, refl, ◌⊎◌}
use Rattle.std.proofs.Common.{ap, sym, ◌∙◌, subst, inl, inr, arith, length-append, length-take}
use Rattle.std.proofs.lemmas.Bool.{cases_lt}
use Rattle.std.specs.declared.cmp.Ordering.{Ordering}
use Rattle.std.specs.declared.cmp.Ordering.TheVariants.{Less, Equal, Greater}
use Rattle.std.specs.Ordering.{is_eq}
use Rattle.std.specs.Cmp.{eq_by_cmp_equiv}
use Rattle.std.specs.BTreeMap.{is_at}
use Rattle.ddc_names.specs.declared.hash.IoHash.{IoHash}
use Rattle.ddc_names.specs.Orders.{io_hash_cmp, io_hash_total, io_hash_exact}
use Rattle.cb_fields.specs.declared.links.Link.{Link}
use Rattle.cb_fields.specs.declared.links.LinkKind.{LinkKind}
use Rattle.cb_fields.specs.declared.links.LinkKind.TheVariants.{Object, Binary}
use Rattle.collector.specs.declared.nodes.NodeMark.{NodeMark}
use Rattle.collector.specs.Marks.{white, number_in, mark_at}
use Rattle.std.specs.Ordering.{is_lt, ordering_reverse}
use Rattle.std.specs.List.Sorted.{IsBinarySearchResult}
use Rattle.std.proofs.lemmas.List.{get_or-take}
use Rattle.std.proofs.lemmas.List.Sorted.{searchable_from_sorted}
use Rattle.collector.specs.inside.Tables.{IsNoneOfFirst, AreDistinct, AreAscendingTo}

is_same : (o : Ordering) → is_eq o ≡ true → o ≡ Equal
is_same Less h = absurd (cc)
is_same Equal h = refl
is_same Greater h = absurd (cc)

pub itself : (h : IoHash) → is_at (io_hash_cmp h) h ≡ true
itself h = (eq_by_cmp_equiv io_hash_total).refl h

pub same_hash : (a b : IoHash) → is_at (io_hash_cmp a) b ≡ true → a ≡ b
same_hash a b e = io_hash_exact a b (is_same _ e)

pub same_or_not : (a b : IoHash) → (a ≡ b) ⊎ (a ≡ b → ⊥)
same_or_not a b = split (is_at (io_hash_cmp a) b) refl where
  split : (t : Bool) → is_at (io_hash_cmp a) b ≡ t → (a ≡ b) ⊎ (a ≡ b → ⊥)
  split true e = inl (same_hash a b e)
  split false e = inr (λ same. let t : is_at (io_hash_cmp a) b ≡ true = subst (λ (x : IoHash). is_at (io_hash_cmp a) x ≡ true) same (itself a) in absurd (cc))

-- a number is a place of the hash
pub number_gives : (xs : List IoHash) (h : IoHash) (n : ℕ) (d : IoHash) → number_in xs h ≡ Some n → (n < length xs) × (slice_index_or xs n d ≡ h)
number_gives [] h n d e = absurd (cc)
number_gives (x ∷ xs) h n d e = step (λ m f. number_gives xs h m d f) (is_at (io_hash_cmp h) x) refl (number_in xs h) refl n e where
  step : ((m : ℕ) → number_in xs h ≡ Some m → (m < length xs) × (slice_index_or xs m d ≡ h)) → (b : Bool) → is_at (io_hash_cmp h) x ≡ b → (o : Option ℕ) → number_in xs h ≡ o → (n : ℕ) → cond b (Some 0) (option_map suc o) ≡ Some n → (n < length (x ∷ xs)) × (slice_index_or (x ∷ xs) n d ≡ h)
  step rest true here o is zero r = (omega arith, sym (same_hash h x here))
  step rest true here o is (suc n) r = let e : 0 ≡ suc n = cc in absurd (omega arith)
  step rest false here None is n r = absurd (cc)
  step rest false here (Some m) is zero r = let e : suc m ≡ 0 = cc in absurd (omega arith)
  step rest false here (Some m) is (suc n) r =
      let e : suc m ≡ suc n = cc in
      let same : m ≡ n = omega arith in
      let found : (n < length xs) × (slice_index_or xs n d ≡ h) = rest n (is ∙ ap Some same) in
      (omega (arith, found.0), found.1)

-- a hash that is at no place has no number
pub no_number : (xs : List IoHash) (h : IoHash) → IsNoneOfFirst (length xs) xs h → number_in xs h ≡ None
no_number [] h none = refl
no_number (x ∷ xs) h none =
    ap (λ (b : Bool). cond b (Some 0) (option_map suc (number_in xs h))) (none 0 x (omega arith))
    ∙ ap (option_map suc) (no_number xs h (λ k d lt. none (suc k) d (omega arith)))

-- the first place of a hash is its number
pub first_number : (xs : List IoHash) (h : IoHash) (n : ℕ) (d : IoHash) → n < length xs → IsNoneOfFirst n xs h → is_at (io_hash_cmp h) (slice_index_or xs n d) ≡ true → number_in xs h ≡ Some n
first_number [] h n d lt none e = absurd (omega arith)
first_number (x ∷ xs) h zero d lt none e = ap (λ (b : Bool). cond b (Some 0) (option_map suc (number_in xs h))) e
first_number (x ∷ xs) h (suc n) d lt none e =
    ap (λ (b : Bool). cond b (Some 0) (option_map suc (number_in xs h))) (none 0 x (omega arith))
    ∙ ap (option_map suc) (first_number xs h n d (omega arith) (λ k c below. none (suc k) c (omega arith)) e)

-- ---- one hash more

abbrev pub or_last : Option ℕ → Bool → ℕ → Option ℕ
or_last (Some n) here last = Some n
or_last None here last = cond here (Some last) None

pub number_added : (xs : List IoHash) (y h : IoHash) → number_in (xs ++ y ∷ []) h ≡ or_last (number_in xs h) (is_at (io_hash_cmp h) y) (length xs)
number_added [] y h = refl
number_added (x ∷ xs) y h =
    ap (λ (o : Option ℕ). cond (is_at (io_hash_cmp h) x) (Some 0) (option_map suc o)) (number_added xs y h)
    ∙ step (is_at (io_hash_cmp h) x) (number_in xs h) (is_at (io_hash_cmp h) y) where
      step : (b : Bool) (o : Option ℕ) (t : Bool) → cond b (Some 0) (option_map suc (or_last o t (length xs))) ≡ or_last (cond b (Some 0) (option_map suc o)) t (length (x ∷ xs))
      step true o t = refl
      step false (Some n) t = refl
      step false None true = refl
      step false None false = refl

-- what had a number keeps it
pub kept_number : (xs : List IoHash) (y h : IoHash) (n : ℕ) → number_in xs h ≡ Some n → number_in (xs ++ y ∷ []) h ≡ Some n
kept_number xs y h n e = number_added xs y h ∙ ap (λ (o : Option ℕ). or_last o (is_at (io_hash_cmp h) y) (length xs)) e

-- what is added has the next number
pub last_number : (xs : List IoHash) (y : IoHash) → number_in xs y ≡ None → number_in (xs ++ y ∷ []) y ≡ Some (length xs)
last_number xs y e = number_added xs y y ∙ ap (λ (o : Option ℕ). or_last o (is_at (io_hash_cmp y) y) (length xs)) e ∙ ap (λ (b : Bool). cond b (Some (length xs)) None) (itself y)

-- ---- marks

pub at_white : (ms : List NodeMark) (n : ℕ) → slice_index_or (ms ++ white ∷ []) n white ≡ slice_index_or ms n white
at_white [] zero = refl
at_white [] (suc n) = refl
at_white (m ∷ ms) zero = refl
at_white (m ∷ ms) (suc n) = at_white ms n

-- a white mark at the end changes no mark
pub mark_added : (ms : List NodeMark) (o : Option ℕ) → mark_at (ms ++ white ∷ []) o ≡ mark_at ms o
mark_added ms None = refl
mark_added ms (Some n) = at_white ms n

-- ---- what ascends, and stands once

pub at_front : (xs : List IoHash) (y : IoHash) (k : ℕ) (d : IoHash) → k < length xs → slice_index_or (xs ++ y ∷ []) k d ≡ slice_index_or xs k d
at_front [] y k d lt = absurd (omega arith)
at_front (x ∷ xs) y zero d lt = refl
at_front (x ∷ xs) y (suc k) d lt = at_front xs y k d (omega arith)

pub at_end : (xs : List IoHash) (y : IoHash) (d : IoHash) → slice_index_or (xs ++ y ∷ []) (length xs) d ≡ y
at_end [] y d = refl
at_end (x ∷ xs) y d = at_end xs y d

pub distinct_added : (xs : List IoHash) (y : IoHash) → AreDistinct xs → number_in xs y ≡ None → AreDistinct (xs ++ y ∷ [])
distinct_added xs y distinct none n d lt = split (cases_lt n (length xs)) where
  split : (n < length xs) ⊎ (length xs ≤ n) → number_in (xs ++ y ∷ []) (slice_index_or (xs ++ y ∷ []) n d) ≡ Some n
  split (inl below) =
      subst (λ (h : IoHash). number_in (xs ++ y ∷ []) h ≡ Some n) (sym (at_front xs y n d below)) (kept_number xs y (slice_index_or xs n d) n (distinct n d below))
  split (inr from) =
      let last : n ≡ length xs = omega (arith, length-append xs (y ∷ [])) in
      subst (λ (m : ℕ). number_in (xs ++ y ∷ []) (slice_index_or (xs ++ y ∷ []) m d) ≡ Some m) (sym last)
      (subst (λ (h : IoHash). number_in (xs ++ y ∷ []) h ≡ Some (length xs)) (sym (at_end xs y d)) (last_number xs y none))

-- what a search among those that ascend found
module _ (xs : List IoHash) (s : ℕ) (h : IoHash) (le : s ≤ length xs) where
  not_less : (o : Ordering) → o ≡ Less → is_eq (ordering_reverse o) ≡ false
  not_less o e = ap (λ (p : Ordering). is_eq (ordering_reverse p)) e

  not_greater : (o : Ordering) → o ≡ Greater → is_eq (ordering_reverse o) ≡ false
  not_greater o e = ap (λ (p : Ordering). is_eq (ordering_reverse p)) e

  turned : (x : IoHash) → is_at (io_hash_cmp h) x ≡ is_eq (ordering_reverse (io_hash_cmp x h))
  turned x = ap is_eq (io_hash_total.antisymm h x)

  sorted_front : AreAscendingTo s xs → (k : ℕ) (d : IoHash) → 0 ≤ k → k + 1 < length (take s xs) → is_lt (io_hash_cmp (slice_index_or (take s xs) (k + 1) d) (slice_index_or (take s xs) k d)) ≡ false
  sorted_front asc k d low lt =
      let short : length (take s xs) ≤ s = omega (arith, length-take s xs) in
      rw (get_or-take s xs (k + 1) d (omega arith), get_or-take s xs k d (omega arith)) (asc k d (omega arith))

  placed : (k : ℕ) (d : IoHash) → k < s → (at : ℕ) → (k < at → io_hash_cmp (slice_index_or (take s xs) k d) h ≡ Less) → (at ≤ k → io_hash_cmp (slice_index_or (take s xs) k d) h ≡ Greater) → is_at (io_hash_cmp h) (slice_index_or xs k d) ≡ false
  placed k d lt at less greater = subst (λ (x : IoHash). is_at (io_hash_cmp h) x ≡ false) (get_or-take s xs k d lt) (turned (slice_index_or (take s xs) k d) ∙ split (cases_lt k at)) where
    split : (k < at) ⊎ (at ≤ k) → is_eq (ordering_reverse (io_hash_cmp (slice_index_or (take s xs) k d) h)) ≡ false
    split (inl below) = not_less (io_hash_cmp (slice_index_or (take s xs) k d) h) (less below)
    split (inr from) = not_greater (io_hash_cmp (slice_index_or (take s xs) k d) h) (greater from)

  pub not_in_front : AreAscendingTo s xs → (ys : List IoHash) → ys ≡ xs → (at : ℕ) → IsBinarySearchResult (λ y. io_hash_cmp y h) (take s ys) (Err at) → IsNoneOfFirst s ys h
  not_in_front asc ys e at found = subst (λ (zs : List IoHash). IsBinarySearchResult (λ y. io_hash_cmp y h) (take s zs) (Err at) → IsNoneOfFirst s zs h) (sym e) in_xs found where
    in_xs : IsBinarySearchResult (λ y. io_hash_cmp y h) (take s xs) (Err at) → IsNoneOfFirst s xs h
    in_xs found k d lt =
        let whole : length (take s xs) ≡ s = length-take s xs ∙ omega arith in
        let parted = found (searchable_from_sorted io_hash_total (λ (x : IoHash). x) (take s xs) h (sorted_front asc)) in
        placed k d lt at (λ below. parted.0 k d (omega arith) below) (λ from. parted.1 k d from (omega arith))

  pub found_in_front : AreDistinct xs → (ys : List IoHash) → ys ≡ xs → (n : ℕ) → n < length (take s ys) → ((d : IoHash) → io_hash_cmp (slice_index_or (take s ys) n d) h ≡ Equal) → number_in xs h ≡ Some n
  found_in_front distinct ys e n lt equal = subst (λ (zs : List IoHash). n < length (take s zs) → ((d : IoHash) → io_hash_cmp (slice_index_or (take s zs) n d) h ≡ Equal) → number_in xs h ≡ Some n) (sym e) in_xs lt equal where
    in_xs : n < length (take s xs) → ((d : IoHash) → io_hash_cmp (slice_index_or (take s xs) n d) h ≡ Equal) → number_in xs h ≡ Some n
    in_xs lt equal =
        let whole : length (take s xs) ≡ s = length-take s xs ∙ omega arith in
        let same : slice_index_or xs n h ≡ h = sym (get_or-take s xs n h (omega arith)) ∙ io_hash_exact (slice_index_or (take s xs) n h) h (equal h) in
        subst (λ (x : IoHash). number_in xs x ≡ Some n) same (distinct n h (omega arith))

-- ---- nodes

abbrev pub node_of : LinkKind → IoHash → Link
node_of kind hash = record { kind = kind; hash = hash }

nodes_alike : (k l : LinkKind) (g h : IoHash) → (g ≡ h) ⊎ (g ≡ h → ⊥) → (node_of k g ≡ node_of l h) ⊎ (node_of k g ≡ node_of l h → ⊥)
nodes_alike Object Object g h (inl e) = inl (ap (node_of Object) e)
nodes_alike Object Object g h (inr d) = inr (λ e. d (ap (λ (n : Link). n.hash) e))
nodes_alike Binary Binary g h (inl e) = inl (ap (node_of Binary) e)
nodes_alike Binary Binary g h (inr d) = inr (λ e. d (ap (λ (n : Link). n.hash) e))
nodes_alike Object Binary g h s = inr (λ e. let k : Object ≡ Binary = ap (λ (n : Link). n.kind) e in cc)
nodes_alike Binary Object g h s = inr (λ e. let k : Binary ≡ Object = ap (λ (n : Link). n.kind) e in cc)

pub same_node : (a b : Link) → (a ≡ b) ⊎ (a ≡ b → ⊥)
same_node a b = nodes_alike a.kind b.kind a.hash b.hash (same_or_not a.hash b.hash)

-- ---- what is beyond the marks is white

pub beyond : (ms : List NodeMark) (n : ℕ) → length ms ≤ n → slice_index_or ms n white ≡ white
beyond [] n le = refl
beyond (m ∷ ms) zero le = absurd (omega arith)
beyond (m ∷ ms) (suc n) le = beyond ms n (omega arith)
