-- Listing the loose blobs, one after another.
use Rattle.std.specs.Prelude.{◌≡◌, ℕ, ◌+◌, ◌<◌, ◌≤◌, Bool, true, false, not, ◌&&◌, List, [], ◌∷◌, ◌++◌, length, Option, None, Some, is_some, slice_index_or, refl, ◌⊎◌, ◌↔◌}
use Rattle.std.proofs.Common.{ap, sym, ◌∙◌, subst, inl, inr, arith, length-append}
use Rattle.std.specs.List.{Contains}
use Rattle.std.specs.List.Sorted.{IsStrictlySortedBy}
use Rattle.std.specs.declared.cmp.Ordering.{Ordering}
use Rattle.std.specs.declared.cmp.Ordering.TheVariants.{Less, Equal, Greater}
use Rattle.std.specs.Ordering.{is_lt, ordering_reverse}
use Rattle.std.proofs.lemmas.Bool.{cases_lt}
use Rattle.std.proofs.lemmas.Map.Keys.{Less-from_sorted, sorted_from_all_adjacent}
use Rattle.std.proofs.lemmas.List.Elements.{Contains-get_or, Contains-append_left, Contains-push, Contains-push_cases}
use Rattle.ddc_names.specs.declared.hash.IoHash.{IoHash}
use Rattle.ddc_names.specs.Orders.{io_hash_cmp, io_hash_total, io_hash_exact}
use Rattle.cb_fields.specs.declared.links.LinkKind.TheVariants.{Binary}
use Rattle.ddc_model.specs.declared.rows.Blob.{Blob}
use Rattle.ddc_model.specs.State.{State, blob_at, has_blob}
use Rattle.ddc_state.specs.NextKeys.{is_past, NextBlob}
use Rattle.collector.specs.Marks.{Marks, is_safe, NoneGrey}
use Rattle.collector.specs.Sweeping.{is_loose, AreFirst, AreUnreached}
use Rattle.collector.specs.inside.Sweeps.{IsNextBlob, AreSweptTo, with_loose}
use Rattle.collector.proofs.Lists.{node_of, same_or_not, at_front, at_end}
use Rattle.collector.proofs.Covering.{loose_unreached}

-- ---- hashes in order

is_less : (o : Ordering) → is_lt o ≡ true → o ≡ Less
is_less Less h = refl
is_less Equal h = absurd (cc)
is_less Greater h = absurd (cc)

-- what isn't past a hash is below what is
pub before_past : (last : Option IoHash) (x h : IoHash) → is_past io_hash_cmp last x ≡ false → is_past io_hash_cmp last h ≡ true → io_hash_cmp x h ≡ Less
before_past None x h f t = absurd (cc)
before_past (Some l) x h f t = split (io_hash_cmp l x) refl f where
  split : (o : Ordering) → io_hash_cmp l x ≡ o → is_lt o ≡ false → io_hash_cmp x h ≡ Less
  split Less e g = absurd (cc)
  split Equal e g = subst (λ (y : IoHash). io_hash_cmp y h ≡ Less) (io_hash_exact l x e) (is_less (io_hash_cmp l h) t)
  split Greater e g = io_hash_total.trans x l h (io_hash_total.antisymm x l ∙ ap ordering_reverse e) (is_less (io_hash_cmp l h) t)

-- a hash isn't past one that it is below, nor past itself
pub not_past_greater : (h x : IoHash) → io_hash_cmp x h ≡ Less → is_past io_hash_cmp (Some h) x ≡ false
not_past_greater h x e = ap is_lt (io_hash_total.antisymm h x ∙ ap ordering_reverse e)

tied : (o : Ordering) → o ≡ ordering_reverse o → is_lt o ≡ false
tied Less e = absurd (cc)
tied Equal e = refl
tied Greater e = refl

pub not_past_itself : (h : IoHash) → is_past io_hash_cmp (Some h) h ≡ false
not_past_itself h = tied (io_hash_cmp h h) (io_hash_total.antisymm h h)

-- a hash that isn't past another is that one, or below it
pub below_or_same : (h x : IoHash) → is_past io_hash_cmp (Some h) x ≡ false → (x ≡ h → ⊥) → io_hash_cmp x h ≡ Less
below_or_same h x f d = split (io_hash_cmp h x) refl f where
  split : (o : Ordering) → io_hash_cmp h x ≡ o → is_lt o ≡ false → io_hash_cmp x h ≡ Less
  split Less e g = absurd (cc)
  split Equal e g = absurd (d (sym (io_hash_exact h x e)))
  split Greater e g = io_hash_total.antisymm x h ∙ ap ordering_reverse e

sorted_push : (xs : List IoHash) (y : IoHash) → IsStrictlySortedBy io_hash_cmp xs → ((x : IoHash) → Contains xs x → io_hash_cmp x y ≡ Less) → IsStrictlySortedBy io_hash_cmp (xs ++ y ∷ [])
sorted_push xs y sorted below = sorted_from_all_adjacent io_hash_total (xs ++ y ∷ []) y next where
  next : (k : ℕ) → k + 1 < length (xs ++ y ∷ []) → io_hash_cmp (slice_index_or (xs ++ y ∷ []) k y) (slice_index_or (xs ++ y ∷ []) (k + 1) y) ≡ Less
  next k lt = split (cases_lt (k + 1) (length xs)) where
    long : length (xs ++ y ∷ []) ≡ length xs + 1
    long = length-append xs (y ∷ [])

    split : (k + 1 < length xs) ⊎ (length xs ≤ k + 1) → io_hash_cmp (slice_index_or (xs ++ y ∷ []) k y) (slice_index_or (xs ++ y ∷ []) (k + 1) y) ≡ Less
    split (inl early) =
        ap (λ (h : IoHash). io_hash_cmp h (slice_index_or (xs ++ y ∷ []) (k + 1) y)) (at_front xs y k y (omega arith))
        ∙ ap (io_hash_cmp (slice_index_or xs k y)) (at_front xs y (k + 1) y early)
        ∙ Less-from_sorted io_hash_cmp xs k (k + 1) y sorted (omega arith) early
    split (inr late) =
        let last : k + 1 ≡ length xs = omega (arith, long) in
        ap (λ (h : IoHash). io_hash_cmp h (slice_index_or (xs ++ y ∷ []) (k + 1) y)) (at_front xs y k y (omega arith))
        ∙ ap (λ (n : ℕ). io_hash_cmp (slice_index_or xs k y) (slice_index_or (xs ++ y ∷ []) n y)) last
        ∙ ap (io_hash_cmp (slice_index_or xs k y)) (at_end xs y y)
        ∙ below (slice_index_or xs k y) (Contains-get_or xs k y (omega arith))

sorted_none : IsStrictlySortedBy io_hash_cmp []
sorted_none = sorted_from_all_adjacent io_hash_total [] (record { 0 = [] }) (λ k lt. absurd (omega (arith, lt)))

-- ---- the walk

pub none_swept : (s : State) (c : Marks) → AreSweptTo s c None []
none_swept s c = record { ascending = sorted_none; each = λ h has. absurd (omega (arith, has.1)); all = λ h loose f. absurd (cc) }

and_true : (a b : Bool) → (a && b) ≡ true → a ≡ true
and_true true b e = refl
and_true false b e = absurd (cc)

and_both : (a b : Bool) → a ≡ true → b ≡ true → (a && b) ≡ true
and_both true b e f = f
and_both false b e f = absurd (cc)

loose_is_there : (s : State) (c : Marks) (h : IoHash) → is_loose s c h ≡ true → has_blob s c.space h ≡ true
loose_is_there s c h e = and_true (has_blob s c.space h) (not (is_safe c (node_of Binary h))) e

not_there : (o : Option Blob) → o ≡ None → is_some o ≡ true → ⊥
not_there None e t = cc
not_there (Some b) e t = cc

never : (a : Bool) → (a && false) ≡ false
never true = refl
never false = refl

module _ (s : State) (c : Marks) (last : Option IoHash) (hashes : List IoHash) (hash : IoHash) (next : IsNextBlob s.blobs c.space last hash) (swept : AreSweptTo s c last hashes) where
  -- the blobs up to the next are those up to the last, and the next
  earlier : (h : IoHash) → is_loose s c h ≡ true → is_past io_hash_cmp (Some hash) h ≡ false → (h ≡ hash → ⊥) → is_past io_hash_cmp last h ≡ false
  earlier h loose f d = split (is_past io_hash_cmp last h) refl where
    split : (b : Bool) → is_past io_hash_cmp last h ≡ b → b ≡ false
    split true e = absurd (not_there (blob_at s c.space h) (next.first h e (below_or_same hash h f d)) (loose_is_there s c h loose))
    split false e = refl

  passed : (h : IoHash) → Contains hashes h → is_past io_hash_cmp (Some hash) h ≡ false
  passed h has = not_past_greater hash h (before_past last h hash (swept.each h has).1 next.past)

  swept_by : (b : Bool) → not (is_safe c (node_of Binary hash)) ≡ b → AreSweptTo s c (Some hash) (with_loose b hashes hash)
  swept_by true e = record {
    ascending = sorted_push hashes hash swept.ascending (λ x has. before_past last x hash (swept.each x has).1 next.past);
    each = λ h has. each_more h (Contains-push_cases hashes hash h has);
    all = λ h loose f. all_more h loose f (same_or_not h hash);
  } where
    each_more : (h : IoHash) → Contains hashes h ⊎ (hash ≡ h) → (is_loose s c h ≡ true) × (is_past io_hash_cmp (Some hash) h ≡ false)
    each_more h (inl has) = ((swept.each h has).0, passed h has)
    each_more h (inr same) =
        subst (λ (x : IoHash). (is_loose s c x ≡ true) × (is_past io_hash_cmp (Some hash) x ≡ false)) same
        (and_both (has_blob s c.space hash) (not (is_safe c (node_of Binary hash))) next.there e, not_past_itself hash)

    all_more : (h : IoHash) → is_loose s c h ≡ true → is_past io_hash_cmp (Some hash) h ≡ false → (h ≡ hash) ⊎ (h ≡ hash → ⊥) → Contains (hashes ++ hash ∷ []) h
    all_more h loose f (inl same) = subst (Contains (hashes ++ hash ∷ [])) (sym same) (Contains-push hashes hash)
    all_more h loose f (inr d) = Contains-append_left hashes (hash ∷ []) h (swept.all h loose (earlier h loose f d))
  swept_by false e = record {
    ascending = swept.ascending;
    each = λ h has. ((swept.each h has).0, passed h has);
    all = λ h loose f. swept.all h loose (earlier h loose f (not_it h loose));
  } where
    not_it : (h : IoHash) → is_loose s c h ≡ true → h ≡ hash → ⊥
    not_it h loose same =
        let it : is_loose s c hash ≡ true = subst (λ (x : IoHash). is_loose s c x ≡ true) same loose in
        let none : is_loose s c hash ≡ false = ap (λ (b : Bool). has_blob s c.space hash && b) e ∙ never (has_blob s c.space hash) in
        cc

  pub swept_more : AreSweptTo s c (Some hash) (with_loose (not (is_safe c (node_of Binary hash))) hashes hash)
  swept_more = swept_by (not (is_safe c (node_of Binary hash))) refl

pub one_longer : (b : Bool) (hashes : List IoHash) (hash : IoHash) → length (with_loose b hashes hash) ≤ length hashes + 1
one_longer true hashes hash = let e : length (hashes ++ hash ∷ []) ≡ length hashes + 1 = length-append hashes (hash ∷ []) in omega arith
one_longer false hashes hash = omega arith

-- ---- the end of the walk

pub full_list : (s : State) (c : Marks) (last : Option IoHash) (hashes : List IoHash) (limit : ℕ) → AreSweptTo s c last hashes → length hashes ≡ limit → AreFirst (is_loose s c) limit hashes
full_list s c last hashes limit swept full = record {
  ascending = swept.ascending;
  at_most = omega arith;
  each = λ h has. (swept.each h has).0;
  no_more = λ h loose. split h loose (is_past io_hash_cmp last h) refl;
} where
  split : (h : IoHash) → is_loose s c h ≡ true → (b : Bool) → is_past io_hash_cmp last h ≡ b → Contains hashes h ⊎ ((length hashes ≡ limit) × ((other : IoHash) → Contains hashes other → io_hash_cmp other h ≡ Less))
  split h loose false e = inl (swept.all h loose e)
  split h loose true e = inr (full, λ other has. before_past last other h (swept.each other has).1 e)

pub whole_list : (s : State) (c : Marks) (last : Option IoHash) (hashes : List IoHash) (limit : ℕ) → AreSweptTo s c last hashes → length hashes ≤ limit → NextBlob s.blobs c.space last None → AreFirst (is_loose s c) limit hashes
whole_list s c last hashes limit swept short end = record {
  ascending = swept.ascending;
  at_most = short;
  each = λ h has. (swept.each h has).0;
  no_more = λ h loose. split h loose (is_past io_hash_cmp last h) refl;
} where
  split : (h : IoHash) → is_loose s c h ≡ true → (b : Bool) → is_past io_hash_cmp last h ≡ b → Contains hashes h ⊎ ((length hashes ≡ limit) × ((other : IoHash) → Contains hashes other → io_hash_cmp other h ≡ Less))
  split h loose false e = inl (swept.all h loose e)
  split h loose true e = absurd (not_there (blob_at s c.space h) (end h e) (loose_is_there s c h loose))

-- ---- what a sweep list says

pub unreached_list : (s : State) (c : Marks) (limit : ℕ) (hashes : List IoHash) → NoneGrey c → AreFirst (is_loose s c) limit hashes → AreUnreached s c hashes
unreached_list s c limit hashes none first leased covers hash has kind reached = loose_unreached s leased c covers none hash (first.each hash has) kind reached

pub none_left : (passes : IoHash → Bool) (limit : ℕ) (hashes : List IoHash) → 1 ≤ limit → AreFirst passes limit hashes → (hashes ≡ []) ↔ ((h : IoHash) → passes h ≡ false)
none_left passes limit hashes some first = (forth, back hashes first) where
  forth : hashes ≡ [] → (h : IoHash) → passes h ≡ false
  forth e h = split (passes h) refl where
    short : length hashes ≡ 0
    short = ap (λ (xs : List IoHash). length xs) e

    no_case : Contains hashes h ⊎ ((length hashes ≡ limit) × ((other : IoHash) → Contains hashes other → io_hash_cmp other h ≡ Less)) → ⊥
    no_case (inl has) = omega (arith, has.1, short)
    no_case (inr full) = omega (arith, full.0, short, some)

    split : (b : Bool) → passes h ≡ b → b ≡ false
    split true t = absurd (no_case (first.no_more h t))
    split false t = refl

  back : (xs : List IoHash) → AreFirst passes limit xs → ((h : IoHash) → passes h ≡ false) → xs ≡ []
  back [] first none = refl
  back (x ∷ xs) first none =
      let t : passes x ≡ true = first.each x (0, omega arith, refl) in
      let f : passes x ≡ false = none x in
      absurd (cc)
