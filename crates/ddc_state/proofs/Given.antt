-- What an ordered map reads and writes, as a finite map, for any order that tells all keys apart.
use Rattle.std.specs.Prelude.{◌≡◌, ℕ, zero, suc, ◌+◌, ◌-◌, ◌≤◌, Bool, true, false, cond, if◌then◌else◌, List, [], ◌∷◌, length, Option, None, Some, is_some, refl}
use Rattle.std.proofs.Common.{ap, sym, ◌∙◌, arith}
use Rattle.std.specs.declared.cmp.Ordering.{Ordering}
use Rattle.std.specs.declared.cmp.Ordering.TheVariants.{Less, Equal, Greater}
use Rattle.std.specs.Ordering.{eq_by_cmp, is_eq}
use Rattle.std.specs.Cmp.{IsTotalOrder, eq_by_cmp_equiv}
use Rattle.std.specs.Map.{lookup}
use Rattle.std.specs.BTreeMap.{is_at}
use Rattle.std.specs.FinMap.{FinMap, from_entries, get, insert, remove, find, len, get-from_entries, get-insert, get-remove, get_tied, get-empty, len-insert, len-remove, empty_of_len, same_map}
use Rattle.std.proofs.lemmas.Map.Lookups.{CmpEqualImpliesEq}

tied_equal : (o : Ordering) → is_eq o ≡ true → o ≡ Equal
tied_equal Less e = absurd (cc)
tied_equal Equal e = refl
tied_equal Greater e = absurd (cc)

one_more : (b : Bool) (m old new : ℕ) → m ≡ old → new ≡ old + (if b then 0 else 1) → cond b m (m + 1) ≡ new
one_more true m old new h k = omega arith
one_more false m old new h k = omega arith

module _ {K X : Type 0} (R : K → K → Ordering) (total : IsTotalOrder R) where
  find-lookup : (es : List (K × X)) (q : K) → find R q es ≡ lookup (is_at (R q)) es
  find-lookup [] q = refl
  find-lookup (e ∷ es) q = ap (cond (is_at (R q) e.0) (Some e.1)) (find-lookup es q)

  pub get_read : (es : List (K × X)) (q : K) → get (from_entries {R = R} es) q ≡ lookup (is_at (R q)) es
  get_read es q = get-from_entries total es q ∙ find-lookup es q

  pub one_given : CmpEqualImpliesEq R → (es fs : List (K × X)) (s : K) (n : X) → ((q : K) → lookup (is_at (R q)) fs ≡ cond (is_at (R s) q) (Some n) (lookup (is_at (R q)) es)) → from_entries {R = R} fs ≡ insert (from_entries es) s n
  one_given exact es fs s n h = same_map total exact _ _ (λ q.
      get_read fs q ∙ h q ∙ ap (λ b. cond b (Some n) (lookup (is_at (R q)) es)) ((eq_by_cmp_equiv total).symm s q)
      ∙ sym (get-insert total (from_entries es) s n q ∙ ap (cond (eq_by_cmp R q s) (Some n)) (get_read es q)))

  settled : (m : FinMap R X) (k : K) (v : X) → get m k ≡ None → (q : K) (b : Bool) → eq_by_cmp R q k ≡ b → cond b None (cond b (Some v) (get m q)) ≡ get m q
  settled m k v none q true h = sym none ∙ get_tied total m q k (tied_equal (R q k) h)
  settled m k v none q false h = refl

  -- to take out a key that was just put in gives the map from before
  pub put_undone : CmpEqualImpliesEq R → (m : FinMap R X) (k : K) (v : X) → get m k ≡ None → remove (insert m k v) k ≡ m
  put_undone exact m k v none = same_map total exact _ _ (λ q.
      get-remove total (insert m k v) k q ∙ ap (cond (eq_by_cmp R q k) None) (get-insert total m k v q) ∙ settled m k v none q (eq_by_cmp R q k) refl)

  again : (b : Bool) (v : X) (o : Option X) → cond b (Some v) o ≡ cond b (Some v) (cond b None o)
  again true v o = refl
  again false v o = refl

  -- to put in is to take out first
  pub put_over : CmpEqualImpliesEq R → (m : FinMap R X) (k : K) (v : X) → insert m k v ≡ insert (remove m k) k v
  put_over exact m k v = same_map total exact _ _ (λ q.
      get-insert total m k v q ∙ again (eq_by_cmp R q k) v (get m q)
      ∙ sym (get-insert total (remove m k) k v q ∙ ap (cond (eq_by_cmp R q k) (Some v)) (get-remove total m k q)))

  kept : (m : FinMap R X) (k : K) (v : X) → get m k ≡ Some v → (q : K) (b : Bool) → eq_by_cmp R q k ≡ b → cond b (Some v) (get m q) ≡ get m q
  kept m k v some q true h = sym some ∙ get_tied total m q k (tied_equal (R q k) h)
  kept m k v some q false h = refl

  -- to put in what is there changes nothing
  pub put_same : CmpEqualImpliesEq R → (m : FinMap R X) (k : K) (v : X) → get m k ≡ Some v → insert m k v ≡ m
  put_same exact m k v some = same_map total exact _ _ (λ q. get-insert total m k v q ∙ kept m k v some q (eq_by_cmp R q k) refl)

  over : (b : Bool) (v w : X) (o : Option X) → cond b (Some w) (cond b (Some v) o) ≡ cond b (Some w) o
  over true v w o = refl
  over false v w o = refl

  -- what is put in twice has the second value
  pub put_twice : CmpEqualImpliesEq R → (m : FinMap R X) (k : K) (v w : X) → insert (insert m k v) k w ≡ insert m k w
  put_twice exact m k v w = same_map total exact _ _ (λ q.
      get-insert total (insert m k v) k w q ∙ ap (cond (eq_by_cmp R q k) (Some w)) (get-insert total m k v q) ∙ over (eq_by_cmp R q k) v w (get m q)
      ∙ sym (get-insert total m k w q))

  -- the entries stay one for each key
  pub count_given : (es fs : List (K × X)) (k : K) (v : X) (before : Option X) → from_entries {R = R} fs ≡ insert (from_entries es) k v → before ≡ lookup (is_at (R k)) es
      → length fs ≡ length es + (if is_some before then 0 else 1) → len (from_entries {R = R} es) ≡ length es → len (from_entries {R = R} fs) ≡ length fs
  count_given es fs k v before set was more count =
      ap len set ∙ len-insert total (from_entries es) k v
      ∙ one_more (is_some (get (from_entries {R = R} es) k)) (len (from_entries {R = R} es)) (length es) (length fs) count (more ∙ ap (λ (o : Option X). length es + (if is_some o then 0 else 1)) (was ∙ sym (get_read es k)))

  vanished : (m : FinMap R X) (k : K) → None ≡ get m k → (q : K) (b : Bool) → eq_by_cmp R q k ≡ b → get m q ≡ cond b None (get m q)
  vanished m k none q true h = sym (get_tied total m q k (tied_equal (R q k) h)) ∙ sym none
  vanished m k none q false h = refl

  -- to take out what isn't there changes nothing
  pub none_removed : CmpEqualImpliesEq R → (m : FinMap R X) (k : K) → None ≡ get m k → m ≡ remove m k
  none_removed exact m k none = same_map total exact _ _ (λ q. vanished m k none q (eq_by_cmp R q k) refl ∙ sym (get-remove total m k q))

  -- how many entries there are where one is put in, and where one is taken out, which is one at least
  pub len_given : (m : FinMap R X) (k : K) (v : X) (had : Bool) → had ≡ is_some (get m k) → len (insert m k v) ≡ cond had (len m) (len m + 1)
  len_given m k v had was = len-insert total m k v ∙ ap (λ b. cond b (len m) (len m + 1)) (sym was)

  pub len_taken : (m : FinMap R X) (k : K) (v : X) → Some v ≡ get m k → len (remove m k) ≡ len m - 1
  len_taken m k v some = len-remove total m k ∙ ap (λ (o : Option X). cond (is_some o) (len m - 1) (len m)) (sym some)

  some_counted : (m : FinMap R X) (k : K) (v : X) (n : ℕ) → len m ≡ n → Some v ≡ get m k → 1 ≤ n
  some_counted m k v zero none some = absurd (let empty = ap (λ (m : FinMap R X). get m k) (empty_of_len m none) ∙ get-empty R k in cc)
  some_counted m k v (suc n) count some = omega arith

  pub at_least_one : (m : FinMap R X) (k : K) (v : X) → Some v ≡ get m k → 1 ≤ len m
  at_least_one m k v some = some_counted m k v (len m) refl some
