-- That the definitions give one answer, and that a whole closure stays whole.
use Rattle.std.specs.Prelude.{◌≡◌, ℕ, zero, suc, Bool, true, false, ◌||◌, List, [], ◌∷◌, Option, None, Some, refl}
use Rattle.std.proofs.Common.{ap, sym, ◌∙◌, subst}
use Rattle.std.specs.List.{list_any, AllByRecursion}
use Rattle.std.specs.List.Sorted.{IsStrictlySortedBy}
use Rattle.std.specs.BTreeMap.{is_at}
use Rattle.std.specs.Cmp.{both_ways}
use Rattle.std.specs.Ordering.{is_eq, ordering_reverse}
use Rattle.std.specs.declared.cmp.Ordering.{Ordering}
use Rattle.std.specs.declared.cmp.Ordering.TheVariants.{Less, Equal, Greater}
use Rattle.std.proofs.lemmas.Map.Keys.{sorted_head, sorted_tail}
use Rattle.ddc_names.specs.declared.hash.IoHash.{IoHash}
use Rattle.ddc_names.specs.Orders.{io_hash_cmp, io_hash_exact, io_hash_total}
use Rattle.cb_fields.specs.declared.links.Link.{Link}
use Rattle.cb_fields.proofs.Theorems.{one_object}
use Rattle.ddc_model.specs.Content.{Content, AreLinksOf}
use Rattle.ddc_model.specs.Closure.{Links, object, LeadsTo, LeadsToIn, IsReached, has_hash, IsWhole}
use Rattle.ddc_model.specs.Laws.{OneContent, OneListOfNeeds, WholeStaysWhole}

-- ---- contents

same_read : (bytes : List ℕ) (is_object other : Bool) (links others : List Link) → AreLinksOf bytes is_object links → AreLinksOf bytes other others → (is_object ≡ other) × (links ≡ others)
same_read bytes true true links others a b = (refl, one_object bytes links others a b)
same_read bytes true false links others a b = absurd (b.0 links a)
same_read bytes false true links others a b = absurd (a.0 others b)
same_read bytes false false links others a b = (refl, a.1 ∙ sym b.1)

pub content_once : OneContent
content_once content other e c d =
    let same = same_read other.bytes content.is_object other.is_object content.links other.links (subst (λ (bytes : List ℕ). AreLinksOf bytes content.is_object content.links) e c) d in
    ap (λ (p : List ℕ × (Bool × List Link)). let made : Content = record { bytes = p.0; is_object = p.1.0; links = p.1.1 } in made) (λ i. (e i, (same.0 i, same.1 i)))

-- ---- lists of needs

less_is_no_tie : (o : Ordering) → o ≡ Less → is_eq o ≡ false
less_is_no_tie Less e = refl
less_is_no_tie Equal e = absurd (cc)
less_is_no_tie Greater e = absurd (cc)

tie : (o : Ordering) → is_eq o ≡ true → o ≡ Equal
tie Less e = absurd (cc)
tie Equal e = refl
tie Greater e = absurd (cc)

neither : (a b : Bool) → a ≡ false → b ≡ false → (a || b) ≡ false
neither true b e f = absurd (cc)
neither false b e f = f

below_all : (x : IoHash) (ys : List IoHash) → AllByRecursion (λ y. io_hash_cmp x y ≡ Less) ys → has_hash ys x ≡ false
below_all x [] all = refl
below_all x (y ∷ ys) all = neither _ _ (less_is_no_tie _ all.0) (below_all x ys all.1)

lower : (x y : IoHash) (ys : List IoHash) → io_hash_cmp x y ≡ Less → AllByRecursion (λ z. io_hash_cmp y z ≡ Less) ys → AllByRecursion (λ z. io_hash_cmp x z ≡ Less) ys
lower x y [] l all = all
lower x y (z ∷ zs) l all = (io_hash_total.trans x y z l all.0, lower x y zs l all.1)

pub itself : (x : IoHash) (ys : List IoHash) → has_hash (x ∷ ys) x ≡ true
itself x ys = first (io_hash_cmp x x) (io_hash_total.antisymm x x) where
  first : (o : Ordering) → o ≡ ordering_reverse o → (is_eq o || list_any (is_at (io_hash_cmp x)) ys) ≡ true
  first Less e = absurd (cc)
  first Equal e = refl
  first Greater e = absurd (cc)

abbrev SameHashes : List IoHash → List IoHash → Type 0
SameHashes xs ys = (hash : IoHash) → has_hash xs hash ≡ has_hash ys hash

is_not : (b : Bool) → b ≡ true → b ≡ false → ⊥
is_not b e f = let g : true ≡ false = sym e ∙ f in cc

-- after a shared first hash the same hashes follow
same_behind : (x : IoHash) (xs ys : List IoHash) → AllByRecursion (λ y. io_hash_cmp x y ≡ Less) xs → AllByRecursion (λ y. io_hash_cmp x y ≡ Less) ys → SameHashes (x ∷ xs) (x ∷ ys) → SameHashes xs ys
same_behind x xs ys below above same hash = split (io_hash_cmp hash x) refl where
  either : (b c d : Bool) → b ≡ false → (b || c) ≡ (b || d) → c ≡ d
  either true c d e f = absurd (cc)
  either false c d e f = f

  split : (o : Ordering) → io_hash_cmp hash x ≡ o → has_hash xs hash ≡ has_hash ys hash
  split Less e = either (is_eq (io_hash_cmp hash x)) _ _ (ap is_eq e) (same hash)
  split Greater e = either (is_eq (io_hash_cmp hash x)) _ _ (ap is_eq e) (same hash)
  split Equal e = subst (λ (h : IoHash). has_hash xs h ≡ has_hash ys h) (sym (io_hash_exact hash x e)) (below_all x xs below ∙ sym (below_all x ys above))

pub same_lists : (xs ys : List IoHash) → IsStrictlySortedBy io_hash_cmp xs → IsStrictlySortedBy io_hash_cmp ys → SameHashes xs ys → xs ≡ ys
same_lists [] [] s t same = refl
same_lists [] (y ∷ ys) s t same = absurd (is_not _ (itself y ys) (sym (same y)))
same_lists (x ∷ xs) [] s t same = absurd (is_not _ (itself x xs) (same x))
same_lists (x ∷ xs) (y ∷ ys) s t same = split (io_hash_cmp x y) refl (same_lists xs ys (sorted_tail io_hash_cmp x xs s) (sorted_tail io_hash_cmp y ys t)) where
  split : (o : Ordering) → io_hash_cmp x y ≡ o → (SameHashes xs ys → xs ≡ ys) → x ∷ xs ≡ y ∷ ys
  split Less e rest = absurd (is_not _ (itself x xs) (same x ∙ neither _ _ (less_is_no_tie _ e) (below_all x ys (lower x y ys e (sorted_head io_hash_cmp y ys t)))))
  split Greater e rest =
      let f : io_hash_cmp y x ≡ Less = io_hash_total.antisymm y x ∙ ap ordering_reverse e in
      absurd (is_not _ (itself y ys) (sym (same y) ∙ neither _ _ (less_is_no_tie _ f) (below_all y xs (lower y x xs f (sorted_head io_hash_cmp x xs s)))))
  split Equal e rest =
      let first : x ≡ y = io_hash_exact x y e in
      let behind : SameHashes xs ys = same_behind x xs ys (sorted_head io_hash_cmp x xs s)
      (subst (λ (h : IoHash). AllByRecursion (λ z. io_hash_cmp h z ≡ Less) ys) (sym first) (sorted_head io_hash_cmp y ys t))
      (subst (λ (h : IoHash). SameHashes (x ∷ xs) (h ∷ ys)) (sym first) same) in
      let behind_both : xs ≡ ys = rest behind in
      λ i. first i ∷ behind_both i

pub needs_once : OneListOfNeeds
needs_once links root needs others a b = same_lists needs others a.ascending b.ascending
    (λ hash. both_ways _ _ (λ e. (b.exactly hash).1 ((a.exactly hash).0 e)) (λ e. (a.exactly hash).1 ((b.exactly hash).0 e)))

-- ---- a closure that grows no more

no_some : {A : Type 0} (o : Option A) (x : A) → o ≡ None → o ≡ Some x → ⊥
no_some o x e f = let g : None ≡ Some x = sym e ∙ f in cc

-- what is reached has the same links as before
module _ (links others : Links) (root : IoHash) (same : (node : Link) → IsReached links root node → others node.hash ≡ links node.hash) (whole : IsWhole links root) where
  walk_back : (node : Link) (n : ℕ) → LeadsToIn others (object root) node n → LeadsToIn links (object root) node n
  walk_back node zero w = w
  walk_back node (suc n) w =
      let before : Link = w.0 in
      let walked : LeadsToIn links (object root) before n = walk_back before n w.1 in
      let leads : LeadsTo others before node = w.2 in
      (before, walked, (leads.0, leads.1, sym (same before (n, walked)) ∙ leads.2, leads.3))

  pub whole_where_same : IsWhole others root
  whole_where_same hash missing =
      let node : Link = record { kind = missing.1; hash = hash } in
      let reached : IsReached links root node = (missing.2.0, walk_back node missing.2.0 missing.2.1) in
      whole hash (sym (same node reached) ∙ missing.0, missing.1, reached)

-- what is reached isn't a blob that is new
pub still_whole : (links others : Links) (root new : IoHash) → links new ≡ None → ((hash : IoHash) → (hash ≡ new → ⊥) → others hash ≡ links hash) → IsWhole links root → IsWhole others root
still_whole links others root new none same whole =
    whole_where_same links others root (λ node reached. same node.hash (λ e. whole node.hash (ap links e ∙ none, node.kind, reached))) whole

pub whole_stays : WholeStaysWhole
whole_stays links others root new none same whole = still_whole links others root new none same whole
