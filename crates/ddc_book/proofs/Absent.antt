-- Which of the hashes that are named are absent.
use Rattle.std.specs.Prelude.{◌≡◌, ℕ, ◌+◌, ◌<◌, ◌≤◌, Bool, true, false, not, ◌&&◌, ◌||◌, cond, List, take, length, get_or, Option, None, Some, is_some, IsTrue, ◌↔◌, option_map, refl}
use Rattle.std.proofs.Common.{ap, sym, ◌∙◌}
use Rattle.std.proofs.lemmas.List.{take_all}
use Rattle.std.proofs.lemmas.List.Folds.{list_any_more}
use Rattle.std.specs.BTreeMap.{is_at}
use Rattle.std.specs.BTreeSet.{BTreeSet, contains}
use Rattle.std.specs.Cmp.{eq_by_cmp_equiv}
use Rattle.std.specs.List.Sorted.{IsStrictlySortedBy}
use Rattle.ddc_names.specs.declared.hash.IoHash.{IoHash}
use Rattle.ddc_names.specs.Orders.{io_hash_cmp, io_hash_total}
use Rattle.ddc_model.specs.State.{State, has_blob}
use Rattle.ddc_model.specs.Closure.{has_hash}
use Rattle.ddc_model.specs.Reads.{AreAbsent}
use Rattle.needs_resolver.proofs.Meeting.{tied_same}

-- the first i of the hashes were looked up
abbrev pub IsSought : State → List ℕ → List IoHash → ℕ → BTreeSet IoHash → Type 0
IsSought s space hashes i found = (q : IoHash) → contains io_hash_cmp found q ≡ (has_hash (take i hashes) q && not (has_blob s space q))

with_one : (t a c b : Bool) → (t ≡ true → b ≡ false) → c ≡ (a && not b) → cond t true c ≡ ((a || t) && not b)
with_one true true c false f e = refl
with_one true false c false f e = refl
with_one true a c true f e = let no : true ≡ false = f refl in absurd (cc)
with_one false true c b f e = e
with_one false false c b f e = e

without_one : (t a c b : Bool) → (t ≡ true → b ≡ true) → c ≡ (a && not b) → c ≡ ((a || t) && not b)
without_one true true c true f e = e
without_one true false c true f e = e
without_one true a c false f e = let no : false ≡ true = f refl in absurd (cc)
without_one false true c b f e = e
without_one false false c b f e = e

pub mapped : {A B : Type 0} (f : A → B) (o : Option A) → is_some o ≡ is_some (option_map f o)
mapped f None = refl
mapped f (Some a) = refl

module _ (s : State) (space : List ℕ) (hashes : List IoHash) (i : ℕ) (other : IoHash) (lt : i < length hashes) where
  abbrev hash : IoHash
  hash = get_or hashes i other

  more : (q : IoHash) → has_hash (take (i + 1) hashes) q ≡ (has_hash (take i hashes) q || is_at (io_hash_cmp hash) q)
  more q = list_any_more (is_at (io_hash_cmp q)) hashes i other lt
      ∙ ap (λ (b : Bool). has_hash (take i hashes) q || b) ((eq_by_cmp_equiv io_hash_total).symm q hash)

  pub one_added : (old new : BTreeSet IoHash) → has_blob s space hash ≡ false → ((q : IoHash) → contains io_hash_cmp new q ≡ cond (is_at (io_hash_cmp hash) q) true (contains io_hash_cmp old q))
      → IsSought s space hashes i old → IsSought s space hashes (i + 1) new
  one_added old new gone is before q =
      is q ∙ with_one (is_at (io_hash_cmp hash) q) (has_hash (take i hashes) q) (contains io_hash_cmp old q) (has_blob s space q) (λ t. ap (has_blob s space) (sym (tied_same hash q t)) ∙ gone) (before q)
      ∙ ap (λ (b : Bool). b && not (has_blob s space q)) (sym (more q))

  pub none_added : (found : BTreeSet IoHash) → has_blob s space hash ≡ true → IsSought s space hashes i found → IsSought s space hashes (i + 1) found
  none_added found there before q =
      without_one (is_at (io_hash_cmp hash) q) (has_hash (take i hashes) q) (contains io_hash_cmp found q) (has_blob s space q) (λ t. ap (has_blob s space) (sym (tied_same hash q t)) ∙ there) (before q)
      ∙ ap (λ (b : Bool). b && not (has_blob s space q)) (sym (more q))

pub both_hold : (c a b : Bool) → c ≡ (a && not b) → IsTrue c ↔ (IsTrue a × (b ≡ false))
both_hold true true false e = (λ t. (refl, refl), λ p. refl)
both_hold c true true e = (λ t. absurd (cc), λ p. absurd (cc))
both_hold c false b e = (λ t. absurd (cc), λ p. absurd (cc))
both_hold false true false e = absurd (cc)

pub all_sought : (s : State) (space : List ℕ) (hashes : List IoHash) (i : ℕ) (found : BTreeSet IoHash) (list : List IoHash) → length hashes ≤ i → IsSought s space hashes i found → list ≡ found.keys → IsStrictlySortedBy io_hash_cmp list → AreAbsent s space hashes list
all_sought s space hashes i found list end sought same ordered = record {
  ascending = ordered;
  exactly = λ q. both_hold (has_hash list q) (has_hash hashes q) (has_blob s space q)
      (ap (λ (l : List IoHash). has_hash l q) same ∙ sought q ∙ ap (λ (l : List IoHash). has_hash l q && not (has_blob s space q)) (take_all i hashes end));
}
