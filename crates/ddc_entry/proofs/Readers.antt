-- Readers undo spellings, and so do those that are put together of them.
use Rattle.std.proofs.Common.{◌≡◌, ℕ, zero, suc, ◌<◌, Bool, true, false, cond, eqb, ◌⊎◌, List, [], ◌∷◌, ◌++◌, length, Option, Some, None, refl, sym, ap, subst, ◌∙◌, append_assoc, inl, inr}
use Rattle.std.specs.Prelude.{slice_index, IfSome}
use Rattle.std.specs.List.{flat_map, AllByRecursion}
use Rattle.std.proofs.lemmas.Bool.{eqb-true}
use Rattle.std.proofs.lemmas.Option.{same_Some}
use Rattle.ddc_entry.specs.Spelling.{optional}
use Rattle.ddc_entry.specs.inside.Reading.{Reader, ◌>>=◌, both, made, tagged, none_at, given, optional_at, many_at, counted_at}

abbrev pub IsBytes : List ℕ → Type 0
IsBytes bytes = (i : ℕ) → slice_index bytes i < 256

-- what a reader takes is spelled at the front, and fits
abbrev pub Takes : {A : Type 0} → Reader A → (A → List ℕ) → (A → Type 0) → Type 0
Takes {A} read spelled Fits = (bytes : List ℕ) (a : A) (rest : List ℕ) → IsBytes bytes → read bytes ≡ Some (a, rest) → (bytes ≡ spelled a ++ rest) × Fits a

-- the same after a tag
abbrev pub TakesBehind : {A : Type 0} → ℕ → Reader A → (A → List ℕ) → (A → Type 0) → Type 0
TakesBehind {A} tag read spelled Fits = (bytes : List ℕ) (a : A) (rest : List ℕ) → IsBytes bytes → read bytes ≡ Some (a, rest) → (tag ∷ bytes ≡ spelled a ++ rest) × Fits a

-- what fits and is spelled at the front is taken, whatever follows
abbrev pub Again : {A : Type 0} → Reader A → (A → List ℕ) → (A → Type 0) → Type 0
Again {A} read spelled Fits = (a : A) (rest : List ℕ) → Fits a → read (spelled a ++ rest) ≡ Some (a, rest)

pub record Undoes {A : Type 0} (read : Reader A) (spelled : A → List ℕ) (Fits : A → Type 0) : Type 0 where
  pub takes : Takes read spelled Fits
  pub again : Again read spelled Fits

-- the value of a step that was made
pub bind_some : {A B : Type 0} (r : Option A) (f : A → Option B) (y : B) → (r >>= f) ≡ Some y → (x : A) × (r ≡ Some x) × (f x ≡ Some y)
bind_some (Some x) f y e = (x, refl, e)
bind_some None f y e = absurd cc

pub back_bytes : (front rest : List ℕ) → IsBytes (front ++ rest) → IsBytes rest
back_bytes [] rest small = small
back_bytes (b ∷ front) rest small = back_bytes front rest (λ i. small (suc i))

pub both_undo : {A B : Type 0} (first : Reader A) (second : Reader B) (p : A → List ℕ) (q : B → List ℕ) (P : A → Type 0) (Q : B → Type 0)
    → Undoes first p P → Undoes second q Q → Undoes (both first second) (λ x. p x.0 ++ q x.1) (λ x. P x.0 × Q x.1)
both_undo {A} {B} first second p q P Q u v = record {
  takes = λ bytes x rest small e.
      let a = bind_some (first bytes) (λ a. second a.1 >>= λ b. Some ((a.0, b.0), b.1)) (x, rest) e in
      let b = bind_some (second a.0.1) (λ b. Some ((a.0.0, b.0), b.1)) (x, rest) a.2 in
      let front = u.takes bytes a.0.0 a.0.1 small a.1 in
      let behind : IsBytes (p a.0.0 ++ a.0.1) = subst (λ (t : List ℕ). IsBytes t) front.0 small in
      let later = v.takes a.0.1 b.0.0 b.0.1 (back_bytes (p a.0.0) a.0.1 behind) b.1 in
      let cut : bytes ≡ (p a.0.0 ++ q b.0.0) ++ b.0.1 = front.0 ∙ ap (λ (t : List ℕ). p a.0.0 ++ t) later.0 ∙ sym (append_assoc (p a.0.0) (q b.0.0) b.0.1) in
      subst (λ (y : (A × B) × List ℕ). (bytes ≡ (p y.0.0 ++ q y.0.1) ++ y.1) × (P y.0.0 × Q y.0.1)) (same_Some ((a.0.0, b.0.0), b.0.1) (x, rest) b.2) (cut, (front.1, later.1));
  again = λ x rest fit.
      ap (both first second) (append_assoc (p x.0) (q x.1) rest) ∙ rw (u.again x.0 (q x.1 ++ rest) fit.0, v.again x.1 rest fit.1) refl;
}

-- a value that is the same as what it is made of
pub made_undoes : {A B : Type 0} (read : Reader A) (p : A → List ℕ) (P : A → Type 0) (build : A → B) (parts : B → A)
    → ((b : B) → build (parts b) ≡ b) → ((a : A) → parts (build a) ≡ a) → Undoes read p P → Undoes (made build read) (λ b. p (parts b)) (λ b. P (parts b))
made_undoes {A} {B} read p P build parts whole back u = record {
  takes = λ bytes b rest small e.
      let a = bind_some (read bytes) (λ a. Some (build a.0, a.1)) (b, rest) e in
      let front = u.takes bytes a.0.0 a.0.1 small a.1 in
      let same : (bytes ≡ p (parts (build a.0.0)) ++ a.0.1) × P (parts (build a.0.0)) = subst (λ (t : A). (bytes ≡ p t ++ a.0.1) × P t) (sym (back a.0.0)) front in
      subst (λ (y : B × List ℕ). (bytes ≡ p (parts y.0) ++ y.1) × P (parts y.0)) (same_Some (build a.0.0, a.0.1) (b, rest) a.2) same;
  again = λ b rest fit. rw (u.again (parts b) rest fit) (ap (λ (t : B). Some (t, rest)) (whole b));
}

-- the same spelling and the same condition in other words
pub recast : {A : Type 0} (read : Reader A) (p q : A → List ℕ) (P Q : A → Type 0)
    → ((a : A) → p a ≡ q a) → ((a : A) → P a → Q a) → ((a : A) → Q a → P a) → Undoes read p P → Undoes read q Q
recast {A} read p q P Q same to from u = record {
  takes = λ bytes a rest small e.
      let front = u.takes bytes a rest small e in
      (subst (λ (t : List ℕ). bytes ≡ t ++ rest) (same a) front.0, to a front.1);
  again = λ a rest fit. ap (λ (t : List ℕ). read (t ++ rest)) (sym (same a)) ∙ u.again a rest (from a fit);
}

-- ---- tags

chosen : {A : Type 0} (b : Bool) (x y z : Option A) → cond b x y ≡ z → ((b ≡ true) × (x ≡ z)) ⊎ (y ≡ z)
chosen true x y z e = inl (refl, e)
chosen false x y z e = inr e

pub nothing_takes : {A : Type 0} (p : A → List ℕ) (P : A → Type 0) → Takes none_at p P
nothing_takes p P bytes a rest small e = absurd cc

pub tagged_takes : {A : Type 0} (tag : ℕ) (read other : Reader A) (p : A → List ℕ) (P : A → Type 0)
    → TakesBehind tag read p P → Takes other p P → Takes (tagged tag read other) p P
tagged_takes tag read other p P first second [] a rest small e = absurd cc
tagged_takes tag read other p P first second (b ∷ bytes) a rest small e =
    elim (chosen (eqb b tag) (read bytes) (other (b ∷ bytes)) (Some (a, rest)) e) [
      | inl here ↦ subst (λ (t : ℕ). (t ∷ bytes ≡ p a ++ rest) × P a) (sym (eqb-true b tag here.0)) (first bytes a rest (λ i. small (suc i)) here.1)
      | inr there ↦ second (b ∷ bytes) a rest small there
    ]

-- a value that a tag alone stands for
pub given_takes : {A : Type 0} (tag : ℕ) (a : A) (p : A → List ℕ) (P : A → Type 0) → p a ≡ tag ∷ [] → P a → TakesBehind tag (given a) p P
given_takes {A} tag a p P spelled fit bytes b rest small e =
    let here : (tag ∷ bytes ≡ p a ++ bytes) × P a = (rw spelled refl, fit) in
    subst (λ (y : A × List ℕ). (tag ∷ bytes ≡ p y.0 ++ y.1) × P y.0) (same_Some (a, bytes) (b, rest) e) here

-- a value that a tag and its parts stand for
pub made_takes : {A B : Type 0} (tag : ℕ) (read : Reader A) (p : A → List ℕ) (P : A → Type 0) (build : A → B) (q : B → List ℕ) (Q : B → Type 0)
    → ((a : A) → q (build a) ≡ tag ∷ p a) → ((a : A) → P a → Q (build a)) → Undoes read p P → TakesBehind tag (made build read) q Q
made_takes {A} {B} tag read p P build q Q spelled fits u bytes b rest small e =
    let a = bind_some (read bytes) (λ a. Some (build a.0, a.1)) (b, rest) e in
    let front = u.takes bytes a.0.0 a.0.1 small a.1 in
    let here : (tag ∷ bytes ≡ q (build a.0.0) ++ a.0.1) × Q (build a.0.0) = (rw (spelled a.0.0) (ap (λ (t : List ℕ). tag ∷ t) front.0), fits a.0.0 front.1) in
    subst (λ (y : B × List ℕ). (tag ∷ bytes ≡ q y.0 ++ y.1) × Q y.0) (same_Some (build a.0.0, a.0.1) (b, rest) a.2) here

pub made_again : {A B : Type 0} (read : Reader A) (p : A → List ℕ) (P : A → Type 0) (build : A → B) → Undoes read p P → (a : A) (rest : List ℕ) → P a → made build read (p a ++ rest) ≡ Some (build a, rest)
made_again read p P build u a rest fit = rw (u.again a rest fit) refl

-- ---- a part that may be absent

optional_again : {A : Type 0} (read : Reader A) (p : A → List ℕ) (P : A → Type 0) → Undoes read p P → Again (optional_at read) (optional p) (λ o. IfSome o P)
unfolding optional_at
optional_again read p P u None rest fit = refl
optional_again read p P u (Some a) rest fit = made_again read p P Some u a rest fit

pub optional_undoes : {A : Type 0} (read : Reader A) (p : A → List ℕ) (P : A → Type 0) → Undoes read p P → Undoes (optional_at read) (optional p) (λ o. IfSome o P)
unfolding optional_at
optional_undoes read p P u = record {
  takes = tagged_takes 0 (given None) (tagged 1 (made Some read) none_at) (optional p) (λ o. IfSome o P)
      (given_takes 0 None (optional p) (λ o. IfSome o P) refl tt)
      (tagged_takes 1 (made Some read) none_at (optional p) (λ o. IfSome o P)
      (made_takes 1 read p P Some (optional p) (λ o. IfSome o P) (λ a. refl) (λ a h. h) u) (nothing_takes (optional p) (λ o. IfSome o P)));
  again = optional_again read p P u;
}

-- ---- several parts

many_take : {A : Type 0} (read : Reader A) (p : A → List ℕ) (P : A → Type 0) → Undoes read p P → (n : ℕ) (bytes : List ℕ) (items : List A) (rest : List ℕ) → IsBytes bytes → many_at read n bytes ≡ Some (items, rest)
    → (bytes ≡ flat_map p items ++ rest) × (length items ≡ n) × AllByRecursion P items
unfolding many_at
many_take {A} read p P u zero bytes items rest small e =
    subst (λ (y : List A × List ℕ). (bytes ≡ flat_map p y.0 ++ y.1) × (length y.0 ≡ 0) × AllByRecursion P y.0) (same_Some ([], bytes) (items, rest) e) (refl, refl, tt)
many_take {A} read p P u (suc n) bytes items rest small e =
    let a = bind_some (read bytes) (λ first. many_at read n first.1 >>= λ others. Some (first.0 ∷ others.0, others.1)) (items, rest) e in
    let b = bind_some (many_at read n a.0.1) (λ others. Some (a.0.0 ∷ others.0, others.1)) (items, rest) a.2 in
    let first = u.takes bytes a.0.0 a.0.1 small a.1 in
    let behind : IsBytes (p a.0.0 ++ a.0.1) = subst (λ (t : List ℕ). IsBytes t) first.0 small in
    let others = many_take read p P u n a.0.1 b.0.0 b.0.1 (back_bytes (p a.0.0) a.0.1 behind) b.1 in
    let cut : bytes ≡ flat_map p (a.0.0 ∷ b.0.0) ++ b.0.1 = first.0 ∙ ap (λ (t : List ℕ). p a.0.0 ++ t) others.0 ∙ sym (append_assoc (p a.0.0) (flat_map p b.0.0) b.0.1) in
    subst (λ (y : List A × List ℕ). (bytes ≡ flat_map p y.0 ++ y.1) × (length y.0 ≡ suc n) × AllByRecursion P y.0) (same_Some (a.0.0 ∷ b.0.0, b.0.1) (items, rest) b.2) (cut, ap suc others.1, (first.1, others.2))

many_again : {A : Type 0} (read : Reader A) (p : A → List ℕ) (P : A → Type 0) → Undoes read p P → (items : List A) (rest : List ℕ) → AllByRecursion P items → many_at read (length items) (flat_map p items ++ rest) ≡ Some (items, rest)
unfolding many_at
many_again read p P u [] rest fit = refl
many_again read p P u (a ∷ items) rest fit =
    ap (many_at read (suc (length items))) (append_assoc (p a) (flat_map p items) rest) ∙ rw (u.again a (flat_map p items ++ rest) fit.0, many_again read p P u items rest fit.1) refl

-- a count and so many parts
pub counted_undo : {A : Type 0} (count : Reader ℕ) (k : ℕ → List ℕ) (K : ℕ → Type 0) (read : Reader A) (p : A → List ℕ) (P : A → Type 0) → Undoes count k K → Undoes read p P
    → Undoes (counted_at count read) (λ items. k (length items) ++ flat_map p items) (λ items. K (length items) × AllByRecursion P items)
unfolding counted_at
counted_undo count k K read p P v u = record {
  takes = λ bytes items rest small e.
      let n = bind_some (count bytes) (λ n. many_at read n.0 n.1) (items, rest) e in
      let front = v.takes bytes n.0.0 n.0.1 small n.1 in
      let behind : IsBytes (k n.0.0 ++ n.0.1) = subst (λ (t : List ℕ). IsBytes t) front.0 small in
      let later = many_take read p P u n.0.0 n.0.1 items rest (back_bytes (k n.0.0) n.0.1 behind) n.2 in
      let cut : bytes ≡ (k n.0.0 ++ flat_map p items) ++ rest = front.0 ∙ ap (λ (t : List ℕ). k n.0.0 ++ t) later.0 ∙ sym (append_assoc (k n.0.0) (flat_map p items) rest) in
      subst (λ (m : ℕ). (bytes ≡ (k m ++ flat_map p items) ++ rest) × (K m × AllByRecursion P items)) (sym later.1) (cut, (front.1, later.2));
  again = λ items rest fit.
      ap (counted_at count read) (append_assoc (k (length items)) (flat_map p items) rest)
      ∙ ap (λ (r : Option (ℕ × List ℕ)). r >>= λ n. many_at read n.0 n.1) (v.again (length items) (flat_map p items ++ rest) fit.0)
      ∙ many_again read p P u items rest fit.1;
}
