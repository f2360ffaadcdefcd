-- A file that is cut at a gate, and what a write before, at or after the gate leaves.
use Rattle.std.proofs.Common.{◌≡◌, ℕ, ◌+◌, ◌-◌, ◌≤◌, List, [], ◌∷◌, ◌++◌, length, take, drop, refl, sym, ◌∙◌, ap, arith, append_assoc, length-append}
use Rattle.std.proofs.lemmas.List.{take_at, drop_at, append-nil}
use Rattle.std.specs.Prelude.{replicate}
use Rattle.ddc_disk.specs.Disk.{Torn, overwritten}

-- a list of one
one : (xs : List ℕ) → length xs ≡ 1 → (x : ℕ) × (xs ≡ x ∷ [])
one [] is = absurd (omega arith)
one (x ∷ []) is = (x, refl)
one (x ∷ y ∷ xs) is = absurd (omega arith)

no_gap : (xs : List ℕ) (at : ℕ) → at ≤ length xs → replicate {A = ℕ} (at - length xs) 0 ≡ []
no_gap xs at le = let none : at - length xs ≡ 0 = omega arith in ap (λ (k : ℕ). replicate {A = ℕ} k 0) none

module _ (front inner : List ℕ) (gate end : ℕ) (place : end ≡ length front) (file : List ℕ) (split : file ≡ front ++ gate ∷ inner) where
  pub long : length file ≡ end + 1 + length inner
  long = omega (arith, place, ap length split, length-append front (gate ∷ inner))

  upto_gate : take (end + 1) file ≡ front ++ gate ∷ []
  upto_gate =
      ap (λ (l : List ℕ). take (end + 1) l) (split ∙ sym (append_assoc front (gate ∷ []) inner))
      ∙ take_at (front ++ gate ∷ []) inner (end + 1) (omega (arith, place, length-append front (gate ∷ [])))

  behind_gate : drop (end + 1) file ≡ inner
  behind_gate =
      ap (λ (l : List ℕ). drop (end + 1) l) (split ∙ sym (append_assoc front (gate ∷ []) inner))
      ∙ drop_at (front ++ gate ∷ []) inner (end + 1) (omega (arith, place, length-append front (gate ∷ [])))

  before_gate : take end file ≡ front
  before_gate = ap (λ (l : List ℕ). take end l) split ∙ take_at front (gate ∷ inner) end (sym place)

  from_gate : drop end file ≡ gate ∷ inner
  from_gate = ap (λ (l : List ℕ). drop end l) split ∙ drop_at front (gate ∷ inner) end (sym place)

  -- a write after the gate
  pub torn_behind : (n : ℕ) (new : List ℕ) → Torn (end + 1) n file new → (other : List ℕ) × (new ≡ front ++ gate ∷ other)
  torn_behind n new torn =
      let tail = drop (end + 1 + n) file in (
        torn.middle ++ tail,
        torn.parts ∙ ap (λ (l : List ℕ). l ++ torn.middle ++ tail) upto_gate ∙ append_assoc (front ++ gate ∷ []) torn.middle tail
            ∙ append_assoc front (gate ∷ []) (torn.middle ++ tail),
      )

  pub written_behind : (bytes : List ℕ) → overwritten file (end + 1) bytes ≡ front ++ gate ∷ (bytes ++ drop (end + 1 + length bytes) file)
  written_behind bytes =
      let tail = drop (end + 1 + length bytes) file in
      ap (λ (l : List ℕ). take (end + 1) file ++ l ++ bytes ++ tail) (no_gap file (end + 1) (omega (arith, long)))
      ∙ ap (λ (l : List ℕ). l ++ bytes ++ tail) (append-nil (take (end + 1) file) ∙ upto_gate)
      ∙ append_assoc (front ++ gate ∷ []) bytes tail
      ∙ append_assoc front (gate ∷ []) (bytes ++ tail)

  -- a write of the gate
  pub torn_gate : (new : List ℕ) → Torn end 1 file new → (b : ℕ) × (new ≡ front ++ b ∷ inner)
  torn_gate new torn =
      let whole : new ≡ front ++ torn.middle ++ inner = torn.parts ∙ ap (λ (l : List ℕ). l ++ torn.middle ++ drop (end + 1) file) before_gate ∙ ap (λ (l : List ℕ). front ++ torn.middle ++ l) behind_gate in
      let size : length torn.middle ≡ 1 = omega (arith, torn.no_shorter, torn.no_longer, long, ap length whole, length-append (front ++ torn.middle) inner, length-append front torn.middle, place) in
      let single = one torn.middle size in
      (single.0, whole ∙ ap (λ (l : List ℕ). front ++ l ++ inner) single.1 ∙ append_assoc front (single.0 ∷ []) inner)

  pub written_gate : (b : ℕ) → overwritten file end (b ∷ []) ≡ front ++ b ∷ inner
  written_gate b =
      ap (λ (l : List ℕ). take end file ++ l ++ (b ∷ []) ++ drop (end + 1) file) (no_gap file end (omega (arith, long)))
      ∙ ap (λ (l : List ℕ). l ++ (b ∷ []) ++ drop (end + 1) file) (append-nil (take end file) ∙ before_gate)
      ∙ ap (λ (l : List ℕ). front ++ (b ∷ []) ++ l) behind_gate
      ∙ append_assoc front (b ∷ []) inner

  -- a write of all that stands before the gate
  pub torn_head : (new : List ℕ) → Torn 0 end file new → (other : List ℕ) × (length other ≡ end) × (new ≡ other ++ gate ∷ inner)
  torn_head new torn =
      let zero : 0 + end ≡ end = omega arith in
      let whole : new ≡ torn.middle ++ gate ∷ inner =
      torn.parts ∙ ap (λ (l : List ℕ). l ++ torn.middle ++ drop (0 + end) file) (take_at [] file 0 refl) ∙ ap (λ (k : ℕ). torn.middle ++ drop k file) zero ∙ ap (λ (l : List ℕ). torn.middle ++ l) from_gate in
      (torn.middle, omega (arith, torn.no_shorter, torn.no_longer, long, ap length whole, length-append torn.middle (gate ∷ inner)), whole)

  pub written_head : (bytes : List ℕ) → length bytes ≡ end → overwritten file 0 bytes ≡ bytes ++ gate ∷ inner
  written_head bytes size =
      let behind : 0 + length bytes ≡ end = omega (arith, size) in
      ap (λ (l : List ℕ). l ++ replicate {A = ℕ} (0 - length file) 0 ++ bytes ++ drop (0 + length bytes) file) (take_at [] file 0 refl)
      ∙ ap (λ (l : List ℕ). l ++ bytes ++ drop (0 + length bytes) file) (no_gap file 0 (omega arith))
      ∙ ap (λ (l : List ℕ). bytes ++ l) (ap (λ (k : ℕ). drop k file) behind ∙ from_gate)
