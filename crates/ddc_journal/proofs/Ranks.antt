-- The generation that a made file names.
use Rattle.std.proofs.Common.{◌≡◌, ◌≢◌, ◌⊎◌, inl, inr, ℕ, ◌≤◌, List, refl, sym, ◌∙◌, ap, arith}
use Rattle.std.specs.Prelude.{Bool, true, false, ◌&&◌, ◌==◌, if◌then◌else◌, not, slice_index}
use Rattle.std.proofs.lemmas.Bool.{ne_eqb, cases_eq}
use Rattle.std.proofs.lemmas.Nat.{from_le_bytes-to_le_bytes_8}
use Rattle.ddc_journal.specs.Journal.{IsJournal, generation_in, is_made, rank}
use Rattle.ddc_journal.specs.inside.Closing.{IsUnmade}

-- the file's gate is open
pub made : (file : List ℕ) → slice_index file 20 ≡ 1 → ◌≢◌ {A = ℕ} (generation_in file) 0 → is_made file ≡ true
made file is_one numbered = ap (λ (g : ℕ). (g == 1) && not (generation_in file == 0)) is_one ∙ ap (λ (b : Bool). not b) (ne_eqb (generation_in file) 0 numbered)

picked : (file : List ℕ) (b : Bool) → is_made file ≡ b → rank file ≡ (if b then generation_in file else 0)
picked file b is = ap (λ (made : Bool). if made then generation_in file else 0) is

pub rank_made : (file : List ℕ) → is_made file ≡ true → rank file ≡ generation_in file
rank_made file is = picked file true is

pub rank_unmade : (file : List ℕ) → IsUnmade file → rank file ≡ 0
rank_unmade file is = picked file false is

cases_made : (file : List ℕ) → (is_made file ≡ true) ⊎ IsUnmade file
cases_made file = go (is_made file) refl
  where
    go : (b : Bool) → is_made file ≡ b → (is_made file ≡ true) ⊎ IsUnmade file
    go true is = inl is
    go false is = inr is

pub rank_le : (file : List ℕ) → rank file ≤ generation_in file
rank_le file = elim (cases_made file) [
  | inl is ↦ omega (arith, rank_made file is)
  | inr is ↦ omega (arith, rank_unmade file is)
]

-- a file whose gate is 1 has the generation of its head for its rank
pub gate_one_rank : (file : List ℕ) → slice_index file 20 ≡ 1 → rank file ≡ generation_in file
gate_one_rank file is = elim (cases_eq (generation_in file) 0) [
  | inl zero ↦ omega (arith, zero, rank_le file)
  | inr other ↦ rank_made file (made file is other)
]

-- a file of rank 0 isn't made
pub unmade_rank : (file : List ℕ) → rank file ≡ 0 → IsUnmade file
unmade_rank file is = elim (cases_made file) [
  | inl on ↦ absurd (numbered on (sym (rank_made file on) ∙ is))
  | inr off ↦ off
]
  where
    never : true ≡ false → ⊥
    never e = cc e

    and_no : (x y : Bool) → y ≡ false → (x && y) ≡ false
    and_no true y is_no = is_no
    and_no false y is_no = refl

    numbered : is_made file ≡ true → generation_in file ≡ 0 → ⊥
    numbered on zero = never (sym on ∙ and_no (slice_index file 20 == 1) (not (generation_in file == 0)) (ap (λ (n : ℕ). not (n == 0)) zero))

-- a journal has its generation for its rank
pub journal_rank : (version generation : ℕ) (bodies : List (List ℕ)) (file : List ℕ) → IsJournal version generation bodies file → rank file ≡ generation
journal_rank version generation bodies file x =
    let one : slice_index file 20 ≡ 1 = ap (λ (l : List ℕ). slice_index l 20) x.split in
    let named : generation_in file ≡ generation = ap generation_in x.split ∙ from_le_bytes-to_le_bytes_8 generation x.numbered.1 in
    gate_one_rank file one ∙ named
