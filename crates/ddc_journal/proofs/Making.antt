-- What a file is while a journal is made in it.
use Rattle.std.proofs.Common.{◌≡◌, ◌≢◌, ◌⊎◌, inl, inr, ℕ, ◌+◌, ◌-◌, ◌<◌, ◌≤◌, List, [], ◌∷◌, ◌++◌, length, take, drop, refl, sym, ◌∙◌, ap, subst, arith, append_assoc, take-append-drop}
use Rattle.std.specs.Prelude.{Bool, true, false, ◌&&◌, ◌==◌, not, replicate, slice_index, IfSome, IsSome, Option, Some, None}
use Rattle.std.proofs.Math.ListN.{get_or-eq_default}
use Rattle.std.proofs.lemmas.List.{take_at, drop-take, drop_more, length-take-le, get_or-append_right}
use Rattle.std.proofs.lemmas.Bool.{ne_eqb, cases_eq}
use Rattle.std.specs.Int.{from_le_bytes, w64}
use Rattle.ddc_disk.specs.Disk.{Meaning, Rests, Torn, MayTear, IsCalm, Continues, EachSince, IsSure, overwritten}
use Rattle.ddc_disk.specs.Since.{weaker, one_call}
use Rattle.ddc_disk.specs.Told.{at_told}
use Rattle.ddc_journal.specs.Journal.{items, head_bytes, journal_bytes, generation_in, rank, IsJournal, StandsAs}
use Rattle.ddc_journal.specs.inside.Closing.{AreItems, IsClosed, IsFilled, IsRemade, IsSureOf, IsUnmade}
use Rattle.ddc_journal.proofs.Ranks.{gate_one_rank, rank_le, rank_unmade}
use Rattle.ddc_journal.proofs.Parts.{torn_behind, written_behind, torn_gate, written_gate, torn_head, written_head}
use Rattle.ddc_journal.proofs.Spelling.{shut}

-- why a file isn't made
and_no : (x y : Bool) → y ≡ false → (x && y) ≡ false
and_no true y is = is
and_no false y is = refl

pub no_gate : (file : List ℕ) → ◌≢◌ {A = ℕ} (slice_index file 20) 1 → IsUnmade file
no_gate file other = ap (λ (b : Bool). b && not (generation_in file == 0)) (ne_eqb (slice_index file 20) 1 other)

no_generation : (file : List ℕ) → generation_in file ≡ 0 → IsUnmade file
no_generation file none = and_no (slice_index file 20 == 1) (not (generation_in file == 0)) (ap (λ (n : ℕ). not (n == 0)) none)

pub short : (file : List ℕ) → length file < 21 → IsUnmade file
short file lt =
    let zero : slice_index file 20 ≡ 0 = get_or-eq_default file 0 (omega (arith, lt)) in
    no_gate file (λ e. absurd (omega (arith, e, zero)))

gate_is : (front rest : List ℕ) (gate : ℕ) → length front ≡ 20 → slice_index (front ++ gate ∷ rest) 20 ≡ gate
gate_is front rest gate size = get_or-append_right front (gate ∷ rest) 20 20 0 size (omega arith)

pub at_gate : (front rest : List ℕ) (gate : ℕ) → length front ≡ 20 → gate ≢ 1 → IsUnmade (front ++ gate ∷ rest)
at_gate front rest gate size closed = no_gate (front ++ gate ∷ rest) (λ e. closed (sym (gate_is front rest gate size) ∙ e))

head_generation : (front rest : List ℕ) → length front ≡ 20 → generation_in (front ++ rest) ≡ from_le_bytes w64 (drop 12 front)
head_generation front rest size = ap (λ (l : List ℕ). from_le_bytes w64 l) (sym (drop-take 12 8 (front ++ rest)) ∙ ap (λ (l : List ℕ). drop 12 l) (take_at front rest 20 size))

-- a file that has a gate is cut there
pub cut : (file : List ℕ) → 21 ≤ length file → file ≡ take 20 file ++ slice_index file 20 ∷ drop 21 file
cut file le = sym (take-append-drop 20 file) ∙ ap (λ (l : List ℕ). take 20 file ++ l) (drop_more file 20 0 (omega (arith, le)))

pub cut_size : (file : List ℕ) → 21 ≤ length file → length (take 20 file) ≡ 20
cut_size file le = length-take-le 20 file (omega (arith, le))

-- the generation stands in front of the gate
pub generation_front : (file : List ℕ) → 21 ≤ length file → generation_in file ≡ from_le_bytes w64 (drop 12 (take 20 file))
generation_front file le = ap generation_in (cut file le) ∙ head_generation (take 20 file) (slice_index file 20 ∷ drop 21 file) (cut_size file le)

-- a calm call keeps a disk sure
pub kept_sure : (old new : Meaning) (file : List ℕ) → IsSure old file → new.held ≡ old.held → IsCalm old.line new.line → IsSure new file
kept_sure old new file sure held calm = record { held = held ∙ sure.held; only = λ image now. sure.only image (calm image now) }

-- and leaves what it holds
pub calm_run : (old new : Meaning) (file : List ℕ) (P : List ℕ → Type 0) → Rests old.line → IsSure old file → P file → Continues old.line new.line → IsCalm old.line new.line → EachSince old.line new.line P
calm_run old new file P rests sure holds call calm =
    one_call old.line new.line P rests (λ image now. subst P (sym (sure.only image now)) holds) call (λ image now. subst P (sym (sure.only image (calm image now))) holds)

-- a sure write on a sure disk
pub sure_run : (old new : Meaning) (file : List ℕ) (at n : ℕ) (P : List ℕ → Type 0) → IsSure old file → EachSince old.line new.line (MayTear at n old.line) → ((image : List ℕ) → Torn at n file image → P image) → EachSince old.line new.line P
sure_run old new file at n P sure run imp =
    weaker old.line new.line (MayTear at n old.line) P run (λ image torn. imp image (subst (λ (f : List ℕ). Torn at n f image) (sure.only torn.0 torn.1) torn.2))

pub sure_after : (old new : Meaning) (file bytes : List ℕ) (at : ℕ) → IsSure old file → IfSome old.held (λ f. IsSure new (overwritten f at bytes)) → IsSure new (overwritten file at bytes)
sure_after old new file bytes at sure durable = at_told old.held (λ f. IsSure new (overwritten f at bytes)) file sure.held durable

-- the zeros in front of a short file, and the gate after them
module _ (file : List ℕ) (lt : length file < 21) where
  abbrev zeros : List ℕ
  zeros = replicate {A = ℕ} 20 0

  pub short_torn : (image : List ℕ) → Torn 0 20 file image → IsUnmade image
  short_torn image torn = short image (omega (arith, torn.no_longer, lt))

  zeros_first : take 20 (overwritten file 0 zeros) ≡ zeros
  zeros_first =
      ap (λ (l : List ℕ). take 20 l) (ap (λ (l : List ℕ). l ++ replicate {A = ℕ} (0 - length file) 0 ++ zeros ++ drop 20 file) (take_at [] file 0 refl)
      ∙ ap (λ (k : ℕ). replicate {A = ℕ} k 0 ++ zeros ++ drop 20 file) none)
      ∙ take_at zeros (drop 20 file) 20 refl
    where
      none : 0 - length file ≡ 0
      none = omega arith

  pub zeros_torn : (image : List ℕ) → Torn 20 1 (overwritten file 0 zeros) image → IsUnmade image
  zeros_torn image torn =
      let rest = torn.middle ++ drop 21 (overwritten file 0 zeros) in
      let whole : image ≡ zeros ++ rest = torn.parts ∙ ap (λ (l : List ℕ). l ++ torn.middle ++ drop 21 (overwritten file 0 zeros)) zeros_first ∙ append_assoc zeros torn.middle (drop 21 (overwritten file 0 zeros)) in
      no_generation image (ap generation_in whole ∙ head_generation zeros rest refl)

-- the gate of a long file is closed
module _ (file : List ℕ) (le : 21 ≤ length file) where
  pub long_torn : slice_index file 20 ≡ 1 → (image : List ℕ) → Torn 20 1 file image → rank image ≤ rank file
  long_torn is image torn =
      let front = take 20 file in
      let other = torn_gate front (drop 21 file) (slice_index file 20) 20 (sym (cut_size file le)) file (cut file le) image torn in
      let same : generation_in image ≡ generation_in file = ap generation_in other.1 ∙ head_generation front (other.0 ∷ drop 21 file) (cut_size file le) ∙ sym (ap generation_in (cut file le) ∙ head_generation front (slice_index file 20 ∷ drop 21 file) (cut_size file le)) in
      omega (arith, rank_le image, same, gate_one_rank file is)

  pub long_closed : (disk : Meaning) → IsSure disk file → ◌≢◌ {A = ℕ} (slice_index file 20) 1 → IsClosed disk
  long_closed disk sure closed = record {
    front = take 20 file;
    gate = slice_index file 20;
    rest = drop 21 file;
    size = cut_size file le;
    closed = closed;
    sure = subst (IsSure disk) (cut file le) sure;
  }

pub head_size : (version generation : ℕ) → length (head_bytes version generation) ≡ 20
head_size version generation = refl

-- all of a journal but its gate is written over a closed file
module _ (old : Meaning) (version generation : ℕ) (bytes : List ℕ) (closed : IsClosed old) where
  abbrev file : List ℕ
  file = closed.front ++ closed.gate ∷ closed.rest

  abbrev head : List ℕ
  head = head_bytes version generation

  -- the gate stays as it was
  pub record KeepsGate (image : List ℕ) : Type 0 where
    front : List ℕ
    rest : List ℕ
    size : length front ≡ 20
    split : image ≡ front ++ closed.gate ∷ rest

  pub not_open : (image : List ℕ) → KeepsGate image → IsUnmade image
  not_open image keeps = subst IsUnmade (sym keeps.split) (at_gate keeps.front keeps.rest closed.gate keeps.size closed.closed)

  pub head_torn : (image : List ℕ) → MayTear 0 20 old.line image → KeepsGate image
  head_torn image torn =
      let is : Torn 0 20 file image = subst (λ (f : List ℕ). Torn 0 20 f image) (closed.sure.only torn.0 torn.1) torn.2 in
      let other = torn_head closed.front closed.rest closed.gate 20 (sym closed.size) file refl image is in
      record { front = other.0; rest = closed.rest; size = other.1; split = other.2 }

  pub tail_torn : (n : ℕ) (before image : List ℕ) → KeepsGate before → Torn 21 n before image → KeepsGate image
  tail_torn n before image keeps torn =
      let other = torn_behind keeps.front keeps.rest closed.gate 20 (sym keeps.size) before keeps.split n image torn in
      record { front = keeps.front; rest = other.0; size = keeps.size; split = other.1 }

  pub filled : (mid new : Meaning) → IfSome old.held (λ f. mid.held ≡ Some (overwritten f 0 head)) → IfSome mid.held (λ f. IsSure new (overwritten f 21 bytes)) → IsFilled new version generation bytes
  filled mid new written durable =
      let size : length head ≡ 20 = head_size version generation in
      let held : mid.held ≡ Some (overwritten file 0 head) = at_told old.held (λ f. mid.held ≡ Some (overwritten f 0 head)) file closed.sure.held written in
      let is_head : overwritten file 0 head ≡ head ++ closed.gate ∷ closed.rest = written_head closed.front closed.rest closed.gate 20 (sym closed.size) file refl head size in
      let sure : IsSure new (overwritten (overwritten file 0 head) 21 bytes) = at_told mid.held (λ f. IsSure new (overwritten f 21 bytes)) (overwritten file 0 head) held durable in
      record {
        gate = closed.gate;
        rest = drop (21 + length bytes) (overwritten file 0 head);
        closed = closed.closed;
        sure = subst (IsSure new) (written_behind head closed.rest closed.gate 20 (sym size) (overwritten file 0 head) is_head bytes) sure;
      }

-- the gate of a journal is opened
module _ (old : Meaning) (version generation : ℕ) (bodies : List (List ℕ)) (bytes : List ℕ) (is_filled : IsFilled old version generation bytes) (are : AreItems generation bodies bytes) where
  abbrev front : List ℕ
  front = head_bytes version generation

  abbrev after_gate : List ℕ
  after_gate = bytes ++ is_filled.rest

  abbrev filled_file : List ℕ
  filled_file = front ++ is_filled.gate ∷ after_gate

  whole : (image : List ℕ) → image ≡ front ++ 1 ∷ after_gate → IsJournal version generation bodies image
  whole image is = record {
    gate = 0;
    rest = is_filled.rest;
    closed = shut;
    split = is ∙ ap (λ (l : List ℕ). front ++ 1 ∷ (l ++ is_filled.rest)) are.split ∙ ap (λ (l : List ℕ). front ++ 1 ∷ l) (append_assoc (items bodies) (0 ∷ []) is_filled.rest) ∙ sym (append_assoc front (1 ∷ items bodies) (0 ∷ is_filled.rest));
    numbered = are.numbered;
    sized = are.sized;
  }

  gate_torn : (image : List ℕ) → Torn 20 1 filled_file image → IsUnmade image ⊎ IsJournal version generation bodies image
  gate_torn image torn =
      let other = torn_gate front after_gate is_filled.gate 20 (sym (head_size version generation)) filled_file refl image torn in
      elim (cases_eq other.0 1) [
        | inl is_one ↦ inr (whole image (other.1 ∙ ap (λ (k : ℕ). front ++ k ∷ after_gate) is_one))
        | inr closed ↦ inl (subst IsUnmade (sym other.1) (at_gate front after_gate other.0 (head_size version generation) closed))
      ]

  pub gate_remakes : (before : List ℕ) (new : Meaning) → EachSince old.line new.line (MayTear 20 1 old.line) → EachSince old.line new.line (IsRemade version generation bodies before)
  gate_remakes before new run = sure_run old new filled_file 20 1 (IsRemade version generation bodies before) is_filled.sure run (λ image torn.
      elim (gate_torn image torn) [
        | inl unmade ↦ inl (omega (arith, rank_unmade image unmade))
        | inr journal ↦ inr journal
      ])

  pub sure_of : (new : Meaning) → IfSome old.held (λ f. IsSure new (overwritten f 20 (1 ∷ []))) → IsSureOf new version generation bodies
  sure_of new durable = record {
    file = front ++ 1 ∷ after_gate;
    sure = subst (IsSure new) (written_gate front after_gate is_filled.gate 20 (sym (head_size version generation)) filled_file refl 1) (sure_after old new filled_file (1 ∷ []) 20 is_filled.sure durable);
    loads = whole (front ++ 1 ∷ after_gate) refl;
  }

-- what isn't made has no greater generation than any file
pub unmade_run : (old new : Meaning) (version generation : ℕ) (bodies : List (List ℕ)) (before : List ℕ) → EachSince old.line new.line IsUnmade → EachSince old.line new.line (IsRemade version generation bodies before)
unmade_run old new version generation bodies before run = weaker old.line new.line IsUnmade (IsRemade version generation bodies before) run (λ image unmade. inl (omega (arith, rank_unmade image unmade)))

-- a disk that is sure of a journal
pub stands_sure : (disk : Meaning) (version generation : ℕ) (bodies : List (List ℕ)) (end : ℕ) → IsSureOf disk version generation bodies → end ≡ length (journal_bytes version generation bodies) → StandsAs disk version generation bodies end
stands_sure disk version generation bodies end x place = record {
  told = subst IsSome (sym x.sure.held) refl;
  each = λ image now. subst (IsJournal version generation bodies) (sym (x.sure.only image now)) x.loads;
  place = place;
}

-- what holds of each file that a disk may tell
pub if_told : (held : Option (List ℕ)) (Q : List ℕ → Type 0) → ((file : List ℕ) → held ≡ Some file → Q file) → IfSome held Q
if_told None Q each = tt
if_told (Some file) Q each = each file refl
