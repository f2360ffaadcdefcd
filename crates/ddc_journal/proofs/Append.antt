-- The two sure writes of an append.
use Rattle.std.proofs.Common.{◌≡◌, inl, inr, ℕ, ◌+◌, ◌<◌, ◌^◌, List, [], ◌∷◌, ◌++◌, length, sym, ◌∙◌, ap, subst, arith, append_assoc, length-append, drop}
use Rattle.std.proofs.lemmas.Bool.{cases_eq}
use Rattle.std.specs.Prelude.{Some, IfSome}
use Rattle.ddc_disk.specs.Disk.{Meaning, EachSince, MayTear, IsImage, IsSure, overwritten, Torn}
use Rattle.ddc_disk.specs.Since.{weaker, then_runs}
use Rattle.ddc_disk.specs.Told.{told_file, at_told}
use Rattle.ddc_journal.specs.Journal.{framed, journal_bytes, IsEither, IsJournal, StandsAs}
use Rattle.ddc_journal.specs.inside.Closing.{IsSureOf}
use Rattle.ddc_journal.proofs.Parts.{long, torn_behind, written_behind, torn_gate, written_gate}
use Rattle.ddc_journal.proofs.Spelling.{journal-push, sized-push, shut}

module _ (version generation : ℕ) (bodies : List (List ℕ)) (end : ℕ) (place : end ≡ length (journal_bytes version generation bodies)) (body : List ℕ) (small : length body < 2 ^ 32) where
  abbrev front : List ℕ
  front = journal_bytes version generation bodies

  abbrev bytes : List ℕ
  bytes = framed body ++ 0 ∷ []

  -- the item stands after the gate, with a closed gate after it
  record Staged (file : List ℕ) : Type 0 where
    gate : ℕ
    rest : List ℕ
    split : file ≡ front ++ gate ∷ (framed body ++ 0 ∷ rest)
    numbered : (0 < generation) × (generation < 2 ^ 64)

  end_lt : (file : List ℕ) → IsJournal version generation bodies file → end < length file
  end_lt file loads = omega (arith, long front loads.rest loads.gate end place file loads.split)

  behind_loads : (n : ℕ) (old new : List ℕ) → IsJournal version generation bodies old → Torn (end + 1) n old new → IsJournal version generation bodies new
  behind_loads n old new loads torn =
      let other = torn_behind front loads.rest loads.gate end place old loads.split n new torn in
      record { gate = loads.gate; rest = other.0; closed = loads.closed; split = other.1; numbered = loads.numbered; sized = loads.sized }

  stages : (old : List ℕ) → IsJournal version generation bodies old → Staged (overwritten old (end + 1) bytes)
  stages old loads =
      let tail = drop (end + 1 + length bytes) old in
      record {
        gate = loads.gate;
        rest = tail;
        split = written_behind front loads.rest loads.gate end place old loads.split bytes ∙ ap (λ (l : List ℕ). front ++ loads.gate ∷ l) (append_assoc (framed body) (0 ∷ []) tail);
        numbered = loads.numbered;
      }

  module _ (old : List ℕ) (before : IsJournal version generation bodies old) (file : List ℕ) (staged : Staged file) where
    opened : (new : List ℕ) → new ≡ front ++ 1 ∷ (framed body ++ 0 ∷ staged.rest) → IsJournal version generation (bodies ++ body ∷ []) new
    opened new is = record {
      gate = 0;
      rest = staged.rest;
      closed = shut;
      split = is ∙ sym (append_assoc front (1 ∷ framed body) (0 ∷ staged.rest)) ∙ ap (λ (l : List ℕ). l ++ 0 ∷ staged.rest) (sym (journal-push version generation bodies body));
      numbered = staged.numbered;
      sized = sized-push bodies body before.sized small;
    }

    gated : (b : ℕ) (new : List ℕ) → new ≡ front ++ b ∷ (framed body ++ 0 ∷ staged.rest) → IsEither version generation bodies body new
    gated b new is = elim (cases_eq b 1) [
      | inl is_one ↦ inr (opened new (is ∙ ap (λ (k : ℕ). front ++ k ∷ (framed body ++ 0 ∷ staged.rest)) is_one))
      | inr closed ↦ inl (record { gate = b; rest = framed body ++ 0 ∷ staged.rest; closed = closed; split = is; numbered = before.numbered; sized = before.sized })
    ]

    gate_loads : (new : List ℕ) → Torn end 1 file new → IsEither version generation bodies body new
    gate_loads new torn =
        let other = torn_gate front (framed body ++ 0 ∷ staged.rest) staged.gate end place file staged.split new torn in
        gated other.0 new other.1

    opens : IsJournal version generation (bodies ++ body ∷ []) (overwritten file end (1 ∷ []))
    opens = opened (overwritten file end (1 ∷ [])) (written_gate front (framed body ++ 0 ∷ staged.rest) staged.gate end place file staged.split 1)

  next_place : end + length bytes ≡ length (journal_bytes version generation (bodies ++ body ∷ []))
  next_place = omega (arith, place, ap length (journal-push version generation bodies body), length-append front (1 ∷ framed body), length-append (framed body) (0 ∷ []))

module _ (old mid new : Meaning) (version generation : ℕ) (bodies : List (List ℕ)) (body : List ℕ) (small : length body < 2 ^ 32) (end : ℕ) (ready : StandsAs old version generation bodies end)
    (reads : (file : List ℕ) → old.held ≡ Some file → IsImage old.line file) (fits_file : (file : List ℕ) → old.held ≡ Some file → length file < 2 ^ 64) where
  abbrev written : List ℕ
  written = framed body ++ 0 ∷ []

  pub file : (file : List ℕ) × (old.held ≡ Some file)
  file = told_file old.held ready.told

  loads : IsJournal version generation bodies file.0
  loads = ready.each file.0 (reads file.0 file.1)

  pub fits : end + 1 < 2 ^ 64
  fits = omega (arith, fits_file file.0 file.1, end_lt version generation bodies end ready.place body small file.0 loads)

  pub first_each : EachSince old.line mid.line (MayTear (end + 1) (length written) old.line) → EachSince old.line mid.line (IsEither version generation bodies body)
  first_each first =
      weaker old.line mid.line (MayTear (end + 1) (length written) old.line) (IsEither version generation bodies body) first
      (λ image torn. inl (behind_loads version generation bodies end ready.place body small (length written) torn.0 image (ready.each torn.0 torn.1) torn.2))

  abbrev after_first : List ℕ
  after_first = overwritten file.0 (end + 1) written

  staged : Staged version generation bodies end ready.place body small after_first
  staged = stages version generation bodies end ready.place body small file.0 loads

  pub sure_first : IfSome old.held (λ f. IsSure mid (overwritten f (end + 1) written)) → IsSure mid after_first
  sure_first durable = at_told old.held (λ f. IsSure mid (overwritten f (end + 1) written)) file.0 file.1 durable

  pub both_each : EachSince old.line mid.line (MayTear (end + 1) (length written) old.line) → IsSure mid after_first → EachSince mid.line new.line (MayTear end 1 mid.line) → EachSince old.line new.line (IsEither version generation bodies body)
  both_each first sure second =
      then_runs old.line mid.line new.line (IsEither version generation bodies body) (MayTear end 1 mid.line) (first_each first) second
      (λ image torn. gate_loads version generation bodies end ready.place body small file.0 loads torn.0 (subst (Staged version generation bodies end ready.place body small) (sym (sure.only torn.0 torn.1)) staged) image torn.2)

  pub is_sure : IsSure mid after_first → IfSome mid.held (λ f. IsSure new (overwritten f end (1 ∷ []))) → IsSureOf new version generation (bodies ++ body ∷ []) × (end + length written ≡ length (journal_bytes version generation (bodies ++ body ∷ [])))
  is_sure sure durable = (
    record {
      file = overwritten after_first end (1 ∷ []);
      sure = at_told mid.held (λ f. IsSure new (overwritten f end (1 ∷ []))) after_first sure.held durable;
      loads = opens version generation bodies end ready.place body small file.0 loads after_first staged;
    },
    next_place version generation bodies end ready.place body small,
  )
