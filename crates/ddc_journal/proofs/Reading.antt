-- How the bytes of a file are read.
use Rattle.std.proofs.Common.{◌≡◌, ◌<◌, ◌+◌, inl, inr, ℕ, ◌≤◌, List, ◌∷◌, ◌++◌, length, take, drop, sym, ◌∙◌, ap, subst, arith, append_assoc, length-append}
use Rattle.std.specs.Prelude.{true, ◌&&◌, ◌==◌, if◌then◌else◌, not, slice_index}
use Rattle.std.specs.Int.{from_le_bytes, to_le_bytes, w32, w64}
use Rattle.std.proofs.Math.Seq.{take-add}
use Rattle.std.proofs.lemmas.List.{ext_get_or, get_or-append_right, get_or-take, take_at}
use Rattle.std.proofs.lemmas.Bool.{cases_lt}
use Rattle.std.proofs.Math.ListN.{get_or-eq_default}
use Rattle.ddc_journal.specs.Journal.{magic, framed, items, head_bytes, journal_bytes, IsJournal, version_in, generation_in, is_made, rank}
use Rattle.ddc_journal.specs.Faults.{FileFault, IsKnown}
use Rattle.ddc_journal.specs.inside.Scanning.{EndsAt, IsOpen, IsScan, ItemFault}
use Rattle.ddc_journal.specs.declared.kind.FileKind.{FileKind}
use Rattle.ddc_journal.specs.declared.fault.JournalFault.{JournalFault}
use Rattle.ddc_journal.specs.declared.fault.JournalFault.TheVariants.{DiskFailed, NotMade, Corrupt, BadVersion, NoMemory}
use Rattle.ddc_journal.proofs.Ranks.{made, rank_unmade}
use Rattle.ddc_journal.proofs.Making.{cut, cut_size, generation_front, head_size, no_gate, short}

-- the head from its three parts
pub head_is : (b m v g : List ℕ) (version generation : ℕ) → m ≡ take 8 b → v ≡ take 4 (drop 8 b) → g ≡ take 8 (drop 4 (drop 8 b)) → m ≡ magic → to_le_bytes w32 version ≡ v → to_le_bytes w64 generation ≡ g
    → take 20 b ≡ head_bytes version generation
head_is b m v g version generation is_m is_v is_g known written_v written_g =
    let after : take 12 (drop 8 b) ≡ v ++ g = take-add 4 8 (drop 8 b) ∙ (λ i. sym is_v i ++ sym is_g i) in
    let all : take 20 b ≡ m ++ (v ++ g) = take-add 8 12 b ∙ (λ i. sym is_m i ++ after i) in
    let parts : v ++ g ≡ to_le_bytes w32 version ++ to_le_bytes w64 generation = λ i. sym written_v i ++ sym written_g i in
    all ∙ (λ i. known i ++ parts i) ∙ sym (append_assoc magic (to_le_bytes w32 version) (to_le_bytes w64 generation))

-- the items stand after the gate
pub opens : (b inner : List ℕ) (version generation gate : ℕ) → take 20 b ≡ head_bytes version generation → version ≡ version_in b → generation ≡ generation_in b → gate ≡ slice_index b 20 → gate ≡ 1 → inner ≡ drop 21 b → 21 ≤ length b
    → b ≡ head_bytes (version_in b) (generation_in b) ++ 1 ∷ inner
opens b inner version generation gate head is_v is_g is_gate is_one is_inner le =
    let front : take 20 b ≡ head_bytes (version_in b) (generation_in b) = head ∙ (λ i. head_bytes (is_v i) (is_g i)) in
    let at : slice_index b 20 ≡ 1 = sym is_gate ∙ is_one in
    cut b le ∙ (λ i. front i ++ at i ∷ sym is_inner i)

pub framed_is : (after chunk tail body back : List ℕ) → after ≡ chunk ++ tail → tail ≡ body ++ back → to_le_bytes w32 (length body) ≡ chunk → after ≡ framed body ++ back
framed_is after chunk tail body back whole parts written =
    whole ∙ (λ i. sym written i ++ parts i) ∙ sym (append_assoc (to_le_bytes w32 (length body)) body back)

module _ (kind : FileKind) (bytes inner : List ℕ) (is_open : IsOpen kind bytes inner) where
  abbrev version : ℕ
  version = version_in bytes

  abbrev generation : ℕ
  generation = generation_in bytes

  abbrev head : List ℕ
  head = head_bytes version generation

  gate_one : slice_index bytes 20 ≡ 1
  gate_one = ap (λ (l : List ℕ). slice_index l 20) is_open.split ∙ get_or-append_right head (1 ∷ inner) 20 20 0 (head_size version generation) (omega arith)

  is_made_true : is_made bytes ≡ true
  is_made_true = made bytes gate_one (λ e. absurd (omega (arith, e, is_open.numbered.0)))

  first_is : take 8 bytes ≡ magic
  first_is = ap (λ (l : List ℕ). take 8 l) is_open.split

  head_first : take 20 bytes ≡ head
  head_first = ap (λ (l : List ℕ). take 20 l) is_open.split ∙ take_at head (1 ∷ inner) 20 (head_size version generation)

  -- a fault of the items is one of the file
  pub item_fault : (fault : JournalFault) → ItemFault kind.number inner fault → FileFault kind bytes fault
  item_fault (Corrupt which at) f =
      let breaks = f.1 in (
        is_made_true,
        f.0,
        inr (inr (
          (first_is, is_open.known),
          record {
            bodies = breaks.bodies;
            rest = breaks.rest;
            split = is_open.split ∙ ap (λ (l : List ℕ). head ++ 1 ∷ l) breaks.split ∙ ap (λ (l : List ℕ). l ++ 1 ∷ (items breaks.bodies ++ 1 ∷ breaks.rest)) (sym head_first);
            sized = breaks.sized;
            broken = breaks.broken;
            place = breaks.place;
          },
        )),
      )
  item_fault NoMemory f = tt
  item_fault NotMade f = absurd f
  item_fault (BadVersion found) f = absurd f
  item_fault DiskFailed f = absurd f

  -- the items and what the head names are the journal
  pub is_scan : (v g : ℕ) (bodies : List (List ℕ)) (end : ℕ) → v ≡ version → g ≡ generation → EndsAt bodies end inner → IsScan kind bytes v g bodies end
  is_scan v g bodies end is_v is_g ends =
      let loads : IsJournal version generation bodies bytes = record {
        gate = ends.gate;
        rest = ends.rest;
        closed = ends.closed;
        split = is_open.split ∙ ap (λ (l : List ℕ). head ++ 1 ∷ l) ends.split ∙ sym (append_assoc head (1 ∷ items bodies) (ends.gate ∷ ends.rest));
        numbered = is_open.numbered;
        sized = ends.sized;
      } in
      let place : end ≡ length (journal_bytes version generation bodies) = omega (arith, ends.place, head_size version generation, length-append head (1 ∷ items bodies)) in
      record {
        version_is = is_v;
        generation_is = is_g;
        known = subst (IsKnown kind) (sym is_v) is_open.known;
        loads = subst (λ (k : ℕ). IsJournal k g bodies bytes) (sym is_v) (subst (λ (k : ℕ). IsJournal version k bodies bytes) (sym is_g) loads);
        place = place ∙ (λ i. length (journal_bytes (sym is_v i) (sym is_g i) bodies));
      }

-- the first 21 bytes of a file have its rank; past its end they are 0
module _ (front file : List ℕ) (size : length front ≡ 21) (same : (k : ℕ) → k < length front → slice_index front k ≡ slice_index file (0 + k)) where
  at_place : (k : ℕ) → k < 21 → slice_index front k ≡ slice_index file k
  at_place k lt = let here : 0 + k ≡ k = omega arith in same k (omega (arith, size, lt)) ∙ ap (slice_index file) here

  pub window_rank : rank front ≡ rank file
  window_rank = elim (cases_lt (length file) 21) [
    | inl lt ↦ rank_unmade front (no_gate front (λ e. absurd (omega (arith, e, at_place 20 (omega arith), get_or-eq_default file 0 {n = 20} (omega (arith, lt)))))) ∙ sym (rank_unmade file (short file lt))
    | inr le ↦
        let heads : take 20 front ≡ take 20 file =
        ext_get_or 0 (take 20 front) (take 20 file) (cut_size front (omega (arith, size)) ∙ sym (cut_size file le))
        (λ i lt. let small : i < 20 = omega (arith, lt, cut_size front (omega (arith, size))) in get_or-take 20 front i 0 small ∙ at_place i (omega (arith, small)) ∙ sym (get_or-take 20 file i 0 small)) in
        let named : generation_in front ≡ generation_in file = generation_front front (omega (arith, size)) ∙ ap (λ (l : List ℕ). from_le_bytes w64 (drop 12 l)) heads ∙ sym (generation_front file le) in
        let gate = at_place 20 (omega arith) in
        λ i. if (gate i == 1) && not (named i == 0) then named i else 0
  ]
