-- What the first bytes of a file say of it.
use Rattle.std.proofs.Common.{◌≡◌, inl, inr, ℕ, List, ◌∷◌, ◌++◌, length, take, drop, sym, ◌∙◌, ap, subst, arith, take-append-drop, append_assoc, length-append}
use Rattle.std.specs.Prelude.{◌&&◌, ◌==◌, not, slice_index}
use Rattle.std.specs.Int.{from_le_bytes, w32, w64}
use Rattle.std.proofs.lemmas.List.{drop-take, get_or-take, length-take, take-take}
use Rattle.ddc_journal.specs.Journal.{head_bytes, version_in, generation_in, is_made}
use Rattle.ddc_journal.specs.Faults.{FileFault, IsKnown}
use Rattle.ddc_journal.specs.inside.Scanning.{HeadFault, IsOpen}
use Rattle.ddc_journal.specs.declared.kind.FileKind.{FileKind}
use Rattle.ddc_journal.specs.declared.fault.JournalFault.{JournalFault}
use Rattle.ddc_journal.specs.declared.fault.JournalFault.TheVariants.{DiskFailed, NotMade, Corrupt, BadVersion, NoMemory}

module _ (file : List ℕ) where
  abbrev front : List ℕ
  front = take 22 file

  front_magic : take 8 front ≡ take 8 file
  front_magic = take-take 8 22 file (omega arith)

  pub front_version : version_in front ≡ version_in file
  front_version = ap (λ (l : List ℕ). from_le_bytes w32 l) (ap (λ (l : List ℕ). take 4 l) (drop-take 8 14 file) ∙ take-take 4 14 (drop 8 file) (omega arith))

  pub front_generation : generation_in front ≡ generation_in file
  front_generation = ap (λ (l : List ℕ). from_le_bytes w64 l) (ap (λ (l : List ℕ). take 8 l) (drop-take 12 10 file) ∙ take-take 8 10 (drop 12 file) (omega arith))

  front_made : is_made front ≡ is_made file
  front_made = let gate : slice_index front 20 ≡ slice_index file 20 = get_or-take 22 file 20 0 (omega arith) in λ i. (gate i == 1) && not (front_generation i == 0)

  -- a fault of the front is one of the file
  pub head_fault : (kind : FileKind) (fault : JournalFault) → HeadFault kind front fault → FileFault kind file fault
  head_fault kind NotMade f = sym front_made ∙ f
  head_fault kind (Corrupt which at) (on, same, inl (zero, other)) = (sym front_made ∙ on, same, inl (zero, λ is. other (front_magic ∙ is)))
  head_fault kind (Corrupt which at) (on, same, inr (place, (is_magic, known), ends)) =
      (sym front_made ∙ on, same, inr (inl (place, (sym front_magic ∙ is_magic, subst (IsKnown kind) front_version known), omega (arith, ends, length-take 22 file))))
  head_fault kind (BadVersion found) (on, is_magic, is, unknown) = (sym front_made ∙ on, sym front_magic ∙ is_magic, is ∙ front_version, unknown)
  head_fault kind DiskFailed f = absurd f
  head_fault kind NoMemory f = absurd f

  -- a head with an open gate is that of the file
  pub head_open : (kind : FileKind) (inner : List ℕ) → IsOpen kind front inner → IsOpen kind file (drop 21 file)
  head_open kind inner is_open =
      let head = head_bytes (version_in front) (generation_in front) in
      let behind = drop 22 file in
      let whole : file ≡ head ++ 1 ∷ (inner ++ behind) = sym (take-append-drop 22 file) ∙ ap (λ (l : List ℕ). l ++ behind) is_open.split ∙ append_assoc head (1 ∷ inner) behind in
      let after : drop 21 file ≡ inner ++ behind = ap (λ (l : List ℕ). drop 21 l) whole in
      record {
        split = whole ∙ (λ i. head_bytes (front_version i) (front_generation i) ++ 1 ∷ sym after i);
        known = subst (IsKnown kind) front_version is_open.known;
        numbered = (omega (arith, is_open.numbered.0, front_generation), omega (arith, is_open.numbered.1, front_generation));
        some = omega (arith, is_open.some, ap length after, length-append inner behind);
      }
