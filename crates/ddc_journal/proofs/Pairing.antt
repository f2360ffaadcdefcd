-- Which of two files is taken, and what a write to one of them leaves.
use Rattle.std.proofs.Common.{◌≡◌, ◌⊎◌, inl, inr, ℕ, ◌+◌, ◌<◌, ◌≤◌, List, [], ◌∷◌, ◌++◌, length, refl, sym, ◌∙◌, ap, subst, arith}
use Rattle.std.specs.Prelude.{Bool, true, false, not, if◌then◌else◌, Some, IfSome}
use Rattle.std.proofs.lemmas.Bool.{lt-ltb, le-ltb, ltb-true, ltb-false}
use Rattle.ddc_disk.specs.Disk.{Meaning, IsImage, IsSure}
use Rattle.ddc_disk.specs.Images.{Images}
use Rattle.ddc_disk.specs.Told.{at_told}
use Rattle.ddc_disk.specs.declared.devices.Devices.{Devices}
use Rattle.ddc_journal.specs.Journal.{journal_bytes, rank, IsEither, IsJournal, StandsAs}
use Rattle.ddc_journal.specs.Pairs.{pair_kind, takes_second, taken, IfBoth, IsNewPair, IsOpenPair, IsPairOf, IsPairReady, NoneMade, PairView}
use Rattle.ddc_journal.specs.inside.Closing.{IsRemade, IsSureOf, IsUnmade}
use Rattle.ddc_journal.specs.inside.Scanning.{IsScan}
use Rattle.ddc_journal.specs.inside.PairFiles.{created, device_of, other_of, OneChanges}
use Rattle.ddc_journal.proofs.Ranks.{journal_rank, rank_unmade, unmade_rank}
use Rattle.ddc_journal.proofs.Making.{if_told, stands_sure}

-- the file that is taken
abbrev pub file_of : Bool → List ℕ → List ℕ → List ℕ
file_of true first second = second
file_of false first second = first

pub taken_is : (s : Bool) (a b : List ℕ) → s ≡ takes_second a b → taken a b ≡ file_of s a b
taken_is true a b e = ap (λ (s : Bool). if s then b else a) (sym e)
taken_is false a b e = ap (λ (s : Bool). if s then b else a) (sym e)

pub greater : (a b : List ℕ) → rank a < rank b → true ≡ takes_second a b
greater a b lt = sym (lt-ltb (rank a) (rank b) lt)

pub not_greater : (a b : List ℕ) → rank b ≤ rank a → false ≡ takes_second a b
not_greater a b le = sym (le-ltb (rank a) (rank b) le)

pub is_greater : (a b : List ℕ) → true ≡ takes_second a b → rank a < rank b
is_greater a b e = ltb-true (rank a) (rank b) (sym e)

pub is_not_greater : (a b : List ℕ) → false ≡ takes_second a b → rank b ≤ rank a
is_not_greater a b e = ltb-false (rank a) (rank b) (sym e)

takes_pair : (s : Bool) (version generation : ℕ) (bodies : List (List ℕ)) (a b : List ℕ) → s ≡ takes_second a b → IsJournal version generation bodies (file_of s a b) → IsPairOf version bodies a b
takes_pair s version generation bodies a b e loads = record { generation = generation; loads = subst (IsJournal version generation bodies) (sym (taken_is s a b e)) loads }

either_rank : (version generation : ℕ) (bodies : List (List ℕ)) (body file : List ℕ) → IsEither version generation bodies body file → rank file ≡ generation
either_rank version generation bodies body file (inl x) = journal_rank version generation bodies file x
either_rank version generation bodies body file (inr x) = journal_rank version generation (bodies ++ body ∷ []) file x

module _ (a b : List ℕ) (pair : PairView) (bodies : List (List ℕ)) (opened : IsOpenPair a b pair bodies) where
  journal_is : (s : Bool) → pair.second ≡ s → IsJournal pair.version pair.generation bodies (file_of s a b)
  journal_is s e = subst (IsJournal pair.version pair.generation bodies) (taken_is s a b (sym e ∙ opened.active)) opened.journal

  -- the active file while a body is appended
  append_images : (body : List ℕ) (s : Bool) → pair.second ≡ s → (im : Images) → OneChanges s (IsEither pair.version pair.generation bodies body) (file_of (not s) a b) im
      → IsPairOf pair.version bodies im.first im.second ⊎ IsPairOf pair.version (bodies ++ body ∷ []) im.first im.second
  append_images body true e im (other, either) =
      let journal = journal_is true e in
      let lt = is_greater a b (sym e ∙ opened.active) in
      let takes : true ≡ takes_second im.first im.second = greater im.first im.second (omega (arith, lt, journal_rank pair.version pair.generation bodies b journal, either_rank pair.version pair.generation bodies body im.second either, ap rank other)) in
      elim either [
        | inl x ↦ inl (takes_pair true pair.version pair.generation bodies im.first im.second takes x)
        | inr x ↦ inr (takes_pair true pair.version pair.generation (bodies ++ body ∷ []) im.first im.second takes x)
      ]
  append_images body false e im (either, other) =
      let journal = journal_is false e in
      let le = is_not_greater a b (sym e ∙ opened.active) in
      let takes : false ≡ takes_second im.first im.second = not_greater im.first im.second (omega (arith, le, journal_rank pair.version pair.generation bodies a journal, either_rank pair.version pair.generation bodies body im.first either, ap rank other)) in
      elim either [
        | inl x ↦ inl (takes_pair false pair.version pair.generation bodies im.first im.second takes x)
        | inr x ↦ inr (takes_pair false pair.version pair.generation (bodies ++ body ∷ []) im.first im.second takes x)
      ]

  -- the other file while a checkpoint writes it
  checkpoint_images : (version : ℕ) (news : List (List ℕ)) (s : Bool) → pair.second ≡ s → (im : Images)
      → OneChanges (not s) (IsRemade version (pair.generation + 1) news (file_of (not s) a b)) (file_of s a b) im
      → IsPairOf pair.version bodies im.first im.second ⊎ IsPairOf version news im.first im.second
  checkpoint_images version news true e im (inl le, other) =
      let journal = journal_is true e in
      let lt = is_greater a b (sym e ∙ opened.active) in
      let takes = greater im.first im.second (omega (arith, le, lt, ap rank other)) in
      inl (takes_pair true pair.version pair.generation bodies im.first im.second takes (subst (IsJournal pair.version pair.generation bodies) (sym other) journal))
  checkpoint_images version news true e im (inr x, other) =
      let journal = journal_is true e in
      let takes = not_greater im.first im.second (omega (arith, journal_rank version (pair.generation + 1) news im.first x, journal_rank pair.version pair.generation bodies b journal, ap rank other)) in
      inr (takes_pair false version (pair.generation + 1) news im.first im.second takes x)
  checkpoint_images version news false e im (other, inl le) =
      let journal = journal_is false e in
      let before = is_not_greater a b (sym e ∙ opened.active) in
      let takes = not_greater im.first im.second (omega (arith, le, before, ap rank other)) in
      inl (takes_pair false pair.version pair.generation bodies im.first im.second takes (subst (IsJournal pair.version pair.generation bodies) (sym other) journal))
  checkpoint_images version news false e im (other, inr x) =
      let journal = journal_is false e in
      let takes = greater im.first im.second (omega (arith, journal_rank version (pair.generation + 1) news im.second x, journal_rank pair.version pair.generation bodies a journal, ap rank other)) in
      inr (takes_pair true version (pair.generation + 1) news im.first im.second takes x)

-- what stands on the two devices
module _ {D : Type 0} (meaning : D → Meaning) (old : Devices D) (pair : PairView) (bodies : List (List ℕ)) (ready : IsPairReady meaning old pair bodies) where
  pub active_sure : (s : Bool) → IsSure (meaning (device_of s old)) (file_of s ready.first ready.second)
  active_sure true = ready.second_sure
  active_sure false = ready.first_sure

  pub other_sure : (s : Bool) → IsSure (meaning (other_of s old)) (file_of (not s) ready.first ready.second)
  other_sure true = ready.first_sure
  other_sure false = ready.second_sure

  pub active_stands : StandsAs (meaning (device_of pair.second old)) pair.version pair.generation bodies pair.end
  active_stands =
      stands_sure (meaning (device_of pair.second old)) pair.version pair.generation bodies pair.end
      (record { file = file_of pair.second ready.first ready.second; sure = active_sure pair.second; loads = journal_is ready.first ready.second pair bodies ready.opened pair.second refl })
      ready.opened.place

  pub still_pair : (im : Images) → IsImage (meaning old.first).line im.first → IsImage (meaning old.second).line im.second → IsPairOf pair.version bodies im.first im.second
  still_pair im is_first is_second =
      let first = ready.first_sure.only im.first is_first in
      let second = ready.second_sure.only im.second is_second in
      record { generation = pair.generation; loads = subst (IsJournal pair.version pair.generation bodies) (λ i. taken (sym first i) (sym second i)) ready.opened.journal }

  pub append_either : (body : List ℕ) (im : Images) → OneChanges pair.second (IsEither pair.version pair.generation bodies body) (file_of (not pair.second) ready.first ready.second) im
      → IsPairOf pair.version bodies im.first im.second ⊎ IsPairOf pair.version (bodies ++ body ∷ []) im.first im.second
  append_either body im is = append_images ready.first ready.second pair bodies ready.opened body pair.second refl im is

  -- the active file has one body more
  pub appended : (body : List ℕ) (new : Devices D) (end : ℕ) → other_of pair.second new ≡ other_of pair.second old
      → IsSureOf (meaning (device_of pair.second new)) pair.version pair.generation (bodies ++ body ∷ []) → end ≡ length (journal_bytes pair.version pair.generation (bodies ++ body ∷ []))
      → IsPairReady meaning new (record { second = pair.second; version = pair.version; generation = pair.generation; end = end }) (bodies ++ body ∷ [])
  appended body new end other x place = go pair.second refl other x
    where
      go : (s : Bool) → pair.second ≡ s → other_of s new ≡ other_of s old → IsSureOf (meaning (device_of s new)) pair.version pair.generation (bodies ++ body ∷ [])
          → IsPairReady meaning new (record { second = pair.second; version = pair.version; generation = pair.generation; end = end }) (bodies ++ body ∷ [])
      go true e same made =
          let journal = journal_is ready.first ready.second pair bodies ready.opened true e in
          let lt = is_greater ready.first ready.second (sym e ∙ ready.opened.active) in
          let takes = greater ready.first made.file (omega (arith, lt, journal_rank pair.version pair.generation bodies ready.second journal, journal_rank pair.version pair.generation (bodies ++ body ∷ []) made.file made.loads)) in
          record {
            first = ready.first;
            second = made.file;
            first_sure = subst (λ (d : D). IsSure (meaning d) ready.first) (sym same) ready.first_sure;
            second_sure = made.sure;
            opened = record { active = e ∙ takes; journal = subst (IsJournal pair.version pair.generation (bodies ++ body ∷ [])) (sym (taken_is true ready.first made.file takes)) made.loads; place = place };
          }
      go false e same made =
          let journal = journal_is ready.first ready.second pair bodies ready.opened false e in
          let le = is_not_greater ready.first ready.second (sym e ∙ ready.opened.active) in
          let takes = not_greater made.file ready.second (omega (arith, le, journal_rank pair.version pair.generation bodies ready.first journal, journal_rank pair.version pair.generation (bodies ++ body ∷ []) made.file made.loads)) in
          record {
            first = made.file;
            second = ready.second;
            first_sure = made.sure;
            second_sure = subst (λ (d : D). IsSure (meaning d) ready.second) (sym same) ready.second_sure;
            opened = record { active = e ∙ takes; journal = subst (IsJournal pair.version pair.generation (bodies ++ body ∷ [])) (sym (taken_is false made.file ready.second takes)) made.loads; place = place };
          }

  pub checkpoint_either : (version : ℕ) (news : List (List ℕ)) (im : Images)
      → OneChanges (not pair.second) (IsRemade version (pair.generation + 1) news (file_of (not pair.second) ready.first ready.second)) (file_of pair.second ready.first ready.second) im
      → IsPairOf pair.version bodies im.first im.second ⊎ IsPairOf version news im.first im.second
  checkpoint_either version news im is = checkpoint_images ready.first ready.second pair bodies ready.opened version news pair.second refl im is

  -- the devices of the two files, when the other one is written
  pub passive_sure : IsSure (meaning (device_of (not pair.second) old)) (file_of (not pair.second) ready.first ready.second)
  passive_sure = active_sure (not pair.second)

  pub rest_sure : IsSure (meaning (other_of (not pair.second) old)) (file_of pair.second ready.first ready.second)
  rest_sure = go pair.second
    where
      go : (s : Bool) → IsSure (meaning (other_of (not s) old)) (file_of s ready.first ready.second)
      go true = ready.second_sure
      go false = ready.first_sure

  -- the other file is the new journal
  pub turned : (version : ℕ) (news : List (List ℕ)) (new : Devices D) (end : ℕ) → other_of (not pair.second) new ≡ other_of (not pair.second) old
      → IsSureOf (meaning (device_of (not pair.second) new)) version (pair.generation + 1) news → end ≡ length (journal_bytes version (pair.generation + 1) news)
      → IsPairReady meaning new (record { second = not pair.second; version = version; generation = pair.generation + 1; end = end }) news
  turned version news new end other x place = go pair.second refl other x
    where
      go : (s : Bool) → pair.second ≡ s → other_of (not s) new ≡ other_of (not s) old → IsSureOf (meaning (device_of (not s) new)) version (pair.generation + 1) news
          → IsPairReady meaning new (record { second = not pair.second; version = version; generation = pair.generation + 1; end = end }) news
      go true e same made =
          let journal = journal_is ready.first ready.second pair bodies ready.opened true e in
          let takes = not_greater made.file ready.second (omega (arith, journal_rank pair.version pair.generation bodies ready.second journal, journal_rank version (pair.generation + 1) news made.file made.loads)) in
          record {
            first = made.file;
            second = ready.second;
            first_sure = made.sure;
            second_sure = subst (λ (d : D). IsSure (meaning d) ready.second) (sym same) ready.second_sure;
            opened = record { active = ap not e ∙ takes; journal = subst (IsJournal version (pair.generation + 1) news) (sym (taken_is false made.file ready.second takes)) made.loads; place = place };
          }
      go false e same made =
          let journal = journal_is ready.first ready.second pair bodies ready.opened false e in
          let takes = greater ready.first made.file (omega (arith, journal_rank pair.version pair.generation bodies ready.first journal, journal_rank version (pair.generation + 1) news made.file made.loads)) in
          record {
            first = ready.first;
            second = made.file;
            first_sure = subst (λ (d : D). IsSure (meaning d) ready.first) (sym same) ready.first_sure;
            second_sure = made.sure;
            opened = record { active = ap not e ∙ takes; journal = subst (IsJournal version (pair.generation + 1) news) (sym (taken_is true ready.first made.file takes)) made.loads; place = place };
          }

-- while an empty pair is made
module _ (a b : List ℕ) (none : NoneMade a b) where
  pub closing_none : (im : Images) → OneChanges true (λ image. rank image ≤ rank b) a im → NoneMade im.first im.second
  closing_none im is = (subst IsUnmade (sym is.0) none.0, unmade_rank im.second (omega (arith, is.1, rank_unmade b none.1)))

  pub making_none : (version : ℕ) (closed : List ℕ) → IsUnmade closed → (im : Images) → OneChanges false (IsRemade version 1 [] a) closed im → NoneMade im.first im.second ⊎ IsPairOf version [] im.first im.second
  making_none version closed unmade im (inl le, other) = inl (unmade_rank im.first (omega (arith, le, rank_unmade a none.0)), subst IsUnmade (sym other) unmade)
  making_none version closed unmade im (inr x, other) =
      inr (takes_pair false version 1 [] im.first im.second (not_greater im.first im.second (omega (arith, ap rank other, rank_unmade closed unmade))) x)

pub created_ready : {D : Type 0} (meaning : D → Meaning) (new : Devices D) (version : ℕ) (closed : List ℕ) → IsUnmade closed → IsSure (meaning new.second) closed → IsSureOf (meaning new.first) version 1 [] → IsPairReady meaning new (created version) []
created_ready {D} meaning new version closed unmade sure made =
    let takes = not_greater made.file closed (omega (arith, rank_unmade closed unmade)) in
    record {
      first = made.file;
      second = closed;
      first_sure = made.sure;
      second_sure = sure;
      opened = record { active = takes; journal = subst (IsJournal version 1 []) (sym (taken_is false made.file closed takes)) made.loads; place = refl };
    }

pub created_new : {D : Type 0} (meaning : D → Meaning) (new : Devices D) (version : ℕ) (closed : List ℕ) → IsUnmade closed → IsSure (meaning new.second) closed → IsSureOf (meaning new.first) version 1 [] → IsNewPair meaning new version
created_new meaning new version closed unmade sure made = record {
  first = made.file;
  second = closed;
  first_sure = made.sure;
  second_sure = sure;
  journal = made.loads;
  unmade = unmade;
}

-- what holds of both files that devices tell
pub if_both : {D : Type 0} (meaning : D → Meaning) (devices : Devices D) (P : List ℕ → List ℕ → Type 0) → ((a b : List ℕ) → (meaning devices.first).held ≡ Some a → (meaning devices.second).held ≡ Some b → P a b) → IfBoth meaning devices P
if_both meaning devices P each = if_told (meaning devices.first).held _ (λ a is_a. if_told (meaning devices.second).held _ (λ b is_b. each a b is_a is_b))

pub at_both : {D : Type 0} (meaning : D → Meaning) (devices : Devices D) (P : List ℕ → List ℕ → Type 0) (a b : List ℕ) → (meaning devices.first).held ≡ Some a → (meaning devices.second).held ≡ Some b → IfBoth meaning devices P → P a b
at_both meaning devices P a b is_a is_b both =
    at_told (meaning devices.second).held (P a) b is_b (at_told (meaning devices.first).held (λ first. IfSome (meaning devices.second).held (P first)) a is_a both)

pub told_device : {D : Type 0} (meaning : D → Meaning) (devices : Devices D) (s : Bool) (a b : List ℕ) → (meaning devices.first).held ≡ Some a → (meaning devices.second).held ≡ Some b → (meaning (device_of s devices)).held ≡ Some (file_of s a b)
told_device meaning devices true a b is_a is_b = is_b
told_device meaning devices false a b is_a is_b = is_a

-- what was read of the taken file is the pair
pub open_scanned : (a b : List ℕ) (second : Bool) (newest version generation : ℕ) (bodies : List (List ℕ)) (end : ℕ) → second ≡ takes_second a b → IsScan (pair_kind newest second) (file_of second a b) version generation bodies end
    → IsOpenPair a b (record { second = second; version = version; generation = generation; end = end }) bodies
open_scanned a b second newest version generation bodies end active is = record {
  active = active;
  journal = subst (IsJournal version generation bodies) (sym (taken_is second a b active)) is.loads;
  place = is.place;
}
