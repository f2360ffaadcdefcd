-- A file is at most one journal, or has one fault.
use Rattle.std.proofs.Common.{◌≡◌, ◌≢◌, inl, inr, ℕ, ◌<◌, ◌≤◌, ◌^◌, List, [], ◌∷◌, ◌++◌, length, take, drop, refl, sym, ◌∙◌, ap, subst, arith, append_assoc, length-append}
use Rattle.std.specs.Prelude.{true, false, slice_index}
use Rattle.std.specs.Int.{to_le_bytes, from_le_bytes, w32}
use Rattle.std.proofs.lemmas.Nat.{from_le_bytes-to_le_bytes_4, from_le_bytes-to_le_bytes_8}
use Rattle.std.proofs.lemmas.List.{take_at, drop_at, length-take}
use Rattle.ddc_journal.specs.Journal.{magic, framed, items, head_bytes, journal_bytes, single_version, AreSized, IsJournal, version_in, generation_in, is_made}
use Rattle.ddc_journal.specs.Faults.{single_kind, BreaksAt, IsCorrupt, IsKnown, LacksItem}
use Rattle.ddc_journal.specs.Laws.{JournalOrFault, LoadsOrFails, OneFaultOfKind, OneFileFault, OneJournal, OneLoading}
use Rattle.ddc_journal.specs.declared.kind.FileKind.{FileKind}
use Rattle.ddc_journal.specs.declared.fault.JournalFault.TheVariants.{DiskFailed, NotMade, Corrupt, BadVersion, NoMemory}
use Rattle.ddc_journal.proofs.Ranks.{made}

-- the first of two bytes lists is the same
first_byte : (a b : ℕ) (xs ys : List ℕ) → a ∷ xs ≡ b ∷ ys → a ≡ b
first_byte a b xs ys e = ap (λ (l : List ℕ). slice_index l 0) e

-- a body and what follows it
same_framed : (b c xs ys : List ℕ) → length b < 2 ^ 32 → length c < 2 ^ 32 → framed b ++ xs ≡ framed c ++ ys → (b ≡ c) × (xs ≡ ys)
same_framed b c xs ys small_b small_c e =
    let lengths : to_le_bytes w32 (length b) ≡ to_le_bytes w32 (length c) = ap (λ (l : List ℕ). take 4 l) e in
    let same : length b ≡ length c = sym (from_le_bytes-to_le_bytes_4 (length b) small_b) ∙ ap (λ (l : List ℕ). from_le_bytes w32 l) lengths ∙ from_le_bytes-to_le_bytes_4 (length c) small_c in
    let rest : b ++ xs ≡ c ++ ys = ap (λ (l : List ℕ). drop 4 l) e in (
      sym (take_at b xs (length b) refl) ∙ ap (λ (l : List ℕ). take (length b) l) rest ∙ take_at c ys (length b) (sym same),
      sym (drop_at b xs (length b) refl) ∙ ap (λ (l : List ℕ). drop (length b) l) rest ∙ drop_at c ys (length b) (sym same),
    )

-- items and a tail begin with some byte
starts : (bodies : List (List ℕ)) (gate : ℕ) (rest : List ℕ) → (b : ℕ) × (xs : List ℕ) × (items bodies ++ gate ∷ rest ≡ b ∷ xs)
starts [] gate rest = (gate, rest, refl)
starts (body ∷ bodies) gate rest = (1, framed body ++ items bodies ++ gate ∷ rest, refl)

-- an item in front of others
split_first : (body : List ℕ) (bodies : List (List ℕ)) (tail : List ℕ) → items (body ∷ bodies) ++ tail ≡ 1 ∷ framed body ++ (items bodies ++ tail)
split_first body bodies tail = ap (λ (l : List ℕ). 1 ∷ l) (append_assoc (framed body) (items bodies) tail)

none_starts : (g : ℕ) (r body : List ℕ) (bodies : List (List ℕ)) (gate : ℕ) (rest : List ℕ) → length body < 2 ^ 32 → LacksItem (g ∷ r) → g ∷ r ≡ items (body ∷ bodies) ++ gate ∷ rest → ⊥
none_starts g r body bodies gate rest small none e =
    let next = starts bodies gate rest in
    none body next.0 next.1 small (e ∙ split_first body bodies (gate ∷ rest) ∙ ap (λ (l : List ℕ). 1 ∷ framed body ++ l) next.2)

same_items : (bs cs : List (List ℕ)) (g h : ℕ) (r s : List ℕ) → AreSized bs → AreSized cs → LacksItem (g ∷ r) → LacksItem (h ∷ s) → items bs ++ g ∷ r ≡ items cs ++ h ∷ s → (bs ≡ cs) × (g ∷ r ≡ h ∷ s)
same_items [] [] g h r s sized_b sized_c none_g none_h e = (refl, e)
same_items [] (c ∷ cs) g h r s sized_b sized_c none_g none_h e = absurd (none_starts g r c cs h s sized_c.0 none_g e)
same_items (b ∷ bs) [] g h r s sized_b sized_c none_g none_h e = absurd (none_starts h s b bs g r sized_b.0 none_h (sym e))
same_items (b ∷ bs) (c ∷ cs) g h r s sized_b sized_c none_g none_h e =
    let behind = ap (λ (l : List ℕ). drop 1 l) (sym (split_first b bs (g ∷ r)) ∙ e ∙ split_first c cs (h ∷ s)) in
    let first = same_framed b c (items bs ++ g ∷ r) (items cs ++ h ∷ s) sized_b.0 sized_c.0 behind in
    let rest = same_items bs cs g h r s sized_b.1 sized_c.1 none_g none_h first.1 in
    ((λ i. first.0 i ∷ rest.0 i), rest.1)

closed_none : (g : ℕ) (r : List ℕ) → g ≢ 1 → LacksItem (g ∷ r)
closed_none g r closed body gate rest small e = closed (first_byte g 1 r (framed body ++ gate ∷ rest) e)

-- what a journal has
module _ (file : List ℕ) (version generation : ℕ) (bodies : List (List ℕ)) (x : IsJournal version generation bodies file) where
  after_head : drop 21 file ≡ items bodies ++ x.gate ∷ x.rest
  after_head = ap (λ (l : List ℕ). drop 21 l) x.split

  has_magic : take 8 file ≡ magic
  has_magic = ap (λ (l : List ℕ). take 8 l) x.split

  has_version : version < 2 ^ 32 → version_in file ≡ version
  has_version small = ap version_in x.split ∙ from_le_bytes-to_le_bytes_4 version small

  has_gate : slice_index file 20 ≡ 1
  has_gate = ap (λ (l : List ℕ). slice_index l 20) x.split

  has_generation : generation_in file ≡ generation
  has_generation = ap generation_in x.split ∙ from_le_bytes-to_le_bytes_8 generation x.numbered.1

  is_long : 22 ≤ length file
  is_long = omega (arith, ap length x.split, length-append (journal_bytes version generation bodies) (x.gate ∷ x.rest), length-append (head_bytes version generation) (1 ∷ items bodies))

  none_more : LacksItem (x.gate ∷ x.rest)
  none_more = closed_none x.gate x.rest x.closed

  is_made_true : is_made file ≡ true
  is_made_true = made file has_gate (λ e. absurd (omega (arith, e, has_generation, x.numbered.0)))

-- what a file has in which an item isn't whole
module _ (file : List ℕ) (at : ℕ) (x : BreaksAt at file) where
  abbrev inner : List ℕ
  inner = items x.bodies ++ 1 ∷ x.rest

  front_is : length (take 20 file) ≡ 20
  front_is = omega (arith, length-take 20 file, ap length x.split, length-append (take 20 file) (1 ∷ inner))

  after_front : drop 21 file ≡ inner
  after_front =
      ap (λ (l : List ℕ). drop 21 l) (x.split ∙ sym (append_assoc (take 20 file) (1 ∷ []) inner))
      ∙ drop_at (take 20 file ++ 1 ∷ []) inner 21 (omega (arith, front_is, length-append (take 20 file) (1 ∷ [])))

  has_more : 22 ≤ length file
  has_more = omega (arith, front_is, ap length x.split, length-append (take 20 file) (1 ∷ inner), length-append (items x.bodies) (1 ∷ x.rest))

pub one_journal : OneJournal
one_journal file version other_version generation other bodies others small other_small x y =
    let same = sym (after_head file version generation bodies x) ∙ after_head file other_version other others y in (
      sym (has_version file version generation bodies x small) ∙ has_version file other_version other others y other_small,
      sym (has_generation file version generation bodies x) ∙ has_generation file other_version other others y,
      (same_items bodies others x.gate y.gate x.rest y.rest x.sized y.sized (none_more file version generation bodies x) (none_more file other_version other others y) same).0,
    )

pub one_loading : OneLoading
one_loading file generation other bodies others x y =
    let one = one_journal file single_version single_version generation other bodies others (omega arith) (omega arith) x y in
    (one.1, one.2)

never : true ≡ false → ⊥
never e = cc e

not_corrupt : (kind : FileKind) (file : List ℕ) (version generation : ℕ) (bodies : List (List ℕ)) (at : ℕ) → IsJournal version generation bodies file → IsCorrupt kind at file → ⊥
not_corrupt kind file version generation bodies at x (inl other) = other.1 (has_magic file version generation bodies x)
not_corrupt kind file version generation bodies at x (inr (inl ends)) = absurd (omega (arith, ends.2, is_long file version generation bodies x))
not_corrupt kind file version generation bodies at x (inr (inr (head, b))) =
    let same = sym (after_head file version generation bodies x) ∙ after_front file at b in
    let tails = same_items bodies b.bodies x.gate 1 x.rest b.rest x.sized b.sized (none_more file version generation bodies x) b.broken same in
    x.closed (first_byte x.gate 1 x.rest b.rest tails.1)

pub journal_or_fault : JournalOrFault
journal_or_fault kind file version generation bodies NotMade known small x content fault = never (sym (is_made_true file version generation bodies x) ∙ fault)
journal_or_fault kind file version generation bodies (Corrupt which at) known small x content fault = not_corrupt kind file version generation bodies at x fault.2
journal_or_fault kind file version generation bodies (BadVersion found) known small x content fault =
    fault.3 (subst (IsKnown kind) (sym (fault.2 ∙ has_version file version generation bodies x small)) known)
journal_or_fault kind file version generation bodies DiskFailed known small x content fault = fault
journal_or_fault kind file version generation bodies NoMemory known small x content fault = content refl

pub loads_or_fails : LoadsOrFails
loads_or_fails file generation bodies fault x content is = journal_or_fault single_kind file single_version generation bodies fault (omega arith, omega arith) (omega arith) x content is

-- two faults of one file
one_place : (kind : FileKind) (file : List ℕ) (a b : ℕ) → IsCorrupt kind a file → IsCorrupt kind b file → a ≡ b
one_place kind file a b (inl x) (inl y) = x.0 ∙ sym y.0
one_place kind file a b (inl x) (inr (inl y)) = absurd (x.1 y.1.0)
one_place kind file a b (inl x) (inr (inr y)) = absurd (x.1 y.0.0)
one_place kind file a b (inr (inl x)) (inl y) = absurd (y.1 x.1.0)
one_place kind file a b (inr (inl x)) (inr (inl y)) = x.0 ∙ sym y.0
one_place kind file a b (inr (inl x)) (inr (inr y)) = absurd (omega (arith, x.2, has_more file b y.1))
one_place kind file a b (inr (inr x)) (inl y) = absurd (y.1 x.0.0)
one_place kind file a b (inr (inr x)) (inr (inl y)) = absurd (omega (arith, y.2, has_more file a x.1))
one_place kind file a b (inr (inr (x_head, x))) (inr (inr (y_head, y))) =
    let same = sym (after_front file a x) ∙ after_front file b y in
    let bodies = (same_items x.bodies y.bodies 1 1 x.rest y.rest x.sized y.sized x.broken y.broken same).0 in
    omega (arith, x.place, y.place, ap (λ (l : List (List ℕ)). length (items l)) bodies)

-- a corrupt file has a known version, or other bytes at its front
known_version : (kind : FileKind) (file : List ℕ) (at : ℕ) → IsCorrupt kind at file → take 8 file ≡ magic → IsKnown kind (version_in file)
known_version kind file at (inl x) known = absurd (x.1 known)
known_version kind file at (inr (inl x)) known = x.1.1
known_version kind file at (inr (inr x)) known = x.0.1

pub one_fault : OneFaultOfKind
one_fault kind file NotMade NotMade cx cy x y = refl
one_fault kind file NotMade (Corrupt which at) cx cy x y = absurd (never (sym y.0 ∙ x))
one_fault kind file NotMade (BadVersion found) cx cy x y = absurd (never (sym y.0 ∙ x))
one_fault kind file (Corrupt which at) NotMade cx cy x y = absurd (never (sym x.0 ∙ y))
one_fault kind file (Corrupt which at) (Corrupt other place) cx cy x y = let number : which ≡ other = x.1 ∙ sym y.1 in let same = one_place kind file at place x.2 y.2 in λ i. Corrupt (number i) (same i)
one_fault kind file (Corrupt which at) (BadVersion found) cx cy x y = absurd (y.3 (subst (IsKnown kind) (sym y.2) (known_version kind file at x.2 y.1)))
one_fault kind file (BadVersion found) NotMade cx cy x y = absurd (never (sym x.0 ∙ y))
one_fault kind file (BadVersion found) (Corrupt which at) cx cy x y = absurd (x.3 (subst (IsKnown kind) (sym x.2) (known_version kind file at y.2 x.1)))
one_fault kind file (BadVersion found) (BadVersion other) cx cy x y = let same : found ≡ other = x.2 ∙ sym y.2 in λ i. BadVersion (same i)
one_fault kind file DiskFailed other cx cy x y = absurd x
one_fault kind file NoMemory other cx cy x y = absurd (cx refl)
one_fault kind file NotMade DiskFailed cx cy x y = absurd y
one_fault kind file (Corrupt which at) DiskFailed cx cy x y = absurd y
one_fault kind file (BadVersion found) DiskFailed cx cy x y = absurd y
one_fault kind file NotMade NoMemory cx cy x y = absurd (cy refl)
one_fault kind file (Corrupt which at) NoMemory cx cy x y = absurd (cy refl)
one_fault kind file (BadVersion found) NoMemory cx cy x y = absurd (cy refl)

pub one_single_fault : OneFileFault
one_single_fault file fault other cx cy x y = one_fault single_kind file fault other cx cy x y
