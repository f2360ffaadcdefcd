-- How the items of a file are read a piece at a time.
use Rattle.std.proofs.Common.{◌≡◌, ◌⊎◌, inl, inr, ℕ, ◌+◌, ◌-◌, ◌<◌, ◌≤◌, List, [], ◌∷◌, ◌++◌, length, take, drop, refl, sym, ◌∙◌, ap, subst, arith, append_assoc, take-append-drop, length-append, length-drop}
use Rattle.std.specs.Prelude.{false, min, slice_index, Option, IfSome, Result, Ok, Err, OnOk}
use Rattle.std.specs.Result.{is_err}
use Rattle.std.specs.Int.{to_le_bytes, from_le_bytes, w32}
use Rattle.std.proofs.lemmas.Nat.{from_le_bytes-to_le_bytes_4}
use Rattle.std.proofs.lemmas.Bool.{cases_lt}
use Rattle.std.proofs.lemmas.List.{drop-drop, drop_at, ext_get_or, get_or-drop, get_or-take, length-take-le, take_all}
use Rattle.ddc_disk.specs.Disk.{Meaning, Rests, Continues, IsCalm, IsImage}
use Rattle.ddc_disk.specs.Since.{one_call, started, then_runs}
use Rattle.ddc_journal.specs.Journal.{framed, items, AreSized}
use Rattle.ddc_journal.specs.Faults.{LacksItem}
use Rattle.ddc_journal.specs.inside.Reads.{IsOnlyRead}
use Rattle.ddc_journal.specs.inside.Scanning.{BreaksIn, EndsAt, GoesOn, IsReadTo, IsShut, ItemFault, NeedsAt, StopsAt, TakesItems}
use Rattle.ddc_journal.specs.declared.parse.Stop.{Stop}
use Rattle.ddc_journal.specs.declared.parse.Stop.TheVariants.{Closed, Lacks}
use Rattle.ddc_journal.specs.declared.fault.JournalFault.{JournalFault}
use Rattle.ddc_journal.specs.declared.fault.JournalFault.TheVariants.{DiskFailed, NoMemory}
use Rattle.ddc_journal.proofs.Making.{if_told}
use Rattle.ddc_journal.proofs.Spelling.{items-push, sized-push}

-- ---- calls that only read

pub only_none : (disk : Meaning) → Rests disk.line → IsOnlyRead disk disk
only_none disk rests = record { held = refl; calm = λ image now. now; past = started disk.line (IsImage disk.line) rests (λ image now. now) }

-- one call
pub only_call : (old new : Meaning) → Rests old.line → new.held ≡ old.held → IsCalm old.line new.line → Continues old.line new.line → IsOnlyRead old new
only_call old new rests held calm call = record { held = held; calm = calm; past = one_call old.line new.line (IsImage old.line) rests (λ image now. now) call calm }

pub only_both : (old mid new : Meaning) → IsOnlyRead old mid → IsOnlyRead mid new → IsOnlyRead old new
only_both old mid new first second = record {
  held = second.held ∙ first.held;
  calm = λ image now. first.calm image (second.calm image now);
  past = then_runs old.line mid.line new.line (IsImage old.line) (IsImage mid.line) first.past second.past (λ image now. first.calm image now);
}

-- ---- pieces

pub when_ok : {T E : Type 0} (r : Result T E) (P : Type 0) → is_err r ≡ false → OnOk r P → P
when_ok (Ok x) P ok holds = holds
when_ok (Err e) P ok holds = cc ok

-- what was read of a file
pub piece_is : (bytes file : List ℕ) (at size : ℕ) → length bytes ≡ size → at + size ≤ length file → ((k : ℕ) → k < length bytes → slice_index bytes k ≡ slice_index file (at + k)) → bytes ≡ take size (drop at file)
piece_is bytes file at size is_size fits same =
    let whole : length (take size (drop at file)) ≡ size = length-take-le size (drop at file) (omega (arith, fits, length-drop at file)) in
    ext_get_or 0 bytes (take size (drop at file)) (is_size ∙ sym whole)
    (λ k lt. same k lt ∙ sym (get_or-drop at file k 0) ∙ sym (get_or-take size (drop at file) k 0 (omega (arith, lt, is_size))))

-- the bytes in front of the first item
pub front_is : (bytes file : List ℕ) (size : ℕ) → size ≡ min (length file) 22 → bytes ≡ take size (drop 0 file) → bytes ≡ take 22 file
front_is bytes file size is_size is =
    let front : bytes ≡ take size file = is ∙ ap (λ (l : List ℕ). take size l) (drop_at [] file 0 refl) in
    elim (cases_lt (length file) 22) [
      | inl lt ↦ front ∙ take_all size file (omega (arith, lt, is_size)) ∙ sym (take_all 22 file (omega (arith, lt)))
      | inr le ↦ let all : size ≡ 22 = omega (arith, le, is_size) in front ∙ ap (λ (k : ℕ). take k file) all
    ]

-- a piece that wasn't read is no fault of the items, but want of memory needs no cause
pub piece_fails : (held : Option (List ℕ)) (size number : ℕ) (fault : JournalFault) → (fault ≡ DiskFailed) ⊎ (fault ≡ NoMemory) → (fault ≡ DiskFailed) ⊎ IfSome held (λ file. size ≡ length file → ItemFault number (drop 21 file) fault)
piece_fails held size number fault (inl failed) = inl failed
piece_fails held size number fault (inr none) = inr (if_told held _ (λ file is size_is. subst (ItemFault number (drop 21 file)) (sym none) tt))

-- ---- items in them

-- an item that needs more bytes isn't there
pub lacks : (need : ℕ) (bytes : List ℕ) → NeedsAt need bytes → length bytes < need → LacksItem bytes
lacks need bytes needs cut body gate rest small is = elim (cases_lt 6 need) [
  | inl long ↦
      let m = need - 6 in
      let parts : 1 ∷ to_le_bytes w32 m ++ drop 5 bytes ≡ 1 ∷ framed body ++ gate ∷ rest = sym (needs.named long) ∙ is in
      let written : to_le_bytes w32 m ≡ to_le_bytes w32 (length body) = ap (λ (l : List ℕ). take 4 (drop 1 l)) parts in
      let same : m ≡ length body = sym (from_le_bytes-to_le_bytes_4 m (omega (arith, needs.most, needs.least))) ∙ ap (λ (l : List ℕ). from_le_bytes w32 l) written ∙ from_le_bytes-to_le_bytes_4 (length body) small in
      absurd (omega (arith, cut, same, needs.least, ap length is, length-append body (gate ∷ rest)))
  | inr le ↦ absurd (omega (arith, cut, le, ap length is, length-append body (gate ∷ rest)))
]

-- what stands at the front of bytes stands there with more bytes behind them
more : (stop : Stop) (bytes tail : List ℕ) → StopsAt stop bytes → StopsAt stop (bytes ++ tail)
more Closed bytes tail shut = record { gate = shut.gate; rest = shut.rest ++ tail; closed = shut.closed; split = ap (λ (l : List ℕ). l ++ tail) shut.split }
more (Lacks need) bytes tail needs =
    let first : bytes ++ tail ≡ 1 ∷ (drop 1 bytes ++ tail) = ap (λ (l : List ℕ). l ++ tail) needs.gate in
    record {
      least = needs.least;
      most = needs.most;
      gate = first ∙ ap (λ (l : List ℕ). 1 ∷ l) (sym (ap (λ (l : List ℕ). drop 1 l) first));
      named = λ long.
          let m = need - 6 in
          let parts : bytes ++ tail ≡ 1 ∷ to_le_bytes w32 m ++ (drop 5 bytes ++ tail) = ap (λ (l : List ℕ). l ++ tail) (needs.named long) ∙ ap (λ (l : List ℕ). 1 ∷ l) (append_assoc (to_le_bytes w32 m) (drop 5 bytes) tail) in
          parts ∙ ap (λ (l : List ℕ). 1 ∷ to_le_bytes w32 m ++ l) (sym (ap (λ (l : List ℕ). drop 5 l) parts));
    }

-- a window of a file of `size` bytes takes an item, unless that is longer
pub goes : (stop : Stop) (olds news : List (List ℕ)) (piece : List ℕ) (size at count : ℕ) → TakesItems olds news piece count stop → at < size → length piece ≡ min (size - at) 65536 → GoesOn stop size at (at + count)
goes Closed olds news piece size at count takes lt is = tt
goes (Lacks need) olds news piece size at count takes lt is = λ short fits. omega (arith, short, fits, lt, is, takes.size, takes.is_cut)

module _ (file : List ℕ) where
  -- more items were read
  module _ (bodies : List (List ℕ)) (at : ℕ) (rest : List ℕ) (split : drop 21 file ≡ items bodies ++ rest) (place : at ≡ 21 + length (items bodies)) (some : 0 < length rest) where
    there : drop at file ≡ rest
    there = ap (λ (k : ℕ). drop k file) place ∙ sym (drop-drop (length (items bodies)) 21 file) ∙ ap (λ (l : List ℕ). drop (length (items bodies)) l) split ∙ drop_at (items bodies) rest (length (items bodies)) refl

    reached : AreSized bodies → IsReadTo bodies at file
    reached sized = record {
      split = split ∙ ap (λ (l : List ℕ). items bodies ++ l) (sym there);
      sized = sized;
      place = place;
      inside = omega (arith, place, some, ap length split, length-append (items bodies) rest, length-drop 21 file);
    }

  pub read_none : 21 < length file → IsReadTo [] 21 file
  read_none lt = record { split = refl; sized = tt; place = refl; inside = lt }

  -- a piece of the file was read, and the whole items at its front were taken
  module _ (olds news : List (List ℕ)) (piece : List ℕ) (at count : ℕ) (stop : Stop) (before : IsReadTo olds at file) (is : piece ≡ take (length piece) (drop at file)) (takes : TakesItems olds news piece count stop) where
    abbrev behind : List ℕ
    behind = drop (length piece) (drop at file)

    moved : drop 21 file ≡ items news ++ (takes.rest ++ behind)
    moved =
        let whole : drop at file ≡ piece ++ behind = sym (take-append-drop (length piece) (drop at file)) ∙ ap (λ (l : List ℕ). l ++ behind) (sym is) in
        before.split ∙ ap (λ (l : List ℕ). items olds ++ l) whole ∙ sym (append_assoc (items olds) piece behind) ∙ ap (λ (l : List ℕ). l ++ behind) takes.split
        ∙ append_assoc (items news) takes.rest behind

    place : at + count ≡ 21 + length (items news)
    place = omega (arith, before.place, takes.size, ap length takes.split, length-append (items olds) piece, length-append (items news) takes.rest)

    some : 0 < length (takes.rest ++ behind)
    some = omega (arith, takes.some, length-append takes.rest behind)

    pub taken : IsReadTo news (at + count) file
    taken = reached news (at + count) (takes.rest ++ behind) moved place some (takes.sized before.sized)

    pub stopped : StopsAt stop (drop (at + count) file)
    stopped = subst (StopsAt stop) (sym (there news (at + count) (takes.rest ++ behind) moved place some)) (more stop takes.rest behind takes.stops)

  module _ (bodies : List (List ℕ)) (at : ℕ) (before : IsReadTo bodies at file) where
    pub ends : IsShut (drop at file) → EndsAt bodies at (drop 21 file)
    ends shut = record {
      gate = shut.gate;
      rest = shut.rest;
      closed = shut.closed;
      split = before.split ∙ ap (λ (l : List ℕ). items bodies ++ l) shut.split;
      sized = before.sized;
      place = before.place;
    }

    -- the file ends before the item does
    pub breaks : (need : ℕ) → NeedsAt need (drop at file) → length file < at + need → BreaksIn at (drop 21 file)
    breaks need needs short = record {
      bodies = bodies;
      rest = drop 1 (drop at file);
      split = before.split ∙ ap (λ (l : List ℕ). items bodies ++ l) needs.gate;
      sized = before.sized;
      broken = subst LacksItem needs.gate (lacks need (drop at file) needs (omega (arith, short, length-drop at file)));
      place = before.place;
    }

    -- the body of the item was read by itself
    module _ (need : ℕ) (needs : NeedsAt need (drop at file)) (long : 6 < need) (fits : at + need ≤ length file) (body : List ℕ) (is : body ≡ take (need - 6) (drop (at + 5) file)) where
      abbrev here : List ℕ
      here = drop at file

      abbrev back : List ℕ
      back = drop (need - 6) (drop 5 here)

      size : length body ≡ need - 6
      size = ap length is ∙ length-take-le (need - 6) (drop (at + 5) file) (omega (arith, long, fits, length-drop (at + 5) file))

      parts : drop 5 here ≡ body ++ back
      parts =
          let same : drop 5 here ≡ drop (at + 5) file = drop-drop 5 at file in
          sym (take-append-drop (need - 6) (drop 5 here)) ∙ ap (λ (l : List ℕ). l ++ back) (ap (λ (l : List ℕ). take (need - 6) l) same ∙ sym is)

      item : here ≡ 1 ∷ framed body ++ back
      item = needs.named long ∙ (λ i. 1 ∷ to_le_bytes w32 (sym size i) ++ parts i) ∙ ap (λ (l : List ℕ). 1 ∷ l) (sym (append_assoc (to_le_bytes w32 (length body)) body back))

      split_long : drop 21 file ≡ items (bodies ++ body ∷ []) ++ back
      split_long =
          before.split ∙ ap (λ (l : List ℕ). items bodies ++ l) item ∙ sym (append_assoc (items bodies) (1 ∷ framed body) back) ∙ ap (λ (l : List ℕ). l ++ back) (sym (items-push bodies body))

      pub passed : IsReadTo (bodies ++ body ∷ []) (at + (need - 1)) file
      passed =
          reached (bodies ++ body ∷ []) (at + (need - 1)) back split_long
          (omega (arith, before.place, size, long, ap length (items-push bodies body), length-append (items bodies) (1 ∷ framed body)))
          (omega (arith, fits, size, long, ap length parts, length-append body back, length-drop 5 here, length-drop at file))
          (sized-push bodies body before.sized (omega (arith, size, needs.most)))
