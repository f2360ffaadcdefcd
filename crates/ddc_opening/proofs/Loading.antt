-- What a pair that is loaded tells of its two files.
use Rattle.std.proofs.Common.{◌≡◌, ℕ, ◌+◌, ◌<◌, ◌≤◌, ◌^◌, inr, List, [], ◌∷◌, ◌++◌, length, ◌∙◌, ap, subst, arith, length-append}
use Rattle.std.specs.Prelude.{Bool, true, false, if◌then◌else◌, map}
use Rattle.ddc_journal.specs.Journal.{framed, items, head_bytes, journal_bytes, front_size, IsJournal}
use Rattle.ddc_journal.specs.Faults.{IsKnown}
use Rattle.ddc_journal.specs.Pairs.{pair_kind, taken, takes_second, IsOpenPair, IsPairOf, PairView}
use Rattle.ddc_model.specs.declared.rows.Limits.{Limits}
use Rattle.ddc_model.specs.declared.entry.Entry.{Entry}
use Rattle.ddc_model.specs.declared.entry.Step.{Step}
use Rattle.ddc_model.specs.declared.entry.Step.TheVariants.{Change}
use Rattle.ddc_model.specs.State.{State, empty_state}
use Rattle.ddc_opening.specs.Opening.{version, after_all, HoldEntries, OpenFaultOf}
use Rattle.ddc_opening.specs.inside.Replaying.{AreReplayed, ReplayFault}
use Rattle.ddc_opening.specs.declared.fault.OpenFault.{OpenFault}
use Rattle.ddc_opening.specs.declared.fault.OpenFault.TheVariants.{DiskFailed, NotMade, Corrupt, BadVersion, Unsound, NoMemory}

-- more items are longer
longer : (good others : List (List ℕ)) → length (items good) ≤ length (items (good ++ others))
longer [] others = omega arith
longer (body ∷ good) others = omega (arith, longer good others, length-append (framed body) (items good), length-append (framed body) (items (good ++ others)))

-- where the items begin
after_front : (version generation : ℕ) (bodies : List (List ℕ)) → length (journal_bytes version generation bodies) ≡ front_size + length (items bodies)
after_front version generation bodies = omega (arith, length-append (head_bytes version generation) (1 ∷ items bodies))

-- one of two short files is short
short_either : (s : Bool) (a b : List ℕ) → length a < 2 ^ 64 → length b < 2 ^ 64 → length (if s then b else a) < 2 ^ 64
short_either true a b small_a small_b = small_b
short_either false a b small_a small_b = small_a

module _ (a b : List ℕ) (pair : PairView) (bodies : List (List ℕ)) (is : IsOpenPair a b pair bodies × IsKnown (pair_kind version pair.second) pair.version) where
  -- the version is that of a store
  pub is_version : pair.version ≡ version
  is_version = let known = is.1 in omega (arith, known.0, known.1)

  is_journal : IsJournal version pair.generation bodies (taken a b)
  is_journal = let opened = is.0 in subst (λ (v : ℕ). IsJournal v pair.generation bodies (taken a b)) is_version opened.journal

  is_pair : IsPairOf version bodies a b
  is_pair = record { generation = pair.generation; loads = is_journal }

  -- the two files hold the entries of these steps
  pub holds_told : (limits : Limits) (s : State) (steps : List Step) → AreReplayed limits bodies s steps → (all : List Entry) × HoldEntries limits a b all × (steps ≡ map Change all) × (s ≡ after_all (empty_state limits) all)
  holds_told limits s steps replayed =
      (replayed.all, record { bodies = bodies; loads = is_pair; spelled = replayed.spelled; are_legal = replayed.are_legal }, replayed.steps_are, replayed.state)

  -- why their bodies can't be replayed is a fault of the two
  pub fault_told : length a < 2 ^ 64 → length b < 2 ^ 64 → (limits : Limits) (file : ℕ) → file ≡ (if pair.second then 1 else 0) → (fault : OpenFault) → ReplayFault limits bodies file fault → OpenFaultOf limits a b fault
  fault_told small_a small_b limits file active (Corrupt which at) x =
      let opened = is.0 in
      let stops = x.1 in
      let all = stops.good ++ stops.bad ∷ stops.others in
      let journal = is_journal in
      let long : length (taken a b) ≡ length (journal_bytes version pair.generation bodies) + length (journal.gate ∷ journal.rest) = ap length journal.split ∙ length-append (journal_bytes version pair.generation bodies) (journal.gate ∷ journal.rest) in
      let same : length (items bodies) ≡ length (items all) = ap (λ (l : List (List ℕ)). length (items l)) stops.split in
      let more = longer stops.good (stops.bad ∷ stops.others) in
      let small = short_either (takes_second a b) a b small_a small_b in
      inr (
        x.0 ∙ active ∙ ap (λ (s : Bool). if s then 1 else 0) opened.active,
        record {
          good = stops.good;
          bad = stops.bad;
          others = stops.others;
          all = stops.all;
          loads = subst (λ (l : List (List ℕ)). IsPairOf version l a b) stops.split is_pair;
          spelled = stops.spelled;
          are_legal = stops.are_legal;
          no_change = stops.no_change;
          place = omega (arith, stops.place, long, same, more, small, after_front version pair.generation bodies);
        },
      )
  fault_told small_a small_b limits file active (Unsound name) x =
      let replayed = x.2 in
      (x.0, (replayed.all, record { bodies = bodies; loads = is_pair; spelled = replayed.spelled; are_legal = replayed.are_legal }, replayed.state), x.3)
  fault_told small_a small_b limits file active NoMemory x = tt
  fault_told small_a small_b limits file active NotMade x = absurd x
  fault_told small_a small_b limits file active (BadVersion found) x = absurd x
  fault_told small_a small_b limits file active DiskFailed x = absurd x
