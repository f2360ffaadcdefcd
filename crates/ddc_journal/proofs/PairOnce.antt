-- Two files are at most one pair, or have one fault.
use Rattle.std.proofs.Common.{◌≡◌, List, ℕ, sym, subst, arith}
use Rattle.std.specs.Prelude.{Bool, true, false}
use Rattle.ddc_journal.specs.Laws.{NotMadeIsNone, OnePair, OnePairFault, PairOrFault}
use Rattle.ddc_journal.specs.Pairs.{pair_kind, taken, takes_second, NoneMade}
use Rattle.ddc_journal.specs.inside.Closing.{IsUnmade}
use Rattle.ddc_journal.proofs.Once.{journal_or_fault, one_fault, one_journal}
use Rattle.ddc_journal.proofs.Pairing.{is_greater, is_not_greater, not_greater, taken_is}
use Rattle.ddc_journal.proofs.Ranks.{rank_unmade, unmade_rank}

pub one_pair : OnePair
one_pair first second version other bodies others small other_small x y =
    let one = one_journal (taken first second) version other x.generation y.generation bodies others small other_small x.loads y.loads in
    (one.0, one.2)

pub pair_or_fault : PairOrFault
pair_or_fault newest first second version bodies fault small least most x content is =
    journal_or_fault (pair_kind newest (takes_second first second)) (taken first second) version x.generation bodies fault (least, most) (omega (arith, small, most)) x.loads content is

pub one_pair_fault : OnePairFault
one_pair_fault newest first second fault other cx cy x y = one_fault (pair_kind newest (takes_second first second)) (taken first second) fault other cx cy x y

-- where the taken file isn't made, both have the rank 0
none_made : (s : Bool) (a b : List ℕ) → s ≡ takes_second a b → IsUnmade (taken a b) → NoneMade a b
none_made true a b e off =
    let lt = is_greater a b e in
    absurd (omega (arith, lt, rank_unmade b (subst IsUnmade (taken_is true a b e) off)))
none_made false a b e off =
    let le = is_not_greater a b e in
    let first = subst IsUnmade (taken_is false a b e) off in
    (first, unmade_rank b (omega (arith, le, rank_unmade a first)))

none_taken : (a b : List ℕ) → NoneMade a b → IsUnmade (taken a b)
none_taken a b none = subst IsUnmade (sym (taken_is false a b (not_greater a b (omega (arith, rank_unmade b none.1))))) none.0

pub not_made_is_none : NotMadeIsNone
not_made_is_none newest first second = (none_made (takes_second first second) first second (λ i. takes_second first second), none_taken first second)
