-- What more steps do to the counts of a history, and when they are lawful.
use Rattle.std.specs.Prelude.{◌≡◌, ℕ, ◌+◌, ◌≤◌, true, false, List, [], ◌∷◌, ◌++◌, length, None, refl}
use Rattle.std.proofs.Common.{ap, sym, ◌∙◌, arith}
use Rattle.std.proofs.lemmas.List.{append-nil}
use Rattle.ddc_model.specs.declared.rows.Limits.{Limits}
use Rattle.ddc_model.specs.declared.entry.Entry.{Entry}
use Rattle.ddc_model.specs.declared.entry.Step.{Step}
use Rattle.ddc_model.specs.declared.entry.Step.TheVariants.{Loaded, Change, Lease, Unlease, Broke}
use Rattle.ddc_model.specs.State.{State}
use Rattle.ddc_model.specs.Entries.{after}
use Rattle.ddc_model.specs.History.{after_step, after_steps, broken_by, leases_after, leases_of_all, past_after, past_of_all, Leases, Past, AreLawful}
use Rattle.ddc_book.specs.View.{opened_count, sure_count}

pub past_more : (past : Past) (steps more : List Step) → past_of_all past (steps ++ more) ≡ past_of_all (past_of_all past steps) more
past_more past [] more = refl
past_more past (step ∷ steps) more = past_more (past_after past step) steps more

pub steps_more : (s : State) (steps more : List Step) → after_steps s (steps ++ more) ≡ after_steps (after_steps s steps) more
steps_more s [] more = refl
steps_more s (step ∷ steps) more = steps_more (after_step s step) steps more

-- where nothing broke, a store is broken by what follows
pub broken_more : (steps more : List Step) → broken_by steps ≡ None → broken_by (steps ++ more) ≡ broken_by more
broken_more [] more none = refl
broken_more (Loaded limits faults ∷ steps) more none = broken_more steps more none
broken_more (Change entry ∷ steps) more none = broken_more steps more none
broken_more (Lease number space hash ∷ steps) more none = broken_more steps more none
broken_more (Unlease number ∷ steps) more none = broken_more steps more none
broken_more (Broke changed before now ∷ steps) more none = absurd (cc)

-- where nothing broke, nothing broke after the opening
pub unbroken_after : (opened : List Step) (limits : Limits) (faults : ℕ) (made : List Step) → broken_by (opened ++ Loaded limits faults ∷ made) ≡ None → broken_by made ≡ None
unbroken_after [] limits faults made none = none
unbroken_after (Loaded l f ∷ opened) limits faults made none = unbroken_after opened limits faults made none
unbroken_after (Change entry ∷ opened) limits faults made none = unbroken_after opened limits faults made none
unbroken_after (Lease number space hash ∷ opened) limits faults made none = unbroken_after opened limits faults made none
unbroken_after (Unlease number ∷ opened) limits faults made none = unbroken_after opened limits faults made none
unbroken_after (Broke changed before now ∷ opened) limits faults made none = absurd (cc)

pub lawful_more : (faults : ℕ) (s : State) (leases : Leases) (made more : List Step) → broken_by made ≡ None → AreLawful faults s leases made
    → AreLawful faults (after_steps s made) (leases_of_all leases made) more → AreLawful faults s leases (made ++ more)
lawful_more faults s leases [] more none lawful then = then
lawful_more faults s leases (Loaded limits count ∷ made) more none lawful then = absurd lawful
lawful_more faults s leases (Change entry ∷ made) more none lawful then = (lawful.0, lawful_more faults (after s entry) leases made more none lawful.1 then)
lawful_more faults s leases (Lease number space hash ∷ made) more none lawful then =
    (lawful.0, lawful_more faults s (leases_after leases (Lease number space hash)) made more none lawful.1 then)
lawful_more faults s leases (Unlease number ∷ made) more none lawful then = (lawful.0, lawful_more faults s (leases_after leases (Unlease number)) made more none lawful.1 then)
lawful_more faults s leases (Broke changed before now ∷ made) more none lawful then = absurd (cc)

-- ---- how many steps a crash keeps

-- the steps after an opening don't change where it stands
pub opened_within : (opened : List Step) (limits : Limits) (faults : ℕ) (made : List Step) → opened_count (opened ++ Loaded limits faults ∷ made) ≤ length (opened ++ Loaded limits faults ∷ made)
opened_within [] limits faults made = omega arith
opened_within (Loaded l f ∷ opened) limits faults made = omega arith
opened_within (Change entry ∷ opened) limits faults made = omega (arith, opened_within opened limits faults made)
opened_within (Lease number space hash ∷ opened) limits faults made = omega (arith, opened_within opened limits faults made)
opened_within (Unlease number ∷ opened) limits faults made = omega (arith, opened_within opened limits faults made)
opened_within (Broke changed before now ∷ opened) limits faults made = omega (arith, opened_within opened limits faults made)

pub opened_still : (opened : List Step) (limits : Limits) (faults : ℕ) (made more : List Step) → opened_count ((opened ++ Loaded limits faults ∷ made) ++ more) ≡ opened_count (opened ++ Loaded limits faults ∷ made)
opened_still [] limits faults made more = refl
opened_still (Loaded l f ∷ opened) limits faults made more = refl
opened_still (Change entry ∷ opened) limits faults made more = ap (λ (n : ℕ). 1 + n) (opened_still opened limits faults made more)
opened_still (Lease number space hash ∷ opened) limits faults made more = ap (λ (n : ℕ). 1 + n) (opened_still opened limits faults made more)
opened_still (Unlease number ∷ opened) limits faults made more = ap (λ (n : ℕ). 1 + n) (opened_still opened limits faults made more)
opened_still (Broke changed before now ∷ opened) limits faults made more = ap (λ (n : ℕ). 1 + n) (opened_still opened limits faults made more)

-- all steps of a store that didn't break are sure, but for those that follow and of which it says so
sure_tail : (tail : List Step) (n : ℕ) → ((entry : Entry) → sure_count (Change entry ∷ tail) ≡ n + 1) → sure_count tail ≡ n → (steps : List Step) → broken_by steps ≡ None → sure_count (steps ++ tail) ≡ length steps + n
sure_tail tail n change is [] none = is ∙ (let e : n ≡ 0 + n = omega arith in e)
sure_tail tail n change is (Loaded limits faults ∷ steps) none = let rest = sure_tail tail n change is steps none in omega (arith, rest)
sure_tail tail n change is (Lease number space hash ∷ steps) none = let rest = sure_tail tail n change is steps none in omega (arith, rest)
sure_tail tail n change is (Unlease number ∷ steps) none = let rest = sure_tail tail n change is steps none in omega (arith, rest)
sure_tail tail n change is (Broke changed before now ∷ steps) none = absurd (cc)
sure_tail tail n change is (Change entry ∷ []) none = let one = change entry in omega (arith, one)
sure_tail tail n change is (Change entry ∷ Loaded limits faults ∷ steps) none = let rest = sure_tail tail n change is (Loaded limits faults ∷ steps) none in omega (arith, rest)
sure_tail tail n change is (Change entry ∷ Change other ∷ steps) none = let rest = sure_tail tail n change is (Change other ∷ steps) none in omega (arith, rest)
sure_tail tail n change is (Change entry ∷ Lease number space hash ∷ steps) none = let rest = sure_tail tail n change is (Lease number space hash ∷ steps) none in omega (arith, rest)
sure_tail tail n change is (Change entry ∷ Unlease number ∷ steps) none = let rest = sure_tail tail n change is (Unlease number ∷ steps) none in omega (arith, rest)
sure_tail tail n change is (Change entry ∷ Broke changed before now ∷ steps) none = absurd (cc)

pub sure_all : (steps : List Step) → broken_by steps ≡ None → sure_count steps ≡ length steps
sure_all steps none = let all = sure_tail [] 0 (λ entry. refl) refl steps none in ap sure_count (sym (append-nil steps)) ∙ (let same : length steps + 0 ≡ length steps = omega arith in all ∙ same)

pub sure_more : (steps : List Step) (entry : Entry) → broken_by steps ≡ None → sure_count (steps ++ Change entry ∷ []) ≡ length steps + 1
sure_more steps entry none = sure_tail (Change entry ∷ []) 1 (λ other. refl) refl steps none

-- the change of a call that failed is not sure
pub sure_unwritten : (steps : List Step) (entry : Entry) (before now : ℕ) → broken_by steps ≡ None → sure_count (steps ++ Change entry ∷ Broke true before now ∷ []) ≡ length steps
sure_unwritten steps entry before now none = let all = sure_tail (Change entry ∷ Broke true before now ∷ []) 0 (λ other. refl) refl steps none in omega (arith, all)

-- a read that failed changed nothing
pub sure_unread : (steps : List Step) (before now : ℕ) → broken_by steps ≡ None → sure_count (steps ++ Broke false before now ∷ []) ≡ length steps + 1
sure_unread steps before now none = sure_tail (Broke false before now ∷ []) 1 (λ other. refl) refl steps none
