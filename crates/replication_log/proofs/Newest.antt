-- The newest of some events, and what adding one leaves.
use Rattle.std.proofs.Common.{◌≡◌, ℕ, ◌+◌, ◌-◌, ◌≤◌, ◌==◌, nat_le, Bool, true, false, ◌&&◌, ◌||◌, ◌⊎◌, inl, inr, List, [], ◌∷◌, ◌++◌, length, drop, refl, sym, ap, ◌∙◌, arith, length-append}
use Rattle.std.proofs.lemmas.Bool.{eqb-true, leb-true}
use Rattle.std.proofs.lemmas.List.{length-drop, drop-drop, drop-append-le}
use Rattle.replication_log.specs.declared.event.Event.{Event}
use Rattle.replication_log.specs.Logs.{Log, newest, with_event, first_number, oldest_of, AreNumbered, IsLog, can_follow}
use Rattle.replication_log.proofs.Numbers.{first_is, numbered_at, numbered_drop, numbered_append}

-- events with consecutive numbers from `first`, at least 1, up to `last`
pub record IsRun (first last : ℕ) (es : List Event) : Type 0 where
  pub counted : 1 ≤ first
  pub numbered : AreNumbered first es
  pub ends : first + length es ≡ last + 1

-- one event more, where it has the next number, or any number and there is none before it
pub run_added : (first last : ℕ) (es : List Event) (e : Event) → IsRun first last es → ((length es ≡ 0) × (1 ≤ e.number)) ⊎ (e.number ≡ last + 1) → (n : ℕ) × IsRun n e.number (es ++ e ∷ [])
run_added first last es e run (inr next) = (
  first,
  record {
    counted = run.counted;
    numbered = numbered_append first es e run.numbered (omega (arith, next, run.ends));
    ends = omega (arith, next, run.ends, length-append es (e ∷ []));
  },
)
run_added first last [] e run (inl any) = (e.number, record { counted = any.1; numbered = (refl, tt); ends = refl })
run_added first last (x ∷ es) e run (inl any) = absurd (omega (arith, any.0))

both : (a b : Bool) → (a && b) ≡ true → (a ≡ true) × (b ≡ true)
both true b h = (refl, h)
both false b h = absurd (cc)

either : (a b : Bool) → (a || b) ≡ true → (a ≡ true) ⊎ (b ≡ true)
either true b h = inl refl
either false b h = inr h

pub follows : (log : Log) (number : ℕ) → can_follow log number ≡ true → ((length log.events ≡ 0) × (1 ≤ number)) ⊎ (number ≡ log.last + 1)
follows log number h = elim (either _ _ h) [
  | inl none ↦ (let parts : ((length log.events == 0) ≡ true) × (nat_le 1 number ≡ true) = both _ _ none in inl (eqb-true _ _ parts.0, leb-true _ _ parts.1))
  | inr next ↦ inr (eqb-true _ _ next)
]

pub run_of_log : (log : Log) → IsLog log → IsRun (oldest_of log) log.last log.events
run_of_log log is = record { counted = is.counted; numbered = is.numbered; ends = is.ends }

-- the newest of a run of events are a log
pub newest_is_log : (kept first last : ℕ) (all : List Event) → 1 ≤ kept → 1 ≤ length all → IsRun first last all → IsLog (record { kept = kept; last = last; events = newest kept all })
newest_is_log kept first last all some one run =
    let j : ℕ = length all - kept in
    let len : length (newest kept all) ≡ length all - j = length-drop j all in
    let numbered : AreNumbered (first + j) (newest kept all) = numbered_drop first all j run.numbered in
    let ends : first + j + length (newest kept all) ≡ last + 1 = omega (arith, len, run.ends) in
    let is : first_number (last + 1) (newest kept all) ≡ first + j = first_is (first + j) (last + 1) (newest kept all) numbered ends in
    record {
      some = some;
      few = omega (arith, len);
      counted = omega (arith, is, run.counted);
      numbered = numbered_at (first + j) (first_number (last + 1) (newest kept all)) (newest kept all) (sym is) numbered;
      ends = omega (arith, is, ends);
      fresh = λ none. absurd (omega (arith, len, some, one, ap length none));
    }

pub with_is_log : (log : Log) (e : Event) → IsLog log → can_follow log e.number ≡ true → IsLog (with_event log e)
with_is_log log e is may =
    let run : (n : ℕ) × IsRun n e.number (log.events ++ e ∷ []) = run_added _ _ _ e (run_of_log log is) (follows log e.number may) in
    newest_is_log log.kept run.0 e.number (log.events ++ e ∷ []) is.some (omega (arith, length-append log.events (e ∷ []))) run.1

-- the newest of the newest and one more are the newest of all and one more
pub newest_added : (kept : ℕ) (all : List Event) (e : Event) → newest kept (newest kept all ++ e ∷ []) ≡ newest kept (all ++ e ∷ [])
newest_added kept all e =
    let j : ℕ = length all - kept in
    let within : j ≤ length all = omega arith in
    let short : length (newest kept all ++ e ∷ []) ≡ length all - j + 1 = length-append (newest kept all) (e ∷ []) ∙ ap (λ (n : ℕ). n + 1) (length-drop j all) in
    let long : length (all ++ e ∷ []) ≡ length all + 1 = length-append all (e ∷ []) in
    let steps : j + (length (newest kept all ++ e ∷ []) - kept) ≡ length (all ++ e ∷ []) - kept = omega (arith, short, long) in
    ap (drop (length (newest kept all ++ e ∷ []) - kept)) (sym (drop-append-le j all (e ∷ []) within))
    ∙ drop-drop (length (newest kept all ++ e ∷ []) - kept) j (all ++ e ∷ [])
    ∙ ap (λ (n : ℕ). drop n (all ++ e ∷ [])) steps
