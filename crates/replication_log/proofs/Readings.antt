-- A log beside all events that were added to it, and what a reader has read of them.
use Rattle.std.proofs.Common.{◌≡◌, ℕ, zero, suc, ◌+◌, ◌-◌, ◌≤◌, min, Bool, true, false, cond, ◌||◌, nat_lt, ◌⊎◌, inl, inr, Ok, List, [], ◌∷◌, ◌++◌, length, take, drop, refl, sym, ap, ◌∙◌, subst, arith, length-append, eq-eqb}
use Rattle.std.proofs.lemmas.List.{length-take, length-drop, drop-drop, take-append-drop, take-append-le, take_all}
use Rattle.std.proofs.Math.Seq.{take-append-add}
use Rattle.replication_log.specs.declared.event.Event.{Event}
use Rattle.replication_log.specs.Logs.{Log, newest, with_event, first_number, oldest_of, AreNumbered, can_follow}
use Rattle.replication_log.specs.LogPages.{events_after, ReadsOn}
use Rattle.replication_log.specs.Readers.{IsHistory, LogKeepsNewest, last_number, Reading, begins, added, turned, MissesNothing, ReaderMissesNothing, ReaderReadsAll, PageGoesOn}
use Rattle.replication_log.proofs.Numbers.{first_is, numbered_at, numbered_drop, after_drop}
use Rattle.replication_log.proofs.Newest.{IsRun, run_added, follows, newest_added}

none_before : (log : Log) (all : List Event) (e : Event) → IsHistory all log → ((length log.events ≡ 0) × (1 ≤ e.number)) ⊎ (e.number ≡ log.last + 1) → ((length all ≡ 0) × (1 ≤ e.number)) ⊎ (e.number ≡ log.last + 1)
none_before log all e h (inl none) = inl ((omega (arith, none.0, h.some, ap length h.has, length-drop (length all - log.kept) all)), none.1)
none_before log all e h (inr next) = inr next

pub keeps_newest : LogKeepsNewest
keeps_newest all log e h may =
    let run : (n : ℕ) × IsRun n e.number (all ++ e ∷ []) =
    run_added (first_number (log.last + 1) all) log.last all e (record { counted = h.counted; numbered = h.numbered; ends = h.ends }) (none_before log all e h (follows log e.number may)) in
    let is : first_number (e.number + 1) (all ++ e ∷ []) ≡ run.0 = first_is run.0 (e.number + 1) (all ++ e ∷ []) run.1.numbered run.1.ends in
    record {
      some = h.some;
      counted = omega (arith, is, run.1.counted);
      numbered = numbered_at run.0 (first_number (e.number + 1) (all ++ e ∷ [])) (all ++ e ∷ []) (sym is) run.1.numbered;
      ends = omega (arith, is, run.1.ends);
      has = ap (λ (es : List Event). newest log.kept (es ++ e ∷ [])) h.has ∙ newest_added log.kept all e;
    }

or_right : (a b : Bool) → b ≡ true → (a || b) ≡ true
or_right true b h = refl
or_right false b h = h

next_may : (log : Log) (number : ℕ) → number ≡ log.last + 1 → can_follow log number ≡ true
next_may log number next = or_right _ _ (eq-eqb number (log.last + 1) next)

-- what a reader has read, with what its next page needs: once it has read anything, the history doesn't begin after it
record Stands (from : ℕ) (all : List Event) (log : Log) (read : List Event) (at : ℕ) : Type 0 where
  history : IsHistory all log
  reads : MissesNothing from all read at
  met : (read ≡ []) ⊎ (first_number (log.last + 1) all ≤ from + 1)

first_stays : (next : ℕ) (all : List Event) (e : Event) → e.number ≡ next → first_number (e.number + 1) (all ++ e ∷ []) ≡ first_number next all
first_stays next [] e is = is
first_stays next (x ∷ all) e is = refl

filter_front : (b : Bool) (e : Event) (es fs : List Event) → cond b (e ∷ (es ++ fs)) (es ++ fs) ≡ cond b (e ∷ es) es ++ fs
filter_front true e es fs = refl
filter_front false e es fs = refl

after-append : (es fs : List Event) (a : ℕ) → events_after (es ++ fs) a ≡ events_after es a ++ events_after fs a
after-append [] fs a = refl
after-append (e ∷ es) fs a = ap (λ (l : List Event). cond (nat_lt a e.number) (e ∷ l) l) (after-append es fs a) ∙ filter_front (nat_lt a e.number) e (events_after es a) (events_after fs a)

still_first : (all read : List Event) (e : Event) (from : ℕ) → read ≡ take (length read) (events_after all from) → read ≡ take (length read) (events_after (all ++ e ∷ []) from)
still_first all read e from first =
    let within : length read ≤ length (events_after all from) = omega (arith, ap length first, length-take (length read) (events_after all from)) in
    first
    ∙ sym (take-append-le (length read) (events_after all from) (events_after (e ∷ []) from) within)
    ∙ ap (take (length read)) (sym (after-append all (e ∷ []) from))

stands_added : (from at : ℕ) (all read : List Event) (log : Log) (e : Event) → e.number ≡ log.last + 1 → Stands from all log read at → Stands from (all ++ e ∷ []) (with_event log e) read at
stands_added from at all read log e next s = record {
  history = keeps_newest all log e s.history (next_may log e.number next);
  reads = record { first = still_first all read e from s.reads.first; counted = s.reads.counted };
  met = elim s.met [ inl none ↦ inl none | inr le ↦ inr (omega (arith, le, first_stays (log.last + 1) all e next)) ];
}

take_again : (n : ℕ) (es : List Event) → take n es ≡ take (length (take n es)) es
take_again zero es = refl
take_again (suc n) [] = refl
take_again (suc n) (e ∷ es) = ap (λ (l : List Event). e ∷ l) (take_again n es)

-- a front of some events, and a page from its end
joined : (all read page : List Event) (count : ℕ) → read ≡ take (length read) all → page ≡ take count (drop (length read) all) → read ++ page ≡ take (length (read ++ page)) all
joined all read page count front next =
    let rest : List Event = drop (length read) all in
    let whole : read ++ rest ≡ all = ap (λ (l : List Event). l ++ rest) front ∙ take-append-drop (length read) all in
    let own : page ≡ take (length page) rest = next ∙ take_again count rest ∙ ap (λ (l : List Event). take (length l) rest) (sym next) in
    ap (λ (l : List Event). read ++ l) own
    ∙ sym (take-append-add read rest (length page))
    ∙ ap (λ (n : ℕ). take n (read ++ rest)) (sym (length-append read page))
    ∙ ap (take (length (read ++ page))) whole

numbered_take : (n count : ℕ) (es : List Event) → AreNumbered n es → AreNumbered n (take count es)
numbered_take n zero es numbered = tt
numbered_take n (suc count) [] numbered = tt
numbered_take n (suc count) (e ∷ es) numbered = (numbered.0, numbered_take (n + 1) count es numbered.1)

last_is : (a : ℕ) (es : List Event) → AreNumbered (a + 1) es → last_number a es ≡ a + length es
last_is a [] numbered = omega arith
last_is a (e ∷ es) numbered = last_is e.number es (numbered_at (a + 1 + 1) (e.number + 1) es (omega (arith, numbered.0)) numbered.1) ∙ omega (arith, numbered.0)

-- what a log has after a number is what was ever added after it, where none of that has gone
after_all : (all : List Event) (log : Log) (at : ℕ) → IsHistory all log → oldest_of log ≤ at + 1 → (first_number (log.last + 1) all ≤ at + 1) × (events_after log.events at ≡ drop (at + 1 - first_number (log.last + 1) all) all)
after_all all log at h there =
    let n : ℕ = first_number (log.last + 1) all in
    let j : ℕ = length all - log.kept in
    let numbered : AreNumbered (n + j) (newest log.kept all) = numbered_drop n all j h.numbered in
    let oldest : first_number (log.last + 1) (newest log.kept all) ≡ n + j = first_is (n + j) (log.last + 1) (newest log.kept all) numbered (omega (arith, h.ends, length-drop j all)) in
    let le : n + j ≤ at + 1 = omega (arith, there, oldest, ap (first_number (log.last + 1)) h.has) in (
      omega (arith, le),
      ap (λ (es : List Event). events_after es at) h.has
          ∙ after_drop (n + j) (newest log.kept all) at numbered
          ∙ drop-drop (at + 1 - (n + j)) j all
          ∙ ap (λ (k : ℕ). drop k all) (let steps : j + (at + 1 - (n + j)) ≡ at + 1 - n = omega (arith, le) in steps),
    )

steps_on : (n from at : ℕ) (read : List Event) → at ≡ from + length read → (read ≡ []) ⊎ (n ≤ from + 1) → from + 1 - n + length read ≡ at + 1 - n
steps_on n from at read counted (inl none) = omega (arith, counted, ap length none)
steps_on n from at read counted (inr le) = omega (arith, counted, le)

met_now : (n from at : ℕ) (read : List Event) → at ≡ from + length read → n ≤ at + 1 → (read ≡ []) ⊎ (n ≤ from + 1) → n ≤ from + 1
met_now n from at read counted le (inl none) = omega (arith, counted, le, ap length none)
met_now n from at read counted le (inr met) = met

stands_turned : (from at count : ℕ) (all read page : List Event) (log : Log) → ReadsOn log at count (Ok page) → Stands from all log read at → Stands from all log (read ++ page) (last_number at page)
stands_turned from at count all read page log page_is s =
    let n : ℕ = first_number (log.last + 1) all in
    let there : (n ≤ at + 1) × (events_after log.events at ≡ drop (at + 1 - n) all) = after_all all log at s.history page_is.0.1 in
    let next : page ≡ take count (drop (length read) (events_after all from)) =
    page_is.1
    ∙ ap (take count) there.1
    ∙ ap (λ (k : ℕ). take count (drop k all)) (sym (steps_on n from at read s.reads.counted s.met))
    ∙ ap (take count) (sym (drop-drop (length read) (from + 1 - n) all))
    ∙ ap (λ (es : List Event). take count (drop (length read) es)) (sym (after_drop n all from s.history.numbered)) in
    let rest : AreNumbered (at + 1) (drop (at + 1 - n) all) = numbered_at (n + (at + 1 - n)) (at + 1) (drop (at + 1 - n) all) (omega (arith, there.0)) (numbered_drop n all (at + 1 - n) s.history.numbered) in
    let numbered : AreNumbered (at + 1) page = subst (AreNumbered (at + 1)) (sym (page_is.1 ∙ ap (take count) there.1)) (numbered_take (at + 1) count (drop (at + 1 - n) all) rest) in
    record {
      history = s.history;
      reads = record {
        first = joined (events_after all from) read page count s.reads.first next;
        counted = last_is at page numbered ∙ omega (arith, s.reads.counted, length-append read page);
      };
      met = inr (met_now n from at read s.reads.counted there.0 s.met);
    }

stands : (from at : ℕ) (all read : List Event) (log : Log) → Reading from all log read at → Stands from all log read at
stands from _ _ _ _ (begins all log h) = record { history = h; reads = record { first = refl; counted = omega arith }; met = inl refl }
stands from _ _ _ _ (added all read log at e next r) = stands_added from at all read log e next (stands from at all read log r)
stands from _ _ _ _ (turned all read page log at count is r) = stands_turned from at count all read page log is (stands from at all read log r)

pub misses_nothing : ReaderMissesNothing
misses_nothing from at all read log r = (stands from at all read log r).reads

pub reads_all : ReaderReadsAll
reads_all from all read log r =
    let s : Stands from all log read log.last = stands from log.last all read log r in
    let n : ℕ = first_number (log.last + 1) all in
    let left : length (events_after all from) ≡ length all - (from + 1 - n) = ap length (after_drop n all from s.history.numbered) ∙ length-drop (from + 1 - n) all in
    let few : length (events_after all from) ≤ length read = omega (arith, left, s.history.ends, s.reads.counted, steps_on n from log.last read s.reads.counted s.met) in
    s.reads.first ∙ take_all (length read) (events_after all from) few

pub page_goes_on : PageGoesOn
page_goes_on log after count page is page_is =
    let oldest : ℕ = oldest_of log in
    let left : length (events_after log.events after) ≡ length log.events - (after + 1 - oldest) = ap length (after_drop oldest log.events after is.numbered) ∙ length-drop (after + 1 - oldest) log.events in
    let same : length (events_after log.events after) ≡ log.last - after = omega (arith, left, is.ends, page_is.0.0, page_is.0.1) in
    ap length page_is.1 ∙ length-take count (events_after log.events after) ∙ ap (λ (n : ℕ). min count n) same
