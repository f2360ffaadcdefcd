use Rattle.std.proofs.Common.{◌≡◌, ◌∙◌, ℕ, refl, sym, subst, ap, arith}
use Rattle.ddc_book.specs.View.{book_faults}
use Rattle.ddc_http.specs.Stream.{source_of, held_of, ahead_of, place_of}
use Rattle.ddc_service.specs.declared.session.SessionEnd.{SessionEnd}
use Rattle.ddc_service.specs.declared.session.SessionEnd.TheVariants.{Spent}
use Rattle.ddc_service.specs.declared.session.Turn.{Turn}
use Rattle.ddc_service.specs.declared.session.Turn.TheVariants.{Answered, Over}
use Rattle.ddc_service.specs.Effects.{effect}
use Rattle.ddc_service.specs.Replies.{closes}
use Rattle.ddc_service.specs.Session.{session, store_of, IsSession}
use Rattle.ddc_service.proofs.Writing.{rose_later}
use Rattle.ddc_service.proofs.Turning.{ends_counts}
use Rattle.ddc_service.proofs.Runs.{SoFar, at_start, extends, ends, spends}
use Rattle.ddc_service.proofs.Held.{reaches_now}
use Rattle.ddc_service.proofs.Crashes.{crash_started, crash_more, reaches_more, stops}
use Rattle.ddc_service.proofs.session.serve_requests.Goals as goal

pub requests-init : goal.requests-init
requests-init g c = record {
  so_far = at_start (g.C.Clock.tells c.args.clock.now) (g.S.Source.left (source_of c.args.reader.now)) (g.W.Sink.written c.args.sink.now) (store_of c.args.book.now) (held_of c.args.reader.now) (place_of c.args.reader.now) c.requires.bare c.requires.place;
  crash = crash_started g.D.Disk.tells g.D.Disk.meaning (g.C.Clock.tells c.args.clock.now) (g.S.Source.left (source_of c.args.reader.now)) c.args.book.now g.met.D.Disk.rests;
  reaches = reaches_now g.D.Disk.meaning g.met.D.Disk.rests g.met.D.Disk.reads g.D.Disk.tells g.met.D.Disk.told c.args.book.now;
  goes_on = c.requires.not_ended;
  unbroken = c.requires.unbroken;
  limits = refl;
  same = refl;
  same_source = refl;
  same_sink = refl;
  later_disk = omega arith;
}

pub returns-in-Over-clause-gives : goal.returns-in-Over-clause-gives
returns-in-Over-clause-gives g c =
    ends (session (g.C.Clock.tells c.args.clock.now) (effect g.S.Source.left g.S.Source.faults (source_of c.args.reader.now) (source_of c.take_turn.new.reader)) (effect g.W.Sink.written g.W.Sink.faults c.args.sink.now c.take_turn.new.sink) (effect store_of (book_faults g.D.Disk.meaning) c.args.book.now c.take_turn.new.book))
    (ahead_of g.S.Source.left c.requests.reader) (held_of c.take_turn.new.reader) (g.W.Sink.written c.requests.sink) (g.W.Sink.faults c.requests.sink) (store_of c.requests.book) c.requests.count (place_of c.requests.reader) (place_of c.take_turn.new.reader) (closes c.requests.count) (omega arith) refl c.requests.invariant.so_far
    c.in-Over.end c.in-Over.ensures.gives

pub returns-in-Over-clause-any_moment : goal.returns-in-Over-clause-any_moment
returns-in-Over-clause-any_moment g c = λ opens.
    crash_more g.D.Disk.tells g.D.Disk.meaning (g.C.Clock.tells c.args.clock.now) (effect g.S.Source.left g.S.Source.faults (source_of c.args.reader.now) (source_of c.take_turn.new.reader)) (effect g.W.Sink.written g.W.Sink.faults c.args.sink.now c.take_turn.new.sink) c.args.book.now c.requests.book c.take_turn.new.book
    (ahead_of g.S.Source.left c.requests.reader) (held_of c.take_turn.new.reader) (g.W.Sink.written c.requests.sink) (g.W.Sink.faults c.requests.sink) c.requests.count (place_of c.requests.reader) (place_of c.take_turn.new.reader) (closes c.requests.count) (omega arith) refl c.requests.invariant.so_far c.requests.invariant.unbroken c.requests.invariant.limits
    (Over c.in-Over.end) c.in-Over.ensures.gives c.in-Over.ensures.devices opens.0 (c.requests.invariant.reaches opens) (c.requests.invariant.crash opens)

pub returns-in-Over-clause-stops : goal.returns-in-Over-clause-stops
returns-in-Over-clause-stops g c = λ opens.
    stops g.D.Disk.tells g.D.Disk.meaning (g.C.Clock.tells c.args.clock.now) (effect g.S.Source.left g.S.Source.faults (source_of c.args.reader.now) (source_of c.take_turn.new.reader)) (effect g.W.Sink.written g.W.Sink.faults c.args.sink.now c.take_turn.new.sink) c.args.book.now c.requests.book c.take_turn.new.book
    (ahead_of g.S.Source.left c.requests.reader) (held_of c.take_turn.new.reader) (g.W.Sink.written c.requests.sink) (g.W.Sink.faults c.requests.sink) c.requests.count (place_of c.requests.reader) (place_of c.take_turn.new.reader) (closes c.requests.count) (omega arith) refl c.requests.invariant.so_far c.requests.invariant.unbroken c.requests.invariant.limits
    c.in-Over.end c.in-Over.ensures.devices opens.0 (c.requests.invariant.reaches opens)

pub returns-in-Over-clause-counts : goal.returns-in-Over-clause-counts
returns-in-Over-clause-counts g c =
    let over : SessionEnd → Turn = λ end. Over end in
    ends_counts g.S.Source.left g.S.Source.faults g.W.Sink.written g.W.Sink.faults (g.C.Clock.tells c.args.clock.now) (effect store_of (book_faults g.D.Disk.meaning) c.args.book.now c.take_turn.new.book)
    (source_of c.args.reader.now) (source_of c.take_turn.new.reader) c.args.sink.now c.requests.sink c.take_turn.new.sink (source_of c.requests.reader) c.requests.invariant.same_source c.requests.invariant.same_sink c.in-Over.end c.in-Over.ensures.counts
    (λ e. rose_later (book_faults g.D.Disk.meaning c.args.book.now) (book_faults g.D.Disk.meaning c.requests.book) (book_faults g.D.Disk.meaning c.take_turn.new.book) c.requests.invariant.later_disk (c.in-Over.ensures.cause (ap over e)))

pub requests-preserved : goal.requests-preserved
requests-preserved g c =
    let later = c.take_turn.ensures.later_disk in
    record {
      so_far = extends (session (g.C.Clock.tells c.args.clock.now) (effect g.S.Source.left g.S.Source.faults (source_of c.args.reader.now) (source_of c.take_turn.new.reader)) (effect g.W.Sink.written g.W.Sink.faults c.args.sink.now c.take_turn.new.sink) (effect store_of (book_faults g.D.Disk.meaning) c.args.book.now c.take_turn.new.book))
          (ahead_of g.S.Source.left c.requests.reader) (held_of c.take_turn.new.reader) (g.W.Sink.written c.requests.sink) (g.W.Sink.faults c.requests.sink) (store_of c.requests.book) c.requests.count (place_of c.requests.reader) (place_of c.take_turn.new.reader) (closes c.requests.count) (omega arith) refl c.requests.invariant.so_far
          c.in-Answered.ensures.gives;
      crash = λ opens.
          crash_more g.D.Disk.tells g.D.Disk.meaning (g.C.Clock.tells c.args.clock.now) (effect g.S.Source.left g.S.Source.faults (source_of c.args.reader.now) (source_of c.take_turn.new.reader)) (effect g.W.Sink.written g.W.Sink.faults c.args.sink.now c.take_turn.new.sink) c.args.book.now c.requests.book c.take_turn.new.book
          (ahead_of g.S.Source.left c.requests.reader) (held_of c.take_turn.new.reader) (g.W.Sink.written c.requests.sink) (g.W.Sink.faults c.requests.sink) c.requests.count (place_of c.requests.reader) (place_of c.take_turn.new.reader) (closes c.requests.count) (omega arith) refl c.requests.invariant.so_far c.requests.invariant.unbroken c.requests.invariant.limits
          Answered c.in-Answered.ensures.gives c.in-Answered.ensures.devices opens.0 (c.requests.invariant.reaches opens) (c.requests.invariant.crash opens);
      reaches = λ opens. reaches_more g.D.Disk.tells g.D.Disk.meaning c.requests.book c.take_turn.new.book c.in-Answered.ensures.devices opens.0 (c.in-Answered.ensures.unbroken (λ e. cc)) (c.requests.invariant.reaches opens);
      goes_on = c.in-Answered.ensures.goes_on refl;
      unbroken = c.in-Answered.ensures.unbroken (λ e. cc);
      limits = c.take_turn.ensures.limits ∙ c.requests.invariant.limits;
      same = c.take_turn.ensures.same_reference ∙ c.requests.invariant.same;
      same_source = c.requests.invariant.same_source ∙ c.in-Answered.ensures.counts.0;
      same_sink = c.requests.invariant.same_sink ∙ c.in-Answered.ensures.counts.1;
      later_disk = omega (arith, later);
    }

pub returns-clause-gives : goal.returns-clause-gives
returns-clause-gives g c =
    let last : c.requests.count ≡ 10000 = omega arith in
    let P : ℕ → Type 0 = λ n. SoFar (g.C.Clock.tells c.args.clock.now) (g.S.Source.left (source_of c.args.reader.now)) (ahead_of g.S.Source.left c.requests.reader) (g.W.Sink.written c.args.sink.now) (g.W.Sink.written c.requests.sink) (store_of c.args.book.now) (store_of c.requests.book) n (place_of c.requests.reader) in
    let Q : ℕ → Type 0 = λ at. IsSession (session (g.C.Clock.tells c.args.clock.now) (effect g.S.Source.left g.S.Source.faults (source_of c.args.reader.now) (source_of c.requests.reader)) (effect g.W.Sink.written g.W.Sink.faults c.args.sink.now c.requests.sink) (effect store_of (book_faults g.D.Disk.meaning) c.args.book.now c.requests.book)) (Spent at) in
    subst Q (sym c.place.ensures) (spends (session (g.C.Clock.tells c.args.clock.now) (effect g.S.Source.left g.S.Source.faults (source_of c.args.reader.now) (source_of c.requests.reader)) (effect g.W.Sink.written g.W.Sink.faults c.args.sink.now c.requests.sink) (effect store_of (book_faults g.D.Disk.meaning) c.args.book.now c.requests.book)) (ahead_of g.S.Source.left c.requests.reader) (place_of c.requests.reader) (subst P last c.requests.invariant.so_far))
