use Rattle.std.proofs.Common.{◌≡◌, refl, rules}
use Rattle.ddc_book.specs.View.{limits_of, book_line, book_faults}
use Rattle.ddc_http.specs.Stream.{source_of}
use Rattle.ddc_service.specs.Effects.{effect}
use Rattle.ddc_service.specs.Session.{session, store_of, OpensNow, IsSession, CountsAs, Stops}
use Rattle.ddc_service.proofs.Turning.{no_replies, on_source}
use Rattle.ddc_service.proofs.Crashes.{crash_started}
use Rattle.ddc_service.proofs.session.replay_session.Goals as goal

pub returns-in-Err-clause-gives : goal.returns-in-Err-clause-gives
returns-in-Err-clause-gives g c = no_replies (session (g.C.Clock.tells c.args.clock.now) (effect g.S.Source.left g.S.Source.faults c.args.source.now c.args.source.now) (effect g.W.Sink.written g.W.Sink.faults c.args.sink.now c.args.sink.now) (effect store_of (book_faults g.D.Disk.meaning) c.args.book.now c.args.book.now)) refl refl

pub returns-in-Err-clause-any_moment : goal.returns-in-Err-clause-any_moment
returns-in-Err-clause-any_moment g c = crash_started g.D.Disk.tells g.D.Disk.meaning (g.C.Clock.tells c.args.clock.now) (g.S.Source.left c.args.source.now) c.args.book.now g.met.D.Disk.rests

pub returns-in-Ok-clause-gives : goal.returns-in-Ok-clause-gives
returns-in-Ok-clause-gives g c =
    let first : source_of c.in-Ok.reader ≡ c.args.source.now = search rules in
    on_source g.S.Source.left g.S.Source.faults c.args.source.now (source_of c.in-Ok.reader) (source_of c.serve_requests-end.new.reader) _ first (search rules) (λ source. IsSession (session (g.C.Clock.tells c.args.clock.now) source (effect g.W.Sink.written g.W.Sink.faults c.args.sink.now c.serve_requests-end.new.sink) (effect store_of (book_faults g.D.Disk.meaning) c.args.book.now c.serve_requests-end.new.book)) c.serve_requests-end.result) c.serve_requests-end.ensures.gives

pub returns-in-Ok-clause-stops : goal.returns-in-Ok-clause-stops
returns-in-Ok-clause-stops g c =
    let first : source_of c.in-Ok.reader ≡ c.args.source.now = search rules in
    on_source g.S.Source.left g.S.Source.faults c.args.source.now (source_of c.in-Ok.reader) (source_of c.serve_requests-end.new.reader) c.finish-source.result.now first (search rules) (λ source. OpensNow g.D.Disk.tells g.D.Disk.meaning c.args.book.now → Stops (session (g.C.Clock.tells c.args.clock.now) source (effect g.W.Sink.written g.W.Sink.faults c.args.sink.now c.serve_requests-end.new.sink) (effect store_of (book_faults g.D.Disk.meaning) c.args.book.now c.serve_requests-end.new.book)) (book_line g.D.Disk.meaning c.serve_requests-end.new.book) (limits_of c.args.book.now) c.serve_requests-end.result) c.serve_requests-end.ensures.stops

pub returns-in-Ok-clause-counts : goal.returns-in-Ok-clause-counts
returns-in-Ok-clause-counts g c =
    let first : source_of c.in-Ok.reader ≡ c.args.source.now = search rules in
    on_source g.S.Source.left g.S.Source.faults c.args.source.now (source_of c.in-Ok.reader) (source_of c.serve_requests-end.new.reader) _ first (search rules) (λ source. CountsAs (session (g.C.Clock.tells c.args.clock.now) source (effect g.W.Sink.written g.W.Sink.faults c.args.sink.now c.serve_requests-end.new.sink) (effect store_of (book_faults g.D.Disk.meaning) c.args.book.now c.serve_requests-end.new.book)) c.serve_requests-end.result) c.serve_requests-end.ensures.counts

pub returns-in-Err-clause-counts : goal.returns-in-Err-clause-counts
returns-in-Err-clause-counts g c = refl
