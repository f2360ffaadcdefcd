use Rattle.std.proofs.Common.{◌≡◌, ◌≤◌, false, None}
use Rattle.ddc_disk.specs.Disk.{EachSince}
use Rattle.ddc_model.specs.History.{broken_by}
use Rattle.ddc_book.specs.View.{limits_of, book_line, book_faults, Reaches}
use Rattle.ddc_http.specs.Stream.{source_of, ahead_of, place_of, has_ended}
use Rattle.ddc_service.specs.Session.{store_of, OpensNow}
use Rattle.ddc_service.proofs.Crashes.{Within}
use Rattle.ddc_service.proofs.Runs.{SoFar}
use Rattle.ddc_service.proofs.session.serve_requests.Given as goal

abbrev pub invariant-requests : goal.invariant-requests
invariant-requests g l = record {
  so_far : SoFar (g.C.Clock.tells l.initial.clock) (g.S.Source.left (source_of l.initial.reader)) (ahead_of g.S.Source.left l.reader) (g.W.Sink.written l.initial.sink) (g.W.Sink.written l.sink)
      (store_of l.initial.book) (store_of l.book) l.count (place_of l.reader);
  crash : OpensNow g.D.Disk.tells g.D.Disk.meaning l.initial.book
      → EachSince (book_line g.D.Disk.meaning l.initial.book) (book_line g.D.Disk.meaning l.book) (Within g.D.Disk.tells g.D.Disk.meaning (g.C.Clock.tells l.initial.clock) (g.S.Source.left (source_of l.initial.reader)) l.initial.book);
  reaches : OpensNow g.D.Disk.tells g.D.Disk.meaning l.initial.book → Reaches g.D.Disk.meaning l.book;
  goes_on : has_ended l.reader ≡ false;
  unbroken : broken_by l.book.steps ≡ None;
  limits : limits_of l.book ≡ limits_of l.initial.book;
  same : l.reader.source.ghost_name ≡ l.initial.reader.source.ghost_name;
  same_source : g.S.Source.faults (source_of l.initial.reader) ≡ g.S.Source.faults (source_of l.reader);
  same_sink : g.W.Sink.faults l.initial.sink ≡ g.W.Sink.faults l.sink;
  later_disk : book_faults g.D.Disk.meaning l.initial.book ≤ book_faults g.D.Disk.meaning l.book;
}
