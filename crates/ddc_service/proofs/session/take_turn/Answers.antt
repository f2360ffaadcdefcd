use Rattle.std.proofs.Common.{Option, None, Ok, Err, refl, sym, subst}
use Rattle.ddc_protocol.specs.Replies.{json_reply, mismatch_body, not_object_body}
use Rattle.ddc_protocol.specs.Requests.{mismatch, not_object}
use Rattle.ddc_http.specs.Stream.{source_of, ahead_of, place_of}
use Rattle.ddc_http.specs.Reader.{asked_item, ReadsNext}
use Rattle.ddc_http.specs.declared.request.Request.{Request}
use Rattle.ddc_http.specs.declared.request.HttpFault.{HttpFault}
use Rattle.ddc_service.specs.declared.session.Turn.{Turn}
use Rattle.ddc_service.specs.Effects.{effect}
use Rattle.ddc_service.specs.Session.{store_of}
use Rattle.ddc_service.specs.inside.Turns.{TurnAs, TurnGoes, reading}
use Rattle.ddc_service.proofs.Bounds.{fits}
use Rattle.ddc_service.proofs.Turning.{turn_answered, turn_refused, turn_goes, refused_goes, answered_counts}
use Rattle.ddc_service.proofs.session.take_turn.Goals as goal

pub answer_request-requires-clause-fits : goal.answer_request-requires-clause-fits
answer_request-requires-clause-fits g c =
    let P : Option Request → Type 0 = λ request. ReadsNext (ahead_of g.S.Source.left c.args.reader.now) (ahead_of g.S.Source.left c.next.new.self) (place_of c.args.reader.now) (place_of c.next.new.self) (Ok request) in
    let taken = subst P c.in-Ok-Some.field-0-is c.in-Ok-Some.ensures.gives in
    fits taken.0 (asked_item c.in-Ok-Some.request) taken.1

pub returns-in-Ok-Some-clause-gives : goal.returns-in-Ok-Some-clause-gives
returns-in-Ok-Some-clause-gives g c =
    let A : Option Request → Type 0 = λ request. ReadsNext (ahead_of g.S.Source.left c.args.reader.now) (ahead_of g.S.Source.left c.next.new.self) (place_of c.args.reader.now) (place_of c.next.new.self) (Ok request) in
    turn_answered (g.C.Clock.tells c.args.clock.now) (reading g.S.Source.left c.args.reader.now c.next.new.self) c.args.close (effect g.W.Sink.written g.W.Sink.faults c.args.sink.now c.answer_request.new.sink) (store_of c.args.book.now) (store_of c.answer_request.new.book) (asked_item c.in-Ok-Some.request)
    (subst A c.in-Ok-Some.field-0-is c.in-Ok-Some.ensures.gives) c.hour.result c.answer_request.result c.hour.ensures c.answer_request.ensures.gives.turned

pub returns-in-Err-HashMismatch-clause-gives : goal.returns-in-Err-HashMismatch-clause-gives
returns-in-Err-HashMismatch-clause-gives g c =
    let A : HttpFault → Type 0 = λ fault. ReadsNext (ahead_of g.S.Source.left c.args.reader.now) (ahead_of g.S.Source.left c.next.new.self) (place_of c.args.reader.now) (place_of c.next.new.self) (Err fault) in
    let P : Turn → Type 0 = λ turn. TurnAs (g.C.Clock.tells c.args.clock.now) (reading g.S.Source.left c.args.reader.now c.next.new.self) c.args.close (effect g.W.Sink.written g.W.Sink.faults c.args.sink.now c.answer_fault-in-Err-HashMismatch.new.sink) (store_of c.args.book.now) (store_of c.args.book.now) turn in
    subst P (sym c.written_turn.ensures)
    (turn_refused (g.C.Clock.tells c.args.clock.now) (reading g.S.Source.left c.args.reader.now c.next.new.self) c.args.close (effect g.W.Sink.written g.W.Sink.faults c.args.sink.now c.answer_fault-in-Err-HashMismatch.new.sink) (store_of c.args.book.now) (mismatch c.in-Err-HashMismatch.named c.in-Err-HashMismatch.found) (json_reply 400 (mismatch_body c.in-Err-HashMismatch.named c.in-Err-HashMismatch.found) c.args.close)
    c.answer_fault-in-Err-HashMismatch.result (λ hour. (Ok tt, None, (refl, refl), refl, refl, refl)) (subst A c.in-Err-HashMismatch.field-0-is c.in-Err-HashMismatch.ensures.gives) c.answer_fault-in-Err-HashMismatch.ensures.gives)

pub returns-in-Err-NotAnObject-clause-gives : goal.returns-in-Err-NotAnObject-clause-gives
returns-in-Err-NotAnObject-clause-gives g c =
    let A : HttpFault → Type 0 = λ fault. ReadsNext (ahead_of g.S.Source.left c.args.reader.now) (ahead_of g.S.Source.left c.next.new.self) (place_of c.args.reader.now) (place_of c.next.new.self) (Err fault) in
    let P : Turn → Type 0 = λ turn. TurnAs (g.C.Clock.tells c.args.clock.now) (reading g.S.Source.left c.args.reader.now c.next.new.self) c.args.close (effect g.W.Sink.written g.W.Sink.faults c.args.sink.now c.answer_fault-in-Err-NotAnObject.new.sink) (store_of c.args.book.now) (store_of c.args.book.now) turn in
    subst P (sym c.written_turn-in-Err-NotAnObject.ensures)
    (turn_refused (g.C.Clock.tells c.args.clock.now) (reading g.S.Source.left c.args.reader.now c.next.new.self) c.args.close (effect g.W.Sink.written g.W.Sink.faults c.args.sink.now c.answer_fault-in-Err-NotAnObject.new.sink) (store_of c.args.book.now) (not_object c.in-Err-NotAnObject.at) (json_reply 400 (not_object_body c.in-Err-NotAnObject.at) c.args.close)
    c.answer_fault-in-Err-NotAnObject.result (λ hour. (Ok tt, None, (refl, refl), refl, refl, refl)) (subst A c.in-Err-NotAnObject.field-0-is c.in-Err-NotAnObject.ensures.gives) c.answer_fault-in-Err-NotAnObject.ensures.gives)

pub returns-in-Ok-Some-clause-counts : goal.returns-in-Ok-Some-clause-counts
returns-in-Ok-Some-clause-counts g c =
    answered_counts (effect g.S.Source.left g.S.Source.faults (source_of c.args.reader.now) (source_of c.next.new.self)) (effect g.W.Sink.written g.W.Sink.faults c.args.sink.now c.answer_request.new.sink) c.args.close c.hour.result (store_of c.args.book.now) (store_of c.answer_request.new.book) (asked_item c.in-Ok-Some.request) c.answer_request.result
    c.answer_request.ensures.gives.turned c.in-Ok-Some.ensures.faults c.answer_request.ensures.gives.counts

pub returns-in-Ok-Some-clause-devices : goal.returns-in-Ok-Some-clause-devices
returns-in-Ok-Some-clause-devices g c =
    let A : Option Request → Type 0 = λ request. ReadsNext (ahead_of g.S.Source.left c.args.reader.now) (ahead_of g.S.Source.left c.next.new.self) (place_of c.args.reader.now) (place_of c.next.new.self) (Ok request) in
    turn_goes g.D.Disk.tells g.D.Disk.meaning (g.C.Clock.tells c.args.clock.now) (reading g.S.Source.left c.args.reader.now c.next.new.self) c.args.book.now c.answer_request.new.book (asked_item c.in-Ok-Some.request)
    (subst A c.in-Ok-Some.field-0-is c.in-Ok-Some.ensures.gives) c.hour.result c.hour.ensures c.answer_request.result c.answer_request.ensures.gives.goes

pub returns-in-Err-HashMismatch-clause-devices : goal.returns-in-Err-HashMismatch-clause-devices
returns-in-Err-HashMismatch-clause-devices g c =
    let P : Turn → Type 0 = λ turn. TurnGoes g.D.Disk.tells g.D.Disk.meaning (g.C.Clock.tells c.args.clock.now) (reading g.S.Source.left c.args.reader.now c.next.new.self) c.args.book.now c.args.book.now turn in
    subst P (sym c.written_turn.ensures) (refused_goes g.D.Disk.tells g.D.Disk.meaning (g.C.Clock.tells c.args.clock.now) (reading g.S.Source.left c.args.reader.now c.next.new.self) c.args.book.now c.args.book.now c.answer_fault-in-Err-HashMismatch.result refl)

pub returns-in-Err-NotAnObject-clause-devices : goal.returns-in-Err-NotAnObject-clause-devices
returns-in-Err-NotAnObject-clause-devices g c =
    let P : Turn → Type 0 = λ turn. TurnGoes g.D.Disk.tells g.D.Disk.meaning (g.C.Clock.tells c.args.clock.now) (reading g.S.Source.left c.args.reader.now c.next.new.self) c.args.book.now c.args.book.now turn in
    subst P (sym c.written_turn-in-Err-NotAnObject.ensures) (refused_goes g.D.Disk.tells g.D.Disk.meaning (g.C.Clock.tells c.args.clock.now) (reading g.S.Source.left c.args.reader.now c.next.new.self) c.args.book.now c.args.book.now c.answer_fault-in-Err-NotAnObject.result refl)
