use Rattle.std.proofs.Common.{Err, ◌∙◌, subst, arith}
use Rattle.std.proofs.KnownBytes.{Appends-trans}
use Rattle.ddc_http.specs.Flows.{flow, WritesText}
use Rattle.ddc_http.specs.Heads.{text_of}
use Rattle.ddc_http.specs.declared.reply.WriteFault.{WriteFault}
use Rattle.ddc_service.proofs.Writing.{front_more, front_after, rose_later}
use Rattle.ddc_service.proofs.reply.write_reply.Goals as goal

pub returns-in-Ok-put_all : goal.returns-in-Ok-put_all
returns-in-Ok-put_all g c = record {
  gives = (
    Appends-trans (g.W.Sink.written c.args.sink.now) (g.W.Sink.written c.write_head.new.sink) (g.W.Sink.written c.put_all.new.sink) (text_of c.args.head.now) c.args.body.now
        c.in-Ok.ensures.0 c.in-Ok-put_all.ensures.ok,
    c.in-Ok.ensures.1 ∙ c.in-Ok-put_all.ensures.cause.same,
  );
}

pub returns-in-Err : goal.returns-in-Err
returns-in-Err g c =
    let same = c.in-Ok.ensures.1 in
    let later = c.in-Err.ensures.cause.later in
    record {
      gives = (
        front_after (g.W.Sink.written c.args.sink.now) (g.W.Sink.written c.write_head.new.sink) (g.W.Sink.written c.put_all.new.sink) (text_of c.args.head.now) c.args.body.now
            c.in-Ok.ensures.0 c.in-Err.ensures.err,
        omega (arith, same, later),
        rose_later (g.W.Sink.faults c.args.sink.now) (g.W.Sink.faults c.write_head.new.sink) (g.W.Sink.faults c.put_all.new.sink) (omega (arith, same)) c.in-Err.ensures.cause.failed,
      );
    }

pub returns-in-Err-Failed : goal.returns-in-Err-Failed
returns-in-Err-Failed g c =
    let old = c.args.sink.now in
    let new = c.write_head.new.sink in
    let P : WriteFault → Type 0 = λ fault. WritesText (flow (g.W.Sink.written old) (g.W.Sink.faults old)) (flow (g.W.Sink.written new) (g.W.Sink.faults new)) (text_of c.args.head.now) (Err fault) in
    let (front, later, rose) = subst P c.in-Err-Failed.field-0-is c.in-Err-Failed.ensures in
    record { gives = (front_more (g.W.Sink.written old) (g.W.Sink.written new) (text_of c.args.head.now) c.args.body.now front, later, rose) }
