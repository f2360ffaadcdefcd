use Rattle.std.proofs.Common.{◌≡◌, List, ℕ, ◌∙◌, ap, sym, subst, refl}
use Rattle.tree_hash.specs.TreeHash.{io}
use Rattle.ddc_names.specs.declared.hash.IoHash.{IoHash}
use Rattle.ddc_model.specs.Content.{content_hash}
use Rattle.ddc_protocol.specs.Requests.{put_blob}
use Rattle.ddc_service.specs.declared.session.Turn.{Turn}
use Rattle.ddc_service.specs.Replies.{upload_reply}
use Rattle.ddc_service.specs.Effects.{effect}
use Rattle.ddc_service.specs.inside.Writes.{WritesAs, AnswersRequest}
use Rattle.ddc_service.proofs.Answering.{answers, command_gives}
use Rattle.ddc_service.proofs.reply.answer_upload.Goals as goal

pub returns : goal.returns
returns g c =
    let hash_is : c.hash-hash.result ≡ content_hash c.args.blob.bytes = ap (λ (b : List ℕ). let h : IoHash = record { 0 = b } in h) (c.hash-hash.ensures ∙ ap io c.whole.ensures.bytes) in
    let Q : IoHash → Type 0 = λ h. WritesAs (effect g.W.Sink.written g.W.Sink.faults c.args.sink.now c.write_uploaded-written.new.sink) (upload_reply h c.args.close c.upload-answer.result) c.write_uploaded-written.result in
    let P : Turn → Type 0 = λ turn. AnswersRequest g.D.Disk.tells g.D.Disk.meaning (effect g.W.Sink.written g.W.Sink.faults c.args.sink.now c.write_uploaded-written.new.sink) c.args.close c.args.hour c.args.book.now (put_blob c.args.space c.args.blob) c.upload-answer.new.self turn in
    record {
      gives = subst P (sym c.turn_of.ensures) (answers g.D.Disk.tells g.D.Disk.meaning (effect g.W.Sink.written g.W.Sink.faults c.args.sink.now c.write_uploaded-written.new.sink) c.args.close c.args.hour c.args.book.now c.upload-answer.new.self c.requires.unbroken
          (put_blob c.args.space c.args.blob) c.upload-answer.ensures.goes_on c.upload-answer.result c.write_uploaded-written.result refl
          (command_gives g.D.Disk.tells g.D.Disk.meaning (effect g.W.Sink.written g.W.Sink.faults c.args.sink.now c.write_uploaded-written.new.sink) c.args.close c.args.hour c.args.book.now c.upload-answer.new.self c.requires.unbroken (put_blob c.args.space c.args.blob) c.upload-answer.ensures.goes_on c.upload-answer.result c.upload-answer.ensures.gives)
          c.upload-answer.ensures.cause c.write_uploaded-written.ensures.memory (subst Q hash_is c.write_uploaded-written.ensures.gives));
    }
