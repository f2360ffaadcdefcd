use Rattle.std.proofs.Common.{◌≡◌, true, false, length, rules}
use Rattle.ddc_protocol.specs.Fields.{same_text}
use Rattle.ddc_http.proofs.Asked.{mismatched, matched}
use Rattle.ddc_http.proofs.reader.blob_request.Goals as goal

pub returns-then-ne : goal.returns-then-ne
returns-then-ne c =
    let other : same_text c.hash-found.result.0 c.args.named.0 ≡ false = search rules in
    mismatched c.args.space c.args.body c.args.named c.hash-found.result (length c.args.body) c.hash-found.ensures other

pub returns-in-Ok : goal.returns-in-Ok
returns-in-Ok c =
    let same : same_text c.hash-found.result.0 c.args.named.0 ≡ true = search rules in
    matched c.args.space c.args.body c.args.named c.hash-found.result (length c.args.body) c.in-Ok.blob c.hash-found.ensures same c.in-Ok.ensures.bytes c.in-Ok.ensures.read
