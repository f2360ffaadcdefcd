use Rattle.std.proofs.Common.{ℕ, List, sym, subst, ◌∙◌, length}
use Rattle.ddc_protocol.specs.Requests.{puts}
use Rattle.ddc_http.specs.inside.Parts.{BreaksAs}
use Rattle.ddc_http.proofs.Asked.{broken}
use Rattle.ddc_http.proofs.reader.object_request.Goals as goal

pub returns-then-is_object : goal.returns-then-is_object
returns-then-is_object c = puts c.in-Ok.object c.in-Ok.ensures.bytes c.in-Ok.ensures.read (sym c.is_object.ensures.told ∙ c.if-is_object.true)

pub returns-else-is_object : goal.returns-else-is_object
returns-else-is_object c =
    let P : List ℕ → Type 0 = λ body. BreaksAs body c.not_an_object.result in
    broken c.args.name c.args.body (length c.args.body) c.not_an_object.result
    (subst P (c.bytes.ensures ∙ c.whole.ensures.bytes ∙ c.in-Ok.ensures.bytes) c.not_an_object.ensures)
