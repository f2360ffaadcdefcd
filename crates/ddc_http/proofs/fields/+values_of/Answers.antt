use Rattle.std.proofs.Common.{◌∷◌, List, ℕ, arith, sym, ap, ◌∙◌, subst, map, take, drop, length, ◌-◌}
use Rattle.httparse.specs.Spans.{header_bytes}
use Rattle.ddc_protocol.specs.Fields.{values_of, same_name}
use Rattle.ddc_http.specs.inside.Values.{AreValues}
use Rattle.ddc_http.proofs.Named.{values_of-named}
use Rattle.ddc_http.proofs.fields.+values_of.Goals as goal

pub returns-then-is_named : goal.returns-then-is_named
returns-then-is_named t c =
    let name = c.args.name.now in
    let rest = values_of name (map (header_bytes c.args.buf.now) (take (length c.args.headers.now - 1) (drop 1 c.args.headers.now))) in
    let same = ap (λ n. same_name n name) (sym c.of.ensures) ∙ sym c.if-is_named.ensures in
    let all = values_of-named c.args.buf.now name c.args.headers.now _ (omega arith) same in
    let P : List (List ℕ) → Type 0 = λ l. AreValues l c.one_more.result in
    subst P (ap (λ v. v ∷ rest) c.of-then-is_named.ensures ∙ sym all) (c.one_more.ensures _ c.values_of-others.ensures)
