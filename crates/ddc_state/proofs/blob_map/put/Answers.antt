use Rattle.std.proofs.Common.{ap, ◌∙◌, subst, ℕ, List, is_some, rules}
use Rattle.std.specs.BTreeMap.{BTreeMap}
use Rattle.ddc_names.specs.declared.hash.IoHash.{IoHash}
use Rattle.ddc_state.proofs.Nesting.{Renews, read_in, read_none, given_in, given_first, kept_in}
use Rattle.ddc_state.proofs.blob_map.put.Goals as goal

pub returns-in_err-before-clause-err : goal.returns-in_err-before-clause-err
returns-in_err-before-clause-err g c =
    let new = c.insert.new.self in
    let same = kept_in c.args.spaces.now (c.get_mut.follows.lender new) c.args.name.now c.in-Some.blobs.now new c.in-Some.ensures.value (c.get_mut.follows.holds new) c.in_err-before.ensures.err in
    search rules

pub returns-in-Some-clause-ok : goal.returns-in-Some-clause-ok
returns-in-Some-clause-ok g c =
    let new = c.insert.new.self in
    given_in c.args.spaces.now (c.get_mut.follows.lender new) c.args.name.now c.in-Some.blobs.now new c.in-Some.ensures.value (c.get_mut.follows.holds new) c.args.value c.in_ok-before.ensures.updates.0

pub returns-in-Some-clause-had : goal.returns-in-Some-clause-had
returns-in-Some-clause-had g c = c.is_some.ensures ∙ ap is_some (c.in_ok-before.ensures.old ∙ read_in c.args.spaces.now.entries c.args.name.now c.in-Some.blobs.now c.in-Some.ensures.value)

pub returns-clause-ok : goal.returns-clause-ok
returns-clause-ok g c =
    let fs = c.insert-3.new.self.entries in
    let name = c.args.name.now in
    let blobs = c.insert-2.new.self in
    let renews = subst (λ (es : List (List ℕ × BTreeMap IoHash g.row.V.Denot)). Renews es fs name.space blobs) (λ i. (c.get_mut.follows.holds-at-none i).entries) c.in_ok-insert-2.ensures.updates.0 in
    given_first c.args.spaces.now.entries fs name c.new-blobs.result blobs c.args.value renews c.in_default.ensures.value c.new-blobs.ensures.empty c.in_ok-insert.ensures.updates.0

pub returns-clause-had : goal.returns-clause-had
returns-clause-had g c = ap is_some (read_none c.args.spaces.now.entries c.args.name.now c.in_default.ensures.value)
