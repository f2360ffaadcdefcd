use Rattle.std.proofs.Common.{◌≡◌, ◌⊎◌, ◌+◌, ◌∷◌, ◌++◌, [], length, sym, subst}
use Rattle.std.specs.Prelude.{Result, Ok, Err, OnOk, not, false}
use Rattle.std.specs.Result.{is_err}
use Rattle.ddc_disk.specs.Disk.{EachSince}
use Rattle.ddc_disk.specs.Images.{devices_line}
use Rattle.ddc_disk.specs.Since.{weaker}
use Rattle.ddc_journal.specs.Pairs.{IsPairOf, IsPairReady, PairView}
use Rattle.ddc_journal.proofs.Pairing.{active_stands, append_either, appended, file_of, other_sure}
use Rattle.ddc_journal.proofs.pair.Pair.append.Goals as goal

when_ok : {T E : Type 0} (r : Result T E) (P : Type 0) → is_err r ≡ false → OnOk r P → P
when_ok (Ok x) P ok holds = holds
when_ok (Err e) P ok holds = cc ok

pub returns-then-is_err-clause-any_moment : goal.returns-then-is_err-clause-any_moment
returns-then-is_err-clause-any_moment g c bodies ready =
    let m = g.D.Disk.meaning in
    let old = c.args.devices.now in
    let new = c.append_to.new.devices in
    let body = c.args.item.now in
    let seen : PairView = record { second = c.self.inside.second; version = c.self.inside.version; generation = c.self.inside.generation; end = c.self.inside.end } in
    let same : c.args.self.now ≡ seen = sym c.self.view_is in
    subst (λ (p : PairView). IsPairReady m old p bodies → EachSince (devices_line m old) (devices_line m new) (λ im. IsPairOf p.version bodies im.first im.second ⊎ IsPairOf p.version (bodies ++ body ∷ []) im.first im.second)) (sym same)
    (λ at. weaker (devices_line m old) (devices_line m new) _ (λ im. IsPairOf seen.version bodies im.first im.second ⊎ IsPairOf seen.version (bodies ++ body ∷ []) im.first im.second)
    (c.append_to.ensures.any_moment seen.version seen.generation bodies body (file_of (not seen.second) at.first at.second) c.as_bytes-bytes.ensures.written c.as_bytes-bytes.ensures.sized
    (active_stands m old seen bodies at) (other_sure m old seen bodies at seen.second))
    (append_either m old seen bodies at body)) ready

pub returns-clause-any_moment : goal.returns-clause-any_moment
returns-clause-any_moment g c bodies ready =
    let m = g.D.Disk.meaning in
    let old = c.args.devices.now in
    let new = c.append_to.new.devices in
    let body = c.args.item.now in
    let seen : PairView = record { second = c.self.inside.second; version = c.self.inside.version; generation = c.self.inside.generation; end = c.self.inside.end } in
    let same : c.args.self.now ≡ seen = sym c.self.view_is in
    subst (λ (p : PairView). IsPairReady m old p bodies → EachSince (devices_line m old) (devices_line m new) (λ im. IsPairOf p.version bodies im.first im.second ⊎ IsPairOf p.version (bodies ++ body ∷ []) im.first im.second)) (sym same)
    (λ at. weaker (devices_line m old) (devices_line m new) _ (λ im. IsPairOf seen.version bodies im.first im.second ⊎ IsPairOf seen.version (bodies ++ body ∷ []) im.first im.second)
    (c.append_to.ensures.any_moment seen.version seen.generation bodies body (file_of (not seen.second) at.first at.second) c.as_bytes-bytes.ensures.written c.as_bytes-bytes.ensures.sized
    (active_stands m old seen bodies at) (other_sure m old seen bodies at seen.second))
    (append_either m old seen bodies at body)) ready

pub returns-clause-ready : goal.returns-clause-ready
returns-clause-ready g c bodies ready =
    let m = g.D.Disk.meaning in
    let old = c.args.devices.now in
    let new = c.append_to.new.devices in
    let body = c.args.item.now in
    let seen : PairView = record { second = c.self.inside.second; version = c.self.inside.version; generation = c.self.inside.generation; end = c.self.inside.end } in
    let same : c.args.self.now ≡ seen = sym c.self.view_is in
    let at : IsPairReady m old seen bodies = subst (λ (p : PairView). IsPairReady m old p bodies) same ready in
    let both = when_ok c.append_to.result _ (sym c.if-is_err.ensures.value) c.append_to.ensures.ready seen.version seen.generation bodies body c.as_bytes-bytes.ensures.written c.as_bytes-bytes.ensures.sized (active_stands m old seen bodies at) in
    appended m old seen bodies at body new (seen.end + length c.as_bytes-bytes.result.now) c.append_to.ensures.other both.0 both.1
