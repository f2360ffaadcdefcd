use Rattle.std.proofs.Common.{◌∷◌, ◌++◌, []}
use Rattle.ddc_disk.specs.Disk.{Meaning}
use Rattle.ddc_journal.specs.Journal.{IsEither}
use Rattle.ddc_journal.specs.inside.Closing.{IsSureOf}
use Rattle.ddc_journal.proofs.PairLent.{first_stands, made_first, made_second, on_first, on_second, second_stands}
use Rattle.ddc_journal.proofs.pair.files.append_to.Goals as goal

pub returns-in_err-append_at-clause-any_moment : goal.returns-in_err-append_at-clause-any_moment
returns-in_err-append_at-clause-any_moment g c version generation bodies body other is small stands sure =
    let m = g.D.Disk.meaning in
    let rests = g.met.D.Disk.rests in
    let old = c.args.devices.now in
    on_second m rests old c.second.result.now c.second.ensures.lent c.args.second c.if-second.true c.append_at.new.disk (IsEither version generation bodies body) other sure
    (c.append_at.ensures.any_moment version generation bodies body is small (second_stands m rests old c.second.result.now c.second.ensures.lent c.args.second c.if-second.true version generation bodies c.args.gate stands))

pub returns-in_ok-append_at-clause-any_moment : goal.returns-in_ok-append_at-clause-any_moment
returns-in_ok-append_at-clause-any_moment g c version generation bodies body other is small stands sure =
    let m = g.D.Disk.meaning in
    let rests = g.met.D.Disk.rests in
    let old = c.args.devices.now in
    on_second m rests old c.second.result.now c.second.ensures.lent c.args.second c.if-second.true c.append_at.new.disk (IsEither version generation bodies body) other sure
    (c.append_at.ensures.any_moment version generation bodies body is small (second_stands m rests old c.second.result.now c.second.ensures.lent c.args.second c.if-second.true version generation bodies c.args.gate stands))

pub returns-in_ok-append_at-clause-ready : goal.returns-in_ok-append_at-clause-ready
returns-in_ok-append_at-clause-ready g c version generation bodies body is small stands =
    let m = g.D.Disk.meaning in
    let rests = g.met.D.Disk.rests in
    let old = c.args.devices.now in
    let both = c.in_ok-append_at.ensures.ready version generation bodies body is small (second_stands m rests old c.second.result.now c.second.ensures.lent c.args.second c.if-second.true version generation bodies c.args.gate stands) in
    (made_second m rests old c.args.second c.if-second.true c.append_at.new.disk (λ (d : Meaning). IsSureOf d version generation (bodies ++ body ∷ [])) both.0, both.1)

pub returns-in_err-append_at-2-clause-any_moment : goal.returns-in_err-append_at-2-clause-any_moment
returns-in_err-append_at-2-clause-any_moment g c version generation bodies body other is small stands sure =
    let m = g.D.Disk.meaning in
    let rests = g.met.D.Disk.rests in
    let old = c.args.devices.now in
    on_first m rests old c.first.result.now c.first.ensures.lent c.args.second c.if-second.false c.append_at-else-second.new.disk (IsEither version generation bodies body) other sure
    (c.append_at-else-second.ensures.any_moment version generation bodies body is small (first_stands m rests old c.first.result.now c.first.ensures.lent c.args.second c.if-second.false version generation bodies c.args.gate stands))

pub returns-in_ok-append_at-2-clause-any_moment : goal.returns-in_ok-append_at-2-clause-any_moment
returns-in_ok-append_at-2-clause-any_moment g c version generation bodies body other is small stands sure =
    let m = g.D.Disk.meaning in
    let rests = g.met.D.Disk.rests in
    let old = c.args.devices.now in
    on_first m rests old c.first.result.now c.first.ensures.lent c.args.second c.if-second.false c.append_at-else-second.new.disk (IsEither version generation bodies body) other sure
    (c.append_at-else-second.ensures.any_moment version generation bodies body is small (first_stands m rests old c.first.result.now c.first.ensures.lent c.args.second c.if-second.false version generation bodies c.args.gate stands))

pub returns-in_ok-append_at-2-clause-ready : goal.returns-in_ok-append_at-2-clause-ready
returns-in_ok-append_at-2-clause-ready g c version generation bodies body is small stands =
    let m = g.D.Disk.meaning in
    let rests = g.met.D.Disk.rests in
    let old = c.args.devices.now in
    let both = c.in_ok-append_at-2.ensures.ready version generation bodies body is small (first_stands m rests old c.first.result.now c.first.ensures.lent c.args.second c.if-second.false version generation bodies c.args.gate stands) in
    (made_first m rests old c.args.second c.if-second.false c.append_at-else-second.new.disk (λ (d : Meaning). IsSureOf d version generation (bodies ++ body ∷ [])) both.0, both.1)
