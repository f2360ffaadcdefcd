use Rattle.std.proofs.Common.{◌≡◌, ◌+◌, ◌∷◌, ◌++◌, [], ℕ, length, sym, subst}
use Rattle.std.specs.Prelude.{Result, Ok, Err, OnOk, false}
use Rattle.std.specs.Result.{is_err}
use Rattle.ddc_journal.specs.Journal.{single_version, IsReady}
use Rattle.ddc_journal.proofs.Making.{stands_sure}
use Rattle.ddc_journal.proofs.journal.Journal.append.Goals as goal

when_ok : {T E : Type 0} (r : Result T E) (P : Type 0) → is_err r ≡ false → OnOk r P → P
when_ok (Ok x) P ok holds = holds
when_ok (Err e) P ok holds = cc ok

pub returns-then-is_err-clause-any_moment : goal.returns-then-is_err-clause-any_moment
returns-then-is_err-clause-any_moment g c generation bodies ready =
    let same : c.args.self.now ≡ c.self.inside.end = cc c.self.view_is in
    c.append_at.ensures.any_moment single_version generation bodies c.args.item.now c.as_bytes-bytes.ensures.written c.as_bytes-bytes.ensures.sized
    (subst (λ (end : ℕ). IsReady (g.D.Disk.meaning c.args.disk.now) generation bodies end) same ready)

pub returns-clause-any_moment : goal.returns-clause-any_moment
returns-clause-any_moment g c generation bodies ready =
    let same : c.args.self.now ≡ c.self.inside.end = cc c.self.view_is in
    c.append_at.ensures.any_moment single_version generation bodies c.args.item.now c.as_bytes-bytes.ensures.written c.as_bytes-bytes.ensures.sized
    (subst (λ (end : ℕ). IsReady (g.D.Disk.meaning c.args.disk.now) generation bodies end) same ready)

pub returns-clause-ready : goal.returns-clause-ready
returns-clause-ready g c generation bodies ready =
    let same : c.args.self.now ≡ c.self.inside.end = cc c.self.view_is in
    let both = when_ok c.append_at.result _ (sym c.if-is_err.ensures.value) c.append_at.ensures.ready single_version generation bodies c.args.item.now c.as_bytes-bytes.ensures.written c.as_bytes-bytes.ensures.sized
    (subst (λ (end : ℕ). IsReady (g.D.Disk.meaning c.args.disk.now) generation bodies end) same ready) in
    stands_sure (g.D.Disk.meaning c.append_at.new.disk) single_version generation (bodies ++ c.args.item.now ∷ []) (c.self.inside.end + length c.as_bytes-bytes.result.now) both.0 both.1
