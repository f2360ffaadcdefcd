use Rattle.std.proofs.Common.{inl}
use Rattle.ddc_disk.specs.Since.{then_runs, weaker}
use Rattle.ddc_journal.specs.inside.Closing.{IsRemade}
use Rattle.ddc_journal.proofs.Making.{unmade_run, gate_remakes, sure_of}
use Rattle.ddc_journal.proofs.create.remake.Goals as goal

pub returns-in_err-close-clause-any_moment : goal.returns-in_err-close-clause-any_moment
returns-in_err-close-clause-any_moment g c file bodies sure are =
    let P = IsRemade c.args.version c.args.generation bodies file in
    let old = g.D.Disk.meaning c.args.disk.now in
    let a = g.D.Disk.meaning c.close.new.disk in
    weaker old.line a.line _ P (c.close.ensures.any_moment file sure) (λ image le. inl le)

pub returns-in_err-fill-clause-any_moment : goal.returns-in_err-fill-clause-any_moment
returns-in_err-fill-clause-any_moment g c file bodies sure are =
    let P = IsRemade c.args.version c.args.generation bodies file in
    let old = g.D.Disk.meaning c.args.disk.now in
    let a = g.D.Disk.meaning c.close.new.disk in
    let b = g.D.Disk.meaning c.fill.new.disk in
    let one = weaker old.line a.line _ P (c.close.ensures.any_moment file sure) (λ image le. inl le) in
    let two = unmade_run a b c.args.version c.args.generation bodies file (c.fill.ensures.any_moment (c.in_ok-close.ensures.closed file sure)) in
    then_runs old.line a.line b.line P P one two (λ image is. is)

pub returns-in_err-write_sure-clause-any_moment : goal.returns-in_err-write_sure-clause-any_moment
returns-in_err-write_sure-clause-any_moment g c file bodies sure are =
    let P = IsRemade c.args.version c.args.generation bodies file in
    let old = g.D.Disk.meaning c.args.disk.now in
    let a = g.D.Disk.meaning c.close.new.disk in
    let b = g.D.Disk.meaning c.fill.new.disk in
    let new = g.D.Disk.meaning c.write_sure.new.disk in
    let closed = c.in_ok-close.ensures.closed file sure in
    let one = weaker old.line a.line _ P (c.close.ensures.any_moment file sure) (λ image le. inl le) in
    let two = then_runs old.line a.line b.line P P one (unmade_run a b c.args.version c.args.generation bodies file (c.fill.ensures.any_moment closed)) (λ image is. is) in
    let three = gate_remakes b c.args.version c.args.generation bodies c.args.items.now (c.in_ok-fill.ensures.filled closed) are file new c.write_sure.ensures.any_moment in
    then_runs old.line b.line new.line P P two three (λ image is. is)

pub returns-clause-any_moment : goal.returns-clause-any_moment
returns-clause-any_moment g c file bodies sure are =
    let P = IsRemade c.args.version c.args.generation bodies file in
    let old = g.D.Disk.meaning c.args.disk.now in
    let a = g.D.Disk.meaning c.close.new.disk in
    let b = g.D.Disk.meaning c.fill.new.disk in
    let new = g.D.Disk.meaning c.write_sure.new.disk in
    let closed = c.in_ok-close.ensures.closed file sure in
    let one = weaker old.line a.line _ P (c.close.ensures.any_moment file sure) (λ image le. inl le) in
    let two = then_runs old.line a.line b.line P P one (unmade_run a b c.args.version c.args.generation bodies file (c.fill.ensures.any_moment closed)) (λ image is. is) in
    let three = gate_remakes b c.args.version c.args.generation bodies c.args.items.now (c.in_ok-fill.ensures.filled closed) are file new c.write_sure.ensures.any_moment in
    then_runs old.line b.line new.line P P two three (λ image is. is)

pub returns-clause-made : goal.returns-clause-made
returns-clause-made g c file bodies sure are =
    let b = g.D.Disk.meaning c.fill.new.disk in
    let new = g.D.Disk.meaning c.write_sure.new.disk in
    let closed = c.in_ok-close.ensures.closed file sure in
    sure_of b c.args.version c.args.generation bodies c.args.items.now (c.in_ok-fill.ensures.filled closed) are new c.in_ok-write_sure.ensures.durable
