use Rattle.std.proofs.Common.{◌≡◌, ◌+◌, ◌∙◌, length, List, ℕ, ap, subst, arith}
use Rattle.std.specs.Prelude.{IfSome}
use Rattle.ddc_disk.specs.Disk.{EachSince, MayTear, IsSure, overwritten}
use Rattle.ddc_journal.proofs.Append.{fits, first_each, sure_first, both_each, is_sure}
use Rattle.ddc_journal.proofs.journal.append_at.Goals as goal

pub returns-in_err-write_sure-clause-any_moment : goal.returns-in_err-write_sure-clause-any_moment
returns-in_err-write_sure-clause-any_moment g c version generation bodies body is small ready =
    let old = g.D.Disk.meaning c.args.disk.now in
    let mid = g.D.Disk.meaning c.write_sure.new.disk in
    let reads = g.met.D.Disk.reads c.args.disk.now in
    let fits_file = g.met.D.Disk.small c.args.disk.now in
    let end = c.args.gate in
    let behind : c.saturating_add.result ≡ end + 1 = omega (arith, c.saturating_add.ensures, fits old mid mid version generation bodies body small end ready reads fits_file) in
    let first = subst (λ (l : List ℕ). EachSince old.line mid.line (MayTear (end + 1) (length l) old.line)) is (subst (λ (k : ℕ). EachSince old.line mid.line (MayTear k (length c.args.bytes.now) old.line)) behind c.write_sure.ensures.any_moment) in
    first_each old mid mid version generation bodies body small end ready reads fits_file first

pub returns-clause-any_moment : goal.returns-clause-any_moment
returns-clause-any_moment g c version generation bodies body is small ready =
    let old = g.D.Disk.meaning c.args.disk.now in
    let mid = g.D.Disk.meaning c.write_sure.new.disk in
    let reads = g.met.D.Disk.reads c.args.disk.now in
    let fits_file = g.met.D.Disk.small c.args.disk.now in
    let end = c.args.gate in
    let behind : c.saturating_add.result ≡ end + 1 = omega (arith, c.saturating_add.ensures, fits old mid mid version generation bodies body small end ready reads fits_file) in
    let first = subst (λ (l : List ℕ). EachSince old.line mid.line (MayTear (end + 1) (length l) old.line)) is (subst (λ (k : ℕ). EachSince old.line mid.line (MayTear k (length c.args.bytes.now) old.line)) behind c.write_sure.ensures.any_moment) in
    let new = g.D.Disk.meaning c.write_sure-2.new.disk in
    let durable = subst (λ (l : List ℕ). IfSome old.held (λ f. IsSure mid (overwritten f (end + 1) l))) is (subst (λ (k : ℕ). IfSome old.held (λ f. IsSure mid (overwritten f k c.args.bytes.now))) behind c.in_ok-write_sure.ensures.durable) in
    let sure = sure_first old mid new version generation bodies body small end ready reads fits_file durable in
    both_each old mid new version generation bodies body small end ready reads fits_file first sure c.write_sure-2.ensures.any_moment

pub returns-in_err-write_sure-2-clause-any_moment : goal.returns-in_err-write_sure-2-clause-any_moment
returns-in_err-write_sure-2-clause-any_moment g c version generation bodies body is small ready =
    let old = g.D.Disk.meaning c.args.disk.now in
    let mid = g.D.Disk.meaning c.write_sure.new.disk in
    let reads = g.met.D.Disk.reads c.args.disk.now in
    let fits_file = g.met.D.Disk.small c.args.disk.now in
    let end = c.args.gate in
    let behind : c.saturating_add.result ≡ end + 1 = omega (arith, c.saturating_add.ensures, fits old mid mid version generation bodies body small end ready reads fits_file) in
    let first = subst (λ (l : List ℕ). EachSince old.line mid.line (MayTear (end + 1) (length l) old.line)) is (subst (λ (k : ℕ). EachSince old.line mid.line (MayTear k (length c.args.bytes.now) old.line)) behind c.write_sure.ensures.any_moment) in
    let new = g.D.Disk.meaning c.write_sure-2.new.disk in
    let durable = subst (λ (l : List ℕ). IfSome old.held (λ f. IsSure mid (overwritten f (end + 1) l))) is (subst (λ (k : ℕ). IfSome old.held (λ f. IsSure mid (overwritten f k c.args.bytes.now))) behind c.in_ok-write_sure.ensures.durable) in
    let sure = sure_first old mid new version generation bodies body small end ready reads fits_file durable in
    both_each old mid new version generation bodies body small end ready reads fits_file first sure c.write_sure-2.ensures.any_moment

pub returns-clause-ready : goal.returns-clause-ready
returns-clause-ready g c version generation bodies body is small ready =
    let old = g.D.Disk.meaning c.args.disk.now in
    let mid = g.D.Disk.meaning c.write_sure.new.disk in
    let reads = g.met.D.Disk.reads c.args.disk.now in
    let fits_file = g.met.D.Disk.small c.args.disk.now in
    let end = c.args.gate in
    let behind : c.saturating_add.result ≡ end + 1 = omega (arith, c.saturating_add.ensures, fits old mid mid version generation bodies body small end ready reads fits_file) in
    let first = subst (λ (l : List ℕ). EachSince old.line mid.line (MayTear (end + 1) (length l) old.line)) is (subst (λ (k : ℕ). EachSince old.line mid.line (MayTear k (length c.args.bytes.now) old.line)) behind c.write_sure.ensures.any_moment) in
    let new = g.D.Disk.meaning c.write_sure-2.new.disk in
    let durable = subst (λ (l : List ℕ). IfSome old.held (λ f. IsSure mid (overwritten f (end + 1) l))) is (subst (λ (k : ℕ). IfSome old.held (λ f. IsSure mid (overwritten f k c.args.bytes.now))) behind c.in_ok-write_sure.ensures.durable) in
    let sure = sure_first old mid new version generation bodies body small end ready reads fits_file durable in
    let both = is_sure old mid new version generation bodies body small end ready reads fits_file sure c.in_ok-write_sure-2.ensures.durable in
    (both.0, ap (λ (l : List ℕ). end + length l) is ∙ both.1)
