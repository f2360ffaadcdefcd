use Rattle.std.proofs.Common.{◌≡◌, length, List, ℕ, subst, rules}
use Rattle.std.specs.Prelude.{IfSome, Some}
use Rattle.ddc_disk.specs.Disk.{IsImage, MayTear, overwritten}
use Rattle.ddc_disk.specs.Since.{weaker, then_runs, tears_once}
use Rattle.ddc_journal.specs.inside.Closing.{IsUnmade}
use Rattle.ddc_journal.proofs.Making.{not_open, head_torn, tail_torn, filled}
use Rattle.ddc_journal.proofs.create.fill.Goals as goal

pub returns-in_err-write_at-clause-any_moment : goal.returns-in_err-write_at-clause-any_moment
returns-in_err-write_at-clause-any_moment g c closed =
    let old = g.D.Disk.meaning c.args.disk.now in
    let mid = g.D.Disk.meaning c.write_at.new.self in
    let size : length c.head.result ≡ 20 = search rules in
    let crash = subst (λ (n : ℕ). (image : List ℕ) → IsImage mid.line image → MayTear 0 n old.line image) size c.write_at.ensures.crash in
    let first = weaker old.line mid.line (MayTear 0 20 old.line) IsUnmade (tears_once old.line mid.line 0 20 (g.met.D.Disk.rests c.args.disk.now) crash c.write_at.ensures.time) (λ image torn. not_open old c.args.version c.args.generation c.args.items.now closed image (head_torn old c.args.version c.args.generation c.args.items.now closed image torn)) in
    first

pub returns-in_err-write_sure-clause-any_moment : goal.returns-in_err-write_sure-clause-any_moment
returns-in_err-write_sure-clause-any_moment g c closed =
    let old = g.D.Disk.meaning c.args.disk.now in
    let mid = g.D.Disk.meaning c.write_at.new.self in
    let size : length c.head.result ≡ 20 = search rules in
    let crash = subst (λ (n : ℕ). (image : List ℕ) → IsImage mid.line image → MayTear 0 n old.line image) size c.write_at.ensures.crash in
    let first = weaker old.line mid.line (MayTear 0 20 old.line) IsUnmade (tears_once old.line mid.line 0 20 (g.met.D.Disk.rests c.args.disk.now) crash c.write_at.ensures.time) (λ image torn. not_open old c.args.version c.args.generation c.args.items.now closed image (head_torn old c.args.version c.args.generation c.args.items.now closed image torn)) in
    let new = g.D.Disk.meaning c.write_sure.new.disk in
    let second = weaker mid.line new.line (MayTear 21 (length c.args.items.now) mid.line) IsUnmade c.write_sure.ensures.any_moment
    (λ image torn. not_open old c.args.version c.args.generation c.args.items.now closed image (tail_torn old c.args.version c.args.generation c.args.items.now closed (length c.args.items.now) torn.0 image (head_torn old c.args.version c.args.generation c.args.items.now closed torn.0 (crash torn.0 torn.1)) torn.2)) in
    then_runs old.line mid.line new.line IsUnmade IsUnmade first second (λ image is. is)

pub returns-clause-any_moment : goal.returns-clause-any_moment
returns-clause-any_moment g c closed =
    let old = g.D.Disk.meaning c.args.disk.now in
    let mid = g.D.Disk.meaning c.write_at.new.self in
    let size : length c.head.result ≡ 20 = search rules in
    let crash = subst (λ (n : ℕ). (image : List ℕ) → IsImage mid.line image → MayTear 0 n old.line image) size c.write_at.ensures.crash in
    let first = weaker old.line mid.line (MayTear 0 20 old.line) IsUnmade (tears_once old.line mid.line 0 20 (g.met.D.Disk.rests c.args.disk.now) crash c.write_at.ensures.time) (λ image torn. not_open old c.args.version c.args.generation c.args.items.now closed image (head_torn old c.args.version c.args.generation c.args.items.now closed image torn)) in
    let new = g.D.Disk.meaning c.write_sure.new.disk in
    let second = weaker mid.line new.line (MayTear 21 (length c.args.items.now) mid.line) IsUnmade c.write_sure.ensures.any_moment
    (λ image torn. not_open old c.args.version c.args.generation c.args.items.now closed image (tail_torn old c.args.version c.args.generation c.args.items.now closed (length c.args.items.now) torn.0 image (head_torn old c.args.version c.args.generation c.args.items.now closed torn.0 (crash torn.0 torn.1)) torn.2)) in
    then_runs old.line mid.line new.line IsUnmade IsUnmade first second (λ image is. is)

pub returns-clause-filled : goal.returns-clause-filled
returns-clause-filled g c closed =
    let old = g.D.Disk.meaning c.args.disk.now in
    let mid = g.D.Disk.meaning c.write_at.new.self in
    let new = g.D.Disk.meaning c.write_sure.new.disk in
    let written = subst (λ (l : List ℕ). IfSome old.held (λ f. mid.held ≡ Some (overwritten f 0 l))) c.head.ensures c.in_ok-write_at.ensures.written in
    filled old c.args.version c.args.generation c.args.items.now closed mid new written c.in_ok-write_sure.ensures.durable
