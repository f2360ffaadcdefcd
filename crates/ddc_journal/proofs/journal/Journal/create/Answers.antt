use Rattle.std.proofs.Common.{◌≡◌, sym}
use Rattle.std.specs.Prelude.{Result, Ok, Err, OnOk, false}
use Rattle.std.specs.Result.{is_err}
use Rattle.ddc_journal.proofs.journal.Journal.create.Goals as goal

when_ok : {T E : Type 0} (r : Result T E) (P : Type 0) → is_err r ≡ false → OnOk r P → P
when_ok (Ok x) P ok holds = holds
when_ok (Err e) P ok holds = cc ok

pub returns-then-is_err-clause-any_moment : goal.returns-then-is_err-clause-any_moment
returns-then-is_err-clause-any_moment g c = c.make.ensures.any_moment c.requires c.ranges.generation.fits

pub returns-clause-any_moment : goal.returns-clause-any_moment
returns-clause-any_moment g c = c.make.ensures.any_moment c.requires c.ranges.generation.fits

pub returns-clause-ready : goal.returns-clause-ready
returns-clause-ready g c = when_ok c.make.result _ (sym c.if-is_err.ensures.value) c.make.ensures.ready c.requires c.ranges.generation.fits
