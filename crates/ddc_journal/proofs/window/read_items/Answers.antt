use Rattle.std.proofs.Common.{◌≡◌, ◌∙◌, List, ℕ, length, drop, refl, sym, subst, arith, inl, inr}
use Rattle.std.proofs.lemmas.Bool.{cases_lt}
use Rattle.ddc_disk.specs.Told.{at_told}
use Rattle.ddc_journal.specs.inside.Scanning.{IsReadTo, NeedsAt, StopsAt}
use Rattle.ddc_journal.specs.declared.parse.Stop.TheVariants.{Closed, Lacks}
use Rattle.ddc_journal.proofs.Making.{if_told}
use Rattle.ddc_journal.proofs.Windows.{ends, only_both, only_none, piece_fails, read_none}
use Rattle.ddc_journal.proofs.window.read_items.Goals as goal

pub windows-init : goal.windows-init
windows-init g c = record {
  inside = c.requires;
  only = only_none (g.D.Disk.meaning c.args.disk.now) (g.met.D.Disk.rests c.args.disk.now);
  faults = refl;
  told = λ file is size_is. subst (λ (l : List (List ℕ)). IsReadTo l 21 file) (sym c.new.ensures) (read_none file (omega arith));
}

pub returns-in-Ok-Closed-clause-ends : goal.returns-in-Ok-Closed-clause-ends
returns-in-Ok-Closed-clause-ends g c = if_told (g.D.Disk.meaning c.args.disk.now).held _ (λ file is size_is.
    let i = c.windows.invariant in
    let old = c.windows.walk in
    let new = c.read_window.new.walk in
    let held = (g.D.Disk.meaning c.windows.disk).held in
    let reads = rw c.in-Ok-Closed.field-0-is at c.in-Ok-Closed.ensures.reads in
    let both = at_told held (λ f. c.args.size ≡ length f → IsReadTo old.bodies old.at f → IsReadTo new.bodies new.at f × StopsAt Closed (drop new.at f)) file (i.only.held ∙ is) reads size_is (i.told file is size_is) in
    ends file new.bodies new.at both.0 both.1)

pub windows-preserved : goal.windows-preserved
windows-preserved g c =
    let i = c.windows.invariant in
    let m = g.D.Disk.meaning in
    let old = c.windows.walk in
    let mid = c.read_window.new.walk in
    let new = c.pass_item.new.walk in
    let need = c.in-Ok-Lacks.need in
    let first = i.only in
    let second = only_both (m c.args.disk.now) (m c.windows.disk) (m c.read_window.new.disk) first c.read_window.ensures.only in
    record {
      inside = c.in-Ok.ensures.inside;
      only = only_both (m c.args.disk.now) (m c.read_window.new.disk) (m c.pass_item.new.disk) second c.pass_item.ensures.only;
      faults = i.faults ∙ c.in-Ok-Lacks.ensures.cause.same ∙ c.in-Ok.ensures.cause.same;
      told = λ file is size_is.
          let reads = rw c.in-Ok-Lacks.field-0-is at c.in-Ok-Lacks.ensures.reads in
          let both = at_told (m c.windows.disk).held (λ f. c.args.size ≡ length f → IsReadTo old.bodies old.at f → IsReadTo mid.bodies mid.at f × StopsAt (Lacks need) (drop mid.at f)) file (first.held ∙ is) reads size_is (i.told file is size_is) in
          at_told (m c.read_window.new.disk).held (λ f. c.args.size ≡ length f → IsReadTo mid.bodies mid.at f → NeedsAt need (drop mid.at f) → IsReadTo new.bodies new.at f) file (second.held ∙ is) c.in-Ok.ensures.reads size_is both.0 both.1;
    }

pub windows-smaller : goal.windows-smaller
windows-smaller g c =
    let goes = rw c.in-Ok-Lacks.field-0-is at c.in-Ok-Lacks.ensures.goes in
    let passes = c.in-Ok.ensures.goes in
    elim (cases_lt 65536 c.in-Ok-Lacks.need) [
      | inl long ↦ let lt = passes.2 long in omega (arith, goes.0, passes.1, lt, c.in-Ok.ensures.inside)
      | inr le ↦ let lt = goes.1 le passes.0 in omega (arith, passes.1, lt, c.in-Ok.ensures.inside)
    ]

pub returns-in-Err-clause-fault : goal.returns-in-Err-clause-fault
returns-in-Err-clause-fault g c = piece_fails (g.D.Disk.meaning c.args.disk.now).held c.args.size c.args.number c.in-Err.fault c.in-Err.ensures.fault
