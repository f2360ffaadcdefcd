use Rattle.std.proofs.Common.{Option, ◌≡◌, ◌≤◌, true, ◌∙◌, sym, subst}
use Rattle.ddc_names.specs.declared.reference.RefName.{RefName}
use Rattle.ref_store.specs.Nexts.{is_behind}
use Rattle.ddc_model.specs.Closure.{links_in}
use Rattle.needs_resolver.specs.Walking.{met_of, most_reads}
use Rattle.needs_resolver.specs.Unsound.{IsIdleAfter, reads_after}
use Rattle.needs_resolver.proofs.Reading.{no_keys, nothing_met}
use Rattle.needs_resolver.proofs.Unsound.{same_space, same_left, later_space, first_left}
use Rattle.needs_resolver.proofs.sound.go_on.Goals as goal

pub returns-in-Equal-clause-idle : goal.returns-in-Equal-clause-idle
returns-in-Equal-clause-idle c s idle = same_space s c.in-Some.before c.args.name.now.space (met_of c.args.walk.now) (sym c.in-Equal.ensures)
    (subst (λ (o : Option RefName). IsIdleAfter s o (met_of c.args.walk.now)) c.in-Some.is idle)

pub returns-in-Equal-clause-left : goal.returns-in-Equal-clause-left
returns-in-Equal-clause-left c s idle behind =
    let met = met_of c.args.walk.now in
    subst (λ (o : Option RefName). most_reads s c.args.name.now.space met ≤ reads_after s o met) (sym c.in-Some.is) (same_left s c.in-Some.before c.args.name.now.space met (sym c.in-Equal.ensures))

pub returns-in_default-cmp : goal.returns-in_default-cmp
returns-in_default-cmp c =
    let met = met_of c.new.result in
    record {
      idle = λ s idle. nothing_met (links_in s c.args.name.now.space) met (λ h. no_keys _ h c.new.ensures.seen) (λ h. no_keys _ h c.new.ensures.absent) c.new.ensures.work;
      left = λ s idle behind. subst (λ (o : Option RefName). most_reads s c.args.name.now.space met ≤ reads_after s o (met_of c.args.walk.now)) (sym c.in-Some.is)
          (later_space s c.in-Some.before c.args.name.now (met_of c.args.walk.now) met (subst (λ (o : Option RefName). is_behind o c.args.name.now ≡ true) c.in-Some.is behind) (λ same. c.in_default-cmp.not-Equal (c.cmp.ensures ∙ same)) c.new.ensures.work);
    }

pub returns-in_default-clause-idle : goal.returns-in_default-clause-idle
returns-in_default-clause-idle c s idle = subst (λ (o : Option RefName). IsIdleAfter s o (met_of c.args.walk.now)) c.in_default.is idle c.args.name.now.space

pub returns-in_default-clause-left : goal.returns-in_default-clause-left
returns-in_default-clause-left c s idle behind =
    let met = met_of c.args.walk.now in
    let space = c.args.name.now.space in
    subst (λ (o : Option RefName). most_reads s space met ≤ reads_after s o met) (sym c.in_default.is) (first_left s space met (subst (λ (o : Option RefName). IsIdleAfter s o met) c.in_default.is idle space).none_ahead)
