use Rattle.std.proofs.Common.{◌≡◌, true, List, [], ◌∷◌, ◌++◌}
use Rattle.cb_fields.specs.declared.links.Link.{Link}
use Rattle.cb_fields.specs.Shape.{counted}
use Rattle.cb_fields.specs.Language.{starts_object}
use Rattle.cb_fields.specs.Fault.{FaultAt}
use Rattle.cb_fields.specs.inside.FieldWalk.{Cut, Fault, Comes, Carries, StepsOn}
use Rattle.cb_fields.proofs.Agree.{comes_object, comes_fault, fault_no_object}
use Rattle.cb_fields.proofs.check.check_object.Goals as goal

pub loop-walk-preserved-in-Moved : goal.loop-walk-preserved-in-Moved
loop-walk-preserved-in-Moved c =
    let s : StepsOn c.args.bytes.now c.loop-walk.walk c.advance.new.self [] = rw c.in-Moved.is at c.in_ok-advance.ensures in
    (s.bounds, (c.loop-walk.invariant.1.0 ++ [], s.carries c.loop-walk.invariant.1.0 c.loop-walk.invariant.1.1))

pub loop-walk-preserved : goal.loop-walk-preserved
loop-walk-preserved c =
    let s : StepsOn c.args.bytes.now c.loop-walk.walk c.advance.new.self (c.in-Met.field-0 ∷ []) = rw c.in-Met.is at c.in_ok-advance.ensures in
    (s.bounds, (c.loop-walk.invariant.1.0 ++ c.in-Met.field-0 ∷ [], s.carries c.loop-walk.invariant.1.0 c.loop-walk.invariant.1.1))

pub returns-in-Complete : goal.returns-in-Complete
returns-in-Complete c =
    let starts : starts_object c.args.bytes.now ≡ true = cc in
    let comes : (links : List Link) → Carries c.args.bytes.now c.loop-walk.walk links → Comes (counted 1) c.args.bytes.now 0 [] (Cut links) =
    rw c.in-Complete.is at c.in_ok-advance.ensures in
    (c.loop-walk.invariant.1.0, comes_object _ _ starts (comes c.loop-walk.invariant.1.0 c.loop-walk.invariant.1.1))

pub returns-in-Broken : goal.returns-in-Broken
returns-in-Broken c =
    let starts : starts_object c.args.bytes.now ≡ true = cc in
    let comes : (links : List Link) → Carries c.args.bytes.now c.loop-walk.walk links → Comes (counted 1) c.args.bytes.now 0 [] (Fault c.advance.new.self.at) =
    rw c.in-Broken.is at c.in_ok-advance.ensures in
    let fault : FaultAt c.args.bytes.now c.advance.new.self.at = comes_fault _ _ starts (comes c.loop-walk.invariant.1.0 c.loop-walk.invariant.1.1) in
    (fault_no_object _ _ fault, fault)
