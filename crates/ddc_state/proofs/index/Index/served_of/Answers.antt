use Rattle.std.proofs.Common.{◌≡◌, ◌+◌, ◌++◌, List, drop, is_some, ap, sym, ◌∙◌, subst}
use Rattle.std.proofs.lemmas.List.{at_drop_more}
use Rattle.std.specs.FinMap.{get}
use Rattle.ddc_names.specs.declared.reference.RefName.{RefName}
use Rattle.ddc_names.specs.declared.reference.RefSpot.{RefSpot}
use Rattle.ddc_model.specs.State.{done_of}
use Rattle.ddc_model.specs.Entries.{name_at}
use Rattle.ddc_state.specs.inside.Expired.{served_of, where_served}
use Rattle.ddc_state.proofs.Walks.{served_one, served_none}
use Rattle.ddc_state.proofs.index.Index.served_of.Goals as goal
use Rattle.ddc_state.proofs.index.Index.served_of.Goals.{then-serves+in_ok-push, else-serves}

pub loop-spot-preserved : goal.loop-spot-preserved
loop-spot-preserved c =
    let slots = c.args.self.now.state.slots in
    let space = c.args.space.now in
    let spots = c.args.spots.now in
    let i = c.loop-spot.spot-index in
    let spot = c.spot-item.result in
    let done = done_of (get slots (name_at space spot)) in
    let rest = served_of slots space (drop (i + 1) spots) in
    let before : c.loop-spot.served ++ where_served done spot rest ≡ served_of slots space spots =
    ap (λ (x : RefSpot). c.loop-spot.served ++ where_served (done_of (get slots (name_at space x))) x rest) c.spot-item.is
    ∙ sym (at_drop_more (λ (left : List RefSpot). c.loop-spot.served ++ served_of slots space left) spots i spot c.loop-spot-test.true) ∙ c.loop-spot.invariant in
    let told : c.serves.result ≡ is_some done = c.serves.ensures ∙ ap (λ (name : RefName). is_some (done_of (get slots name))) c.name_of.ensures in
    elim c.if-serves.branch [
      | then-serves+in_ok-push w ↦ subst (λ (served : List RefSpot). served ++ rest ≡ served_of slots space spots) (sym (w.served-is ∙ w.in_ok-push.ensures.ok))
          (served_one done spot c.loop-spot.served rest (served_of slots space spots) (sym told ∙ w.if-serves.true) before)
      | else-serves w ↦ subst (λ (served : List RefSpot). served ++ rest ≡ served_of slots space spots) (sym w.served-is)
          (served_none done spot c.loop-spot.served rest (served_of slots space spots) (sym told ∙ w.if-serves.false) before)
    ]
