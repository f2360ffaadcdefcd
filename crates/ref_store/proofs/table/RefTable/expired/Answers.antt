use Rattle.std.proofs.Common.{ap, ◌∙◌, ◌≡◌, None, List, take}
use Rattle.std.specs.List.{filter_map}
use Rattle.ddc_names.specs.declared.reference.RefName.{RefName}
use Rattle.ddc_names.specs.declared.reference.RefSpot.{RefSpot}
use Rattle.ref_store.specs.declared.slot.Slot.{Slot}
use Rattle.ref_store.specs.Pages.{expired_spot, expired_of}
use Rattle.ref_store.specs.inside.Places.{run_after}
use Rattle.ref_store.proofs.Answered.{at_ok}
use Rattle.ref_store.proofs.Pages.{run_read}
use Rattle.ref_store.proofs.table.RefTable.expired.Goals as goal

pub returns : goal.returns
returns c = at_ok
    (λ (spots : List RefSpot). spots ≡ take c.args.count (filter_map (expired_spot c.args.hour c.args.ttl) (run_after c.args.space.now None c.self.inside.slots.entries)))
    (λ (spots : List RefSpot). spots ≡ take c.args.count (expired_of c.args.self.now c.args.space.now c.args.hour c.args.ttl))
    c.first_expired.result c.first_expired.ensures.spots c.first_expired.ensures.ordered
    (λ ordered spots is. is ∙ ap (λ (es : List (RefName × Slot)). take c.args.count (filter_map (expired_spot c.args.hour c.args.ttl) es)) (run_read c.args.self.now c.args.space.now None c.self.inside.slots.entries c.self.view_is ordered))
