use Rattle.std.proofs.Common.{sym, ◌∙◌, ◌≡◌, refl}
use Rattle.ddc_names.specs.Orders.{name_exact}
use Rattle.collector.proofs.Starting.{slot_here, slot_elsewhere, name_itself}
use Rattle.collector.proofs.collection.Collection.shade_slot.Goals as goal

pub returns-in-Equal : goal.returns-in-Equal
returns-in-Equal c =
    let here : c.args.name.now.space ≡ c.args.self.now.space = name_exact c.args.name.now.space c.space.result (sym c.in-Equal.ensures) ∙ c.space.ensures in
    slot_here c.args.self.now c.shade_object.new.self c.shade_object-in-Equal.new.self c.args.name.now c.args.slot.now here c.shade_object.ensures c.shade_object-in-Equal.ensures

pub returns-in_default : goal.returns-in_default
returns-in_default c =
    slot_elsewhere c.args.self.now c.args.self.now c.args.name.now c.args.slot.now
    (λ e. c.in_default.not-Equal (c.cmp.ensures ∙ name_itself c.args.name.now.space c.space.result (e ∙ sym c.space.ensures))) refl
