use Rattle.std.proofs.Common.{subst, ◌≡◌, Option, None, Some, option_copied, refl}
use Rattle.ddc_names.specs.declared.reference.RefName.{RefName}
use Rattle.ref_store.specs.declared.slot.Slot.{Slot}
use Rattle.ref_store.specs.Slots.{Slots}
use Rattle.ref_store.specs.Nexts.{IsNext, Next}
use Rattle.collector.specs.Roots.{IsRootNode}
use Rattle.collector.proofs.Starting.{grey_none, no_slots, slots_more, slots_all}
use Rattle.collector.proofs.collection.Collection.shade_slots.Goals as goal

as_told : (given slots : Slots) (after last : Option RefName) (found : Option (RefName × Slot)) → given ≡ slots → after ≡ last → Next given after found → Next slots last found
as_told given slots after last found g a next = subst (λ (m : Slots). Next m last found) g (subst (λ (o : Option RefName). Next given o found) a next)

pub loop-init : goal.loop-init
loop-init c = record {
  roots = λ leased. grey_none (IsRootNode c.args.index.now.state c.args.self.now.space leased c.args.self.now.hour) c.args.self.now c.args.self.now refl;
  all = no_slots c.args.index.now.state c.args.self.now;
}

pub loop-preserved : goal.loop-preserved
loop-preserved c =
    let s = c.args.index.now.state in
    let next : IsNext s.slots c.loop.last c.in-Some.name c.in-Some.slot = as_told c.refs.result.now s.slots (option_copied c.as_ref.result) c.loop.last (Some (c.in-Some.name, c.in-Some.slot)) c.refs.ensures c.as_ref.ensures.value c.in-Some.ensures in
    let both = slots_more s c.args.self.now c.loop.self c.shade_slot.new.self c.loop.last c.in-Some.name c.in-Some.slot c.loop.invariant.roots c.loop.invariant.all next c.shade_slot.ensures in
    record { roots = both.0; all = both.1 }

pub returns-in_default-clause-roots : goal.returns-in_default-clause-roots
returns-in_default-clause-roots c = c.loop.invariant.roots

pub returns-in_default-clause-all : goal.returns-in_default-clause-all
returns-in_default-clause-all c =
    slots_all c.args.index.now.state c.args.self.now c.loop.self c.loop.last c.loop.invariant.all
    (as_told c.refs.result.now c.args.index.now.state.slots (option_copied c.as_ref.result) c.loop.last None c.refs.ensures c.as_ref.ensures.value c.in_default.ensures)
