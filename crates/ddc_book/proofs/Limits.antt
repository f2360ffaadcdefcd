-- That the limits of a store stay.
use Rattle.std.specs.Prelude.{◌≡◌, ℕ, List, [], ◌∷◌, Option, None, Some, refl}
use Rattle.std.proofs.Common.{◌∙◌}
use Rattle.std.specs.FinMap.{get, remove}
use Rattle.ref_store.specs.declared.slot.Slot.{Slot}
use Rattle.ddc_names.specs.declared.hash.IoHash.{IoHash}
use Rattle.ddc_names.specs.declared.reference.RefName.{RefName}
use Rattle.ddc_model.specs.declared.entry.Stored.{Stored}
use Rattle.ddc_model.specs.declared.entry.Entry.{Entry}
use Rattle.ddc_model.specs.declared.entry.Entry.TheVariants.{Space, Upload, Repin, Put, Finalise, Delete, Touch, Expire, Swept, Cursor, BaseHour, BaseSlot, BaseEvent}
use Rattle.ddc_model.specs.State.{State, done_of}
use Rattle.ddc_model.specs.Entries.{after, with_put_root, with_touch}
use Rattle.ddc_model.proofs.Events.{added_any, deleted_any, put_any}
use Rattle.ddc_model.proofs.Removals.{without_any}
use Rattle.ddc_opening.specs.Opening.{after_all}

touch_limits : (s : State) (name : RefName) (hour : ℕ) (slot : Option Slot) → (with_touch s name hour slot).limits ≡ s.limits
touch_limits s name hour None = refl
touch_limits s name hour (Some slot) = refl

root_limits : (s : State) (space : List ℕ) (root : IoHash) (fresh : Option Stored) (hour : ℕ) → (with_put_root s space root fresh hour).limits ≡ s.limits
root_limits s space root None hour = refl
root_limits s space root (Some blob) hour = refl

-- a state within these limits
abbrev Within : State → State → Type 0
Within s t = t.limits ≡ s.limits

pub after_limits : (s : State) (entry : Entry) → (after s entry).limits ≡ s.limits
after_limits s (Space space ttl pin) = refl
after_limits s (Upload space hour blob) = refl
after_limits s (Repin space hash hour) = refl
after_limits s (Put name root fresh whole hour) = put_any (Within s) (with_put_root s name.space root fresh hour) (λ logs. root_limits s name.space root fresh hour) name root whole
after_limits s (Finalise name hash hour) = added_any (Within s) s (λ logs. refl) name (done_of (get s.slots name)) hash
after_limits s (Delete name hour) = deleted_any (Within s) (record s { slots = remove s.slots name }) (λ logs. refl) name (done_of (get s.slots name))
after_limits s (Touch name hour) = touch_limits s name hour (get s.slots name)
after_limits s (Expire space spots hour) = without_any (Within s) s space spots (λ slots logs. refl)
after_limits s (Swept space hashes) = refl
after_limits s (Cursor space cursor) = refl
after_limits s (BaseHour hour) = refl
after_limits s (BaseSlot name finalised pending seen) = refl
after_limits s (BaseEvent name number op) = refl

pub all_limits : (s : State) (all : List Entry) → (after_all s all).limits ≡ s.limits
all_limits s [] = refl
all_limits s (entry ∷ others) = all_limits (after s entry) others ∙ after_limits s entry
