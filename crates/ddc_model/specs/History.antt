-- The steps of a store that was opened, and what they leave.
use Rattle.std.specs.Prelude.{◌≡◌, ℕ, ◌+◌, ◌-◌, ◌^◌, ◌≤◌, ◌||◌, ◌⊎◌, not, true, min, List, [], ◌∷◌, Option, None, Some, IsSome, Result, Err, nat_lt, if◌then◌else◌, ⊤, ◌↔◌}
use Rattle.std.specs.FinMap.{FinMap, get, insert, remove, empty}
use Rattle.std.specs.Ordering.{nat_cmp}
use Rattle.std.specs.List.{Contains}
use Rattle.ddc_names.specs.declared.hash.IoHash.{IoHash}
use Rattle.ddc_names.specs.declared.reference.RefSpot.{RefSpot}
use Rattle.cb_fields.specs.declared.links.LinkKind.{LinkKind}
use Rattle.ref_store.specs.declared.slot.Slot.{Slot}
use Rattle.ddc_model.specs.declared.rows.SpaceRow.{SpaceRow}
use Rattle.ddc_model.specs.declared.entry.Entry.{Entry}
use Rattle.ddc_model.specs.declared.entry.Entry.TheVariants.{Put, Finalise, Expire, Swept, BaseHour, BaseSlot, BaseEvent}
use Rattle.ddc_model.specs.declared.entry.Step.{Step}
use Rattle.ddc_model.specs.declared.entry.Step.TheVariants.{Loaded, Change, Lease, Unlease, Broke}
use Rattle.ddc_model.specs.declared.fault.StoreFault.{StoreFault}
use Rattle.ddc_model.specs.declared.fault.StoreFault.TheVariants.{Broken, HistoryFull}
use Rattle.ddc_model.specs.State.{State}
use Rattle.ddc_model.specs.Entries.{after, has_room_for_events, name_at, with_put_root}
use Rattle.ddc_model.specs.Closure.{links_in, IsReached, IsWhole}
use Rattle.ddc_model.specs.Counts.{added_links, fresh_of}

-- ---- what the steps leave

abbrev pub after_step : State → Step → State
after_step s (Change entry) = after s entry
after_step s step = s

-- the state after all of the steps
abbrev pub after_steps : State → List Step → State
after_steps s [] = s
after_steps s (step ∷ steps) = after_steps (after_step s step) steps

-- how many entries were made since the opening, and how many links they added
pub record Past : Type 0 where
  pub entries : ℕ
  pub links : ℕ

abbrev pub none_yet : Past
none_yet = record { entries = 0; links = 0 }

abbrev pub one_entry_more : Past → Entry → Past
one_entry_more past entry = record { entries = past.entries + 1; links = past.links + added_links (fresh_of entry) }

abbrev pub past_after : Past → Step → Past
past_after past (Loaded limits faults) = none_yet
past_after past (Change entry) = one_entry_more past entry
past_after past step = past

abbrev pub past_of_all : Past → List Step → Past
past_of_all past [] = past
past_of_all past (step ∷ steps) = past_of_all (past_after past step) steps

abbrev pub past_of : List Step → Past
past_of steps = past_of_all none_yet steps

-- the count of faults at which the store broke, if it did
abbrev pub broken_by : List Step → Option ℕ
broken_by [] = None
broken_by (Broke changed before now ∷ steps) = Some now
broken_by (step ∷ steps) = broken_by steps

-- ---- leases

-- a blob that is lent
pub record Lent : Type 0 where
  pub space : List ℕ
  pub hash : IoHash

-- the leases since an opening: the least number that the next one may have, and those that are open, by their numbers
pub record Leases : Type 0 where
  pub next : ℕ
  pub held : FinMap nat_cmp Lent

abbrev pub no_leases : Leases
no_leases = record { next = 0; held = empty }

abbrev pub leases_after : Leases → Step → Leases
leases_after leases (Lease number space hash) = record { next = number + 1; held = insert leases.held number (record { space = space; hash = hash }) }
leases_after leases (Unlease number) = record leases { held = remove leases.held number }
leases_after leases step = leases

abbrev pub leases_of_all : Leases → List Step → Leases
leases_of_all leases [] = leases
leases_of_all leases (step ∷ steps) = leases_of_all (leases_after leases step) steps

-- the blob is lent
abbrev pub IsLent : Leases → List ℕ → IoHash → Type 0
IsLent leases space hash = (number : ℕ) × (get leases.held number ≡ Some (record { space = space; hash = hash }))

-- ---- which steps are lawful where they stand

-- a reference of the namespace reaches the blob, by its finalised object or by its pending one
pub record IsKept (s : State) (space : List ℕ) (hash : IoHash) : Type 0 where
  pub spot : RefSpot
  pub slot : Slot
  pub there : get s.slots (name_at space spot) ≡ Some slot
  pub root : IoHash
  pub names : (slot.done ≡ Some root) ⊎ (slot.pending ≡ Some root)
  pub kind : LinkKind
  pub reached : IsReached (links_in s space) root (record { kind = kind; hash = hash })

-- the reference was not read for the time that its namespace gives it
pub record IsExpired (s : State) (space : List ℕ) (spot : RefSpot) (hour : ℕ) : Type 0 where
  pub slot : Slot
  pub row : SpaceRow
  pub there : get s.slots (name_at space spot) ≡ Some slot
  pub times : get s.spaces space ≡ Some row
  pub passed : slot.seen + row.ttl ≤ hour

-- a reference is finalised only with its closure whole, and at a put exactly then; only what has expired is taken away for
-- that, and only a blob that no reference reaches and that isn't lent is removed; what writes a state down anew is no change
-- of an open store
abbrev pub IsLawful : Leases → State → Entry → Type 0
IsLawful leases s (Put name root fresh whole hour) = (whole ≡ true) ↔ IsWhole (links_in (with_put_root s name.space root fresh hour) name.space) root
IsLawful leases s (Finalise name hash hour) = IsWhole (links_in s name.space) hash
IsLawful leases s (Expire space spots hour) = (spot : RefSpot) → Contains spots spot → IsExpired s space spot hour
IsLawful leases s (Swept space hashes) = (hash : IoHash) → Contains hashes hash → (¬ IsKept s space hash) × (¬ IsLent leases space hash)
IsLawful leases s (BaseHour hour) = ⊥
IsLawful leases s (BaseSlot name finalised pending seen) = ⊥
IsLawful leases s (BaseEvent name number op) = ⊥
IsLawful leases s entry = ⊤

-- only open leases are given back, and nothing else follows
abbrev pub AreReturns : Leases → List Step → Type 0
AreReturns leases [] = ⊤
AreReturns leases (Unlease number ∷ steps) = IsSome (get leases.held number) × AreReturns (leases_after leases (Unlease number)) steps
AreReturns leases (step ∷ steps) = ⊥

-- the steps after an opening at this count of faults; what follows one that broke the store gives leases back
abbrev pub AreLawful : ℕ → State → Leases → List Step → Type 0
AreLawful faults s leases [] = ⊤
AreLawful faults s leases (Loaded limits count ∷ steps) = ⊥
AreLawful faults s leases (Change entry ∷ steps) = IsLawful leases s entry × AreLawful faults (after s entry) leases steps
AreLawful faults s leases (Lease number space hash ∷ steps) = (leases.next ≤ number) × AreLawful faults s (leases_after leases (Lease number space hash)) steps
AreLawful faults s leases (Unlease number ∷ steps) = IsSome (get leases.held number) × AreLawful faults s (leases_after leases (Unlease number)) steps
AreLawful faults s leases (Broke changed before now ∷ steps) = (faults ≤ before) × (min (before + 1) (2 ^ 64 - 1) ≤ now) × AreReturns leases steps

-- ---- when the history has no room

abbrev pub no_room : State → Past → Entry → Option StoreFault
no_room s past entry =
    if nat_lt s.limits.entries (past.entries + 1) || nat_lt s.limits.entry_links (past.links + added_links (fresh_of entry)) || not (has_room_for_events s entry)
    then Some (HistoryFull past.entries past.links) else None

abbrev pub no_room_for : State → Past → Option Entry → Option StoreFault
no_room_for s past (Some entry) = no_room s past entry
no_room_for s past None = None

-- what a command answers and makes, by whether there is room
abbrev pub RoomWhere : {A : Type 0} → Option StoreFault → Result A StoreFault → Option Entry → Result A StoreFault → Option Entry → Type 0
RoomWhere None wished entry answer made = (answer ≡ wished) × (made ≡ entry)
RoomWhere (Some fault) wished entry answer made = (answer ≡ Err fault) × (made ≡ None)

-- a command is refused where it would make an entry for which the history has no room
abbrev pub WithRoom : {A : Type 0} → State → Past → (Result A StoreFault → Option Entry → Type 0) → Result A StoreFault → Option Entry → Type 0
WithRoom {A} s past Answers answer made =
    (wished : Result A StoreFault) × (entry : Option Entry) × Answers wished entry × RoomWhere (no_room_for s past entry) wished entry answer made

-- a broken store answers nothing else
abbrev pub broken_or : {A : Type 0} → Option ℕ → Result A StoreFault → Result A StoreFault
broken_or (Some faults) answer = Err (Broken faults)
broken_or None answer = answer

abbrev pub unless_broken : {A : Type 0} → List Step → Result A StoreFault → Result A StoreFault
unless_broken steps answer = broken_or (broken_by steps) answer
