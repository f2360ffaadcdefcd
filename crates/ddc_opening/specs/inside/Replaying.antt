-- What the bodies of a journal lead to, or why they lead nowhere.
use Rattle.std.specs.Prelude.{◌≡◌, ℕ, ◌+◌, ◌-◌, ◌^◌, min, Bool, true, false, List, [], ◌∷◌, ◌++◌, map, length}
use Rattle.ddc_journal.specs.Journal.{front_size, items}
use Rattle.ddc_journal.specs.declared.fault.JournalFault.{JournalFault}
use Rattle.ddc_journal.specs.declared.fault.JournalFault.TheVariants as journal
use Rattle.ddc_model.specs.declared.rows.Limits.{Limits}
use Rattle.ddc_model.specs.declared.entry.Entry.{Entry}
use Rattle.ddc_model.specs.declared.entry.Step.{Step}
use Rattle.ddc_model.specs.declared.entry.Step.TheVariants.{Change}
use Rattle.ddc_model.specs.State.{State, empty_state}
use Rattle.ddc_model.specs.Entries.{after, legal}
use Rattle.ddc_model.specs.Sound.{IsFirstUnsound}
use Rattle.ddc_entry.specs.Spelling.{spelling, IsEntry}
use Rattle.ddc_opening.specs.Opening.{AreSpelled, AreLegal, after_all, IsNoChange}
use Rattle.ddc_opening.specs.declared.fault.OpenFault.{OpenFault}
use Rattle.ddc_opening.specs.declared.fault.OpenFault.TheVariants.{DiskFailed, NotMade, Corrupt, BadVersion, Unsound, NoMemory}

-- a fault of the journal as one of the store
abbrev pub of_journal : JournalFault → OpenFault
of_journal journal.DiskFailed = DiskFailed
of_journal journal.NotMade = NotMade
of_journal (journal.Corrupt which at) = Corrupt which at
of_journal (journal.BadVersion found) = BadVersion found
of_journal journal.NoMemory = NoMemory

-- the bodies are entries that lead from nothing to this state, and these are their changes
pub record AreReplayed (limits : Limits) (bodies : List (List ℕ)) (s : State) (steps : List Step) : Type 0 where
  pub all : List Entry
  pub spelled : AreSpelled bodies all
  pub are_legal : AreLegal (empty_state limits) all
  pub state : s ≡ after_all (empty_state limits) all
  pub steps_are : steps ≡ map Change all

-- after good bodies stands one that is no change; its gate is at this place, or so far that no file is as long
pub record StopsAt (limits : Limits) (bodies : List (List ℕ)) (at : ℕ) : Type 0 where
  pub good : List (List ℕ)
  pub bad : List ℕ
  pub others : List (List ℕ)
  pub all : List Entry
  pub split : bodies ≡ good ++ bad ∷ others
  pub spelled : AreSpelled good all
  pub are_legal : AreLegal (empty_state limits) all
  pub no_change : IsNoChange (after_all (empty_state limits) all) bad
  pub place : at ≡ min (front_size + length (items good)) (2 ^ 64 - 1)

-- why the bodies of the file with this number can't be replayed
abbrev pub ReplayFault : Limits → List (List ℕ) → ℕ → OpenFault → Type 0
ReplayFault limits bodies file (Corrupt which at) = (which ≡ file) × StopsAt limits bodies at
ReplayFault limits bodies file (Unsound name) = (s : State) × (steps : List Step) × AreReplayed limits bodies s steps × IsFirstUnsound s name
ReplayFault limits bodies file NoMemory = Unit {0}
ReplayFault limits bodies file fault = ⊥

-- the change of a body is made
pub record MakesBody (body : List ℕ) (s next : State) (steps longer : List Step) : Type 0 where
  pub entry : Entry
  pub spellable : IsEntry entry
  pub spelled : body ≡ spelling entry
  pub legal_is : legal s entry ≡ true
  pub state : next ≡ after s entry
  pub steps_are : longer ≡ steps ++ Change entry ∷ []

-- it is made, or there is none
abbrev pub MakesOrNot : List ℕ → State → State → List Step → List Step → Bool → Type 0
MakesOrNot body s next steps longer true = MakesBody body s next steps longer
MakesOrNot body s next steps longer false = IsNoChange s body
