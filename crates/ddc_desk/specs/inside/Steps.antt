-- The rule of a desk and its steps. Word 0 is the ticket that is drawn next, word 1 the ticket that is served, and the slot has the value while no turn goes on.
use Rattle.std.specs.Prelude.{◌≡◌, ◌≢◌, ℕ, ◌<◌, ◌≤◌, ◌^◌, List, [], ◌∷◌, Bool, true, false, Option, Some}
use mathlib.Core.Option.{some, none}
use mathlib.Core.List.{IsPrefix}
use lib.ListN.{get_elem?}
use Rattle.atomic_table.specs.Table.{State, Me, Step}
use Rattle.ddc_desk.specs.declared.rule.Known.{Known}
use Rattle.ddc_desk.specs.declared.rule.Role.{Role}
use Rattle.ddc_desk.specs.declared.rule.Role.TheVariants.{Idle, Waits, In}
use Rattle.ddc_desk.specs.Fronts.{longer}

module _ {I : Type 0} where
  -- a seat that has seen this front, and is at nothing
  abbrev pub idle : List I → Known I
  idle front = record { role = Idle; front = front; other = [] }

  -- it waits with the ticket n
  abbrev pub waiting : ℕ → List I → Known I
  waiting n front = record { role = Waits n; front = front; other = [] }

  -- it has the turn of the ticket n
  abbrev pub inside : ℕ → List I → Known I
  inside n front = record { role = In n; front = front; other = [] }

  -- the first of two seats with the front of the second beside its own
  abbrev pub beside : Known I → Known I → Known I
  beside mine other = record { role = mine.role; front = mine.front; other = other.front }

-- a desk between two steps: the ticket that is drawn next, the ticket that is served, the seat that drew each, whether a turn goes on, and the list that was published last
pub record Standing (I : Type 0) : Type 0 where
  pub ticket : ℕ
  pub serving : ℕ
  pub owner : ℕ → ℕ
  pub busy : Bool
  pub published : List I

module _ {I : Type 0} where
  -- what is so of a seat at its role: a ticket waits until it is served, and until no turn goes on then; a turn is that of the ticket that is served, and its front is what was published
  abbrev pub HasRole : Standing I → ℕ → List I → Role → Type 0
  HasRole desk seat front Idle = Unit {0}
  HasRole desk seat front (Waits n) = (desk.serving ≤ n) × (n < desk.ticket) × (desk.owner n ≡ seat) × (n ≡ desk.serving → desk.busy ≡ false)
  HasRole desk seat front (In n) = (n ≡ desk.serving) × (n < desk.ticket) × (desk.owner n ≡ seat) × (front ≡ desk.published) × (desk.busy ≡ true)

  -- what a seat knows is so: all that it has seen begins what was published
  abbrev pub IsSo : Standing I → ℕ → Known I → Type 0
  IsSo desk seat known = IsPrefix known.front desk.published × IsPrefix known.other desk.published × HasRole desk seat known.front known.role

-- the rule: the value is in the slot while no turn goes on, and its list is the one that was published last
pub record IsKept {T I : Type 0} (list : T → List I) (s : State (Option T) (Known I)) : Type 0 where
  pub desk : Standing I
  pub words_are : s.words ≡ desk.ticket ∷ desk.serving ∷ []
  pub ordered : desk.serving ≤ desk.ticket
  pub small : desk.ticket < 2 ^ 64
  pub drawn : desk.busy ≡ true → desk.serving < desk.ticket
  pub at_home : desk.busy ≡ false → (x : T) × (s.homes ≡ some (Some x) ∷ []) × (list x ≡ desk.published)
  pub away : desk.busy ≡ true → s.homes ≡ none ∷ []
  pub each : (seat : ℕ) (known : Known I) → get_elem? s.views seat ≡ some known → IsSo desk seat known

module _ {T I : Type 0} where
  -- the ticket was drawn, or another seat was quicker
  abbrev pub Draws : Step (Option T) → Me (Option T) (Known I) → ℕ → Me (Option T) (Known I) → Type 0
  Draws step m found m' = (found ≡ step.first → m' ≡ (waiting found m.0.front, m.1)) × (found ≢ step.first → m' ≡ m)

  -- it is the seat's turn, and it has the slot; or it is not
  abbrev pub Looks : (T → List I) → Step (Option T) → Me (Option T) (Known I) → ℕ → Me (Option T) (Known I) → Type 0
  Looks list step m found m' = (n : ℕ) → m.0.role ≡ Waits n
      → (found ≡ n → (x : T) × (m' ≡ (inside n (list x), (0, Some x) ∷ m.1)) × IsPrefix m.0.front (list x)) × (found ≢ n → m' ≡ m)

  -- the value's list is published
  abbrev pub Serves : (T → List I) → Step (Option T) → Me (Option T) (Known I) → ℕ → Me (Option T) (Known I) → Type 0
  Serves list step m found m' = (x : T) → m.1 ≡ (0, Some x) ∷ [] → m' ≡ (idle (list x), [])

  -- of the two fronts each begins the longer
  abbrev pub Compares : Step (Option T) → Me (Option T) (Known I) → ℕ → Me (Option T) (Known I) → Type 0
  Compares step m found m' = (m' ≡ (idle (longer m.0.front m.0.other), m.1)) × IsPrefix m.0.front m'.0.front × IsPrefix m.0.other m'.0.front
