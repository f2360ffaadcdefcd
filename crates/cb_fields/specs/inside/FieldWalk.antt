-- What the state of the walk says of the bytes.
use Rattle.std.specs.Prelude.{◌≡◌, ℕ, ◌+◌, ◌-◌, ◌*◌, ◌<◌, ◌≤◌, List, [], ◌∷◌, ◌++◌, length, reverse, Result, Ok, Err}
use Rattle.std.specs.List.{slice_range}
use Rattle.ddc_names.specs.declared.rows.NoMemory.{NoMemory}
use Rattle.cb_fields.specs.declared.links.Link.{Link}
use Rattle.cb_fields.specs.declared.header.Contents.{Contents}
use Rattle.cb_fields.specs.declared.field_walk.Open.{Open}
use Rattle.cb_fields.specs.declared.field_walk.FieldWalk.{FieldWalk}
use Rattle.cb_fields.specs.declared.field_walk.Step.{Step}
use Rattle.cb_fields.specs.declared.field_walk.Step.TheVariants.{Moved, Met, Complete, Broken}
use Rattle.cb_fields.specs.Shape.{counted}
use Rattle.cb_fields.specs.Language.{Whole, Spells}
use Rattle.cb_fields.specs.Fault.{FirstFault}

-- the place of the first fault, or all the links
pub data Outcome : Type 0 where
  Fault : (at : ℕ) → Outcome
  Cut : (links : List Link) → Outcome

-- what comes of bytes that are to be contents: they begin at the place at, and links came before them
abbrev pub Comes : Contents → List ℕ → ℕ → List Link → Outcome → Type 0
Comes contents bytes at before (Fault place) = (n : ℕ) × FirstFault contents bytes n × (place ≡ at + n)
Comes contents bytes at before (Cut all) = (links : List Link) × Spells (Whole contents) bytes links × (all ≡ before ++ links)

-- what comes of the containers around, the inmost first, once the one inside, which ends at the place at, came to an outcome
abbrev pub Then : List ℕ → List Open → ℕ → Outcome → Outcome → Type 0
Then bytes [] at mid o = o ≡ mid
Then bytes (open_one ∷ outer) at (Fault place) o = o ≡ Fault place
Then bytes (open_one ∷ outer) at (Cut links) o =
    (mid : Outcome) × Comes open_one.contents (slice_range bytes at open_one.end) at links mid × Then bytes outer open_one.end mid o

-- each container ends within the next
abbrev pub Nested : ℕ → List Open → ℕ → Type 0
Nested at [] end = at ≤ end
Nested at (open_one ∷ outer) end = (at ≤ open_one.end) × Nested open_one.end outer end

pub record InBounds (bytes : List ℕ) (walk : FieldWalk) : Type 0 where
  pub before : walk.at ≤ walk.inmost.end
  pub fits : walk.inmost.end ≤ length bytes
  pub nested : Nested walk.inmost.end (reverse walk.outer.items) (length bytes)

-- with the links before the place, whatever comes of the inmost container and then of those around it comes of the whole
abbrev pub Carries : List ℕ → FieldWalk → List Link → Type 0
Carries bytes walk links = (mid o : Outcome) → Comes walk.inmost.contents (slice_range bytes walk.at walk.inmost.end) walk.at links mid
    → Then bytes (reverse walk.outer.items) walk.inmost.end mid o → Comes (counted 1) bytes 0 [] o

-- falls with each step: a container is opened by a byte at least
abbrev pub ahead : List ℕ → FieldWalk → ℕ
ahead bytes walk = 2 * (length bytes - walk.at) + length walk.outer.items

-- a step keeps the bounds, goes on, and carries the links that it meets
pub record StepsOn (bytes : List ℕ) (old new : FieldWalk) (met : List Link) : Type 0 where
  pub bounds : InBounds bytes new
  pub smaller : ahead bytes new < ahead bytes old
  pub carries : (links : List Link) → Carries bytes old links → Carries bytes new (links ++ met)

abbrev pub Advances : List ℕ → FieldWalk → FieldWalk → Result Step NoMemory → Type 0
Advances bytes old new (Ok Moved) = StepsOn bytes old new []
Advances bytes old new (Ok (Met link)) = StepsOn bytes old new (link ∷ [])
Advances bytes old new (Ok Complete) = (links : List Link) → Carries bytes old links → Comes (counted 1) bytes 0 [] (Cut links)
Advances bytes old new (Ok Broken) = (links : List Link) → Carries bytes old links → Comes (counted 1) bytes 0 [] (Fault new.at)
Advances bytes old new (Err e) = Unit {0}
