-- What the marks of a collection cover.
use Rattle.std.specs.Prelude.{◌≡◌, ℕ, ◌+◌, true, false, cond, List, ◌↔◌, ◌⊎◌}
use Rattle.ddc_names.specs.declared.hash.IoHash.{IoHash}
use Rattle.cb_fields.specs.declared.links.Link.{Link}
use Rattle.ddc_model.specs.State.{State, has_blob}
use Rattle.ddc_model.specs.Closure.{links_in, LeadsTo}
use Rattle.collector.specs.Marks.{Marks, knows, is_marked, is_grey, is_safe}
use Rattle.collector.specs.Roots.{IsRootNode}

-- each root that is there is safe, and so is each attachment that is there of an object that is marked and not grey
pub record Covers (s : State) (leased : List IoHash) (c : Marks) : Type 0 where
  pub roots : (node : Link) → IsRootNode s c.space leased c.hour node → has_blob s c.space node.hash ≡ true → is_safe c node ≡ true
  pub links : (node other : Link) → is_marked c node ≡ true → is_grey c node ≡ false → LeadsTo (links_in s c.space) node other → has_blob s c.space other.hash ≡ true → is_safe c other ≡ true

-- each blob of the namespace is known
abbrev pub AllKnown : State → Marks → Type 0
AllKnown s c = (hash : IoHash) → has_blob s c.space hash ≡ true → knows c hash ≡ true

-- what starts a collection: the blobs that are there are known, the roots that are there are grey and nothing else is,
-- and nothing is marked
pub record IsBegun (s : State) (space : List ℕ) (leased : List IoHash) (hour : ℕ) (c : Marks) : Type 0 where
  pub its_space : c.space ≡ space
  pub its_hour : c.hour ≡ hour
  pub known : (hash : IoHash) → knows c hash ≡ has_blob s space hash
  pub marked : (node : Link) → is_marked c node ≡ false
  pub grey : (node : Link) → (is_grey c node ≡ true) ↔ (IsRootNode s space leased hour node × (has_blob s space node.hash ≡ true))
  pub ended : c.ended ≡ false

-- what shading a node changes: it is grey and its blob is known, for which room was used where it wasn't
pub record IsShaded (old : Marks) (node : Link) (new : Marks) : Type 0 where
  pub space : new.space ≡ old.space
  pub hour : new.hour ≡ old.hour
  pub known : (hash : IoHash) → (knows new hash ≡ true) ↔ ((knows old hash ≡ true) ⊎ (hash ≡ node.hash))
  pub marked : (other : Link) → is_marked new other ≡ is_marked old other
  pub grey : is_grey new node ≡ true
  pub others : (other : Link) → (other ≡ node → ⊥) → is_grey new other ≡ is_grey old other
  pub room : new.spare + cond (knows old node.hash) 0 1 ≡ old.spare
  pub ended : new.ended ≡ false

-- shading keeps the cover, whatever the state and the leases
abbrev pub StaysCovered : Marks → Marks → Type 0
StaysCovered old new = (s : State) (leased : List IoHash) → Covers s leased old → Covers s leased new

-- the same in this state, where each of its blobs is known
abbrev pub StaysCoveredIn : State → Marks → Marks → Type 0
StaysCoveredIn s old new = (leased : List IoHash) → Covers s leased old → Covers s leased new
