-- What the private steps of a collection change.
use Rattle.std.specs.Prelude.{◌≡◌, ℕ, ◌+◌, ◌<◌, Bool, true, false, ◌||◌, cond, List, Option, None, Some, ◌↔◌, ◌⊎◌, slice_index_or}
use Rattle.ddc_names.specs.declared.hash.IoHash.{IoHash}
use Rattle.cb_fields.specs.declared.links.Link.{Link}
use Rattle.cb_fields.specs.declared.links.LinkKind.{LinkKind}
use Rattle.ddc_model.specs.Closure.{Links}
use Rattle.collector.specs.Marks.{Marks, mark_at, marks_of, mark_of, knows, is_marked, is_grey, is_safe, NoneGrey}
use Rattle.collector.specs.Turns.{KnowsTheSame, IsTaken}

-- a blob is known, for which room was used where it wasn't, and no mark changes
pub record IsEntered (old : Marks) (hash : IoHash) (new : Marks) : Type 0 where
  pub space : new.space ≡ old.space
  pub hour : new.hour ≡ old.hour
  pub known : (other : IoHash) → (knows new other ≡ true) ↔ ((knows old other ≡ true) ⊎ (other ≡ hash))
  pub marks : (node : Link) → mark_of new node ≡ mark_of old node
  pub room : new.spare + cond (knows old hash) 0 1 ≡ old.spare
  pub ended : new.ended ≡ old.ended

-- a node that is known is grey, and nothing else changes
pub record IsGreyed (old : Marks) (node : Link) (new : Marks) : Type 0 where
  pub space : new.space ≡ old.space
  pub hour : new.hour ≡ old.hour
  pub hashes : new.hashes ≡ old.hashes
  pub spare : new.spare ≡ old.spare
  pub marked : (other : Link) → is_marked new other ≡ is_marked old other
  pub grey : is_grey new node ≡ true
  pub others : (other : Link) → (other ≡ node → ⊥) → is_grey new other ≡ is_grey old other
  pub ended : new.ended ≡ false

-- the same where the blob is known, and nothing where it isn't
abbrev pub IsGreyedIf : Bool → Marks → Link → Marks → Type 0
IsGreyedIf true old node new = IsGreyed old node new
IsGreyedIf false old node new = new ≡ old

-- whether the node of a number, or the object of that number, is marked or grey
abbrev pub is_safe_by : Marks → LinkKind → ℕ → Bool
is_safe_by c kind number = let own = mark_at (marks_of c kind) (Some number) in let obj = mark_at c.objects (Some number) in (own.marked || own.grey) || (obj.marked || obj.grey)

-- a grey node is marked and no longer grey, and nothing else changes
pub record IsPicked (old : Marks) (node : Link) (new : Marks) : Type 0 where
  pub same : KnowsTheSame old new
  pub was_grey : is_grey old node ≡ true
  pub marked_now : is_marked new node ≡ true
  pub grey_no_more : is_grey new node ≡ false
  pub marked : (other : Link) → (other ≡ node → ⊥) → is_marked new other ≡ is_marked old other
  pub grey : (other : Link) → (other ≡ node → ⊥) → is_grey new other ≡ is_grey old other
  pub going : new.ended ≡ false

-- the same where a node of this kind was grey, and nothing where none was
abbrev pub PicksOf : LinkKind → Marks → Option Link → Marks → Type 0
PicksOf kind old (Some node) new = IsPicked old node new
PicksOf kind old None new = ((hash : IoHash) → let node : Link = record { kind = kind; hash = hash } in is_grey old node ≡ false) × (new ≡ old)

-- the same of both kinds
abbrev pub PicksNode : Marks → Option Link → Marks → Type 0
PicksNode old (Some node) new = IsPicked old node new
PicksNode old None new = NoneGrey old × (new ≡ old)

-- of some nodes those that weren't safe became grey, and nothing else changes
pub record AreMetBy (some : Link → Type 0) (old new : Marks) : Type 0 where
  pub space : new.space ≡ old.space
  pub hour : new.hour ≡ old.hour
  pub hashes : new.hashes ≡ old.hashes
  pub spare : new.spare ≡ old.spare
  pub ended : old.ended ≡ false → new.ended ≡ false
  pub marked : (other : Link) → is_marked new other ≡ is_marked old other
  pub grey_still : (other : Link) → is_grey old other ≡ true → is_grey new other ≡ true
  pub grey_new : (other : Link) → is_grey new other ≡ true → (is_grey old other ≡ true) ⊎ (some other × (is_safe old other ≡ false))

-- the first so many links of a list that are known are safe
abbrev pub AreSafeTo : ℕ → List Link → Marks → Type 0
AreSafeTo count links c = (k : ℕ) (d : Link) → k < count → let link : Link = slice_index_or links k d in knows c link.hash ≡ true → is_safe c link ≡ true

-- a grey node is taken, or none is grey and nothing changes
abbrev pub TakesOne : Links → Marks → Bool → Marks → Type 0
TakesOne links old true new = (node : Link) × IsTaken links old node new
TakesOne links old false new = NoneGrey old × (new ≡ old)

-- some more nodes are grey, all of which are known and pass, and nothing else changes
pub record GreyMore (some : Link → Type 0) (old new : Marks) : Type 0 where
  pub space : new.space ≡ old.space
  pub hour : new.hour ≡ old.hour
  pub hashes : new.hashes ≡ old.hashes
  pub ended : old.ended ≡ false → new.ended ≡ false
  pub marked : (other : Link) → is_marked new other ≡ is_marked old other
  pub grey_still : (other : Link) → is_grey old other ≡ true → is_grey new other ≡ true
  pub grey_new : (other : Link) → is_grey new other ≡ true → (is_grey old other ≡ true) ⊎ (some other × (knows old other.hash ≡ true))
