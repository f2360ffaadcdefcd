-- What a marking turn does.
use Rattle.std.specs.Prelude.{◌≡◌, ℕ, zero, suc, true, false, ◌⊎◌}
use Rattle.cb_fields.specs.declared.links.Link.{Link}
use Rattle.ddc_model.specs.Closure.{Links, LeadsTo}
use Rattle.collector.specs.Marks.{Marks, knows, is_marked, is_grey, is_safe}

-- nothing changes but marks and what is grey
pub record KnowsTheSame (old new : Marks) : Type 0 where
  pub space : new.space ≡ old.space
  pub hour : new.hour ≡ old.hour
  pub hashes : new.hashes ≡ old.hashes
  pub spare : new.spare ≡ old.spare
  pub ended : new.ended ≡ old.ended

-- what taking a grey node does: it is marked and no longer grey, and of its attachments those that are known and
-- weren't safe become grey
pub record IsTaken (links : Links) (old : Marks) (node : Link) (new : Marks) : Type 0 where
  pub same : KnowsTheSame old new
  pub was_grey : is_grey old node ≡ true
  pub marked_now : is_marked new node ≡ true
  pub marked : (other : Link) → (other ≡ node → ⊥) → is_marked new other ≡ is_marked old other
  pub grey_no_more : is_grey new node ≡ false
  pub grey_still : (other : Link) → (other ≡ node → ⊥) → is_grey old other ≡ true → is_grey new other ≡ true
  pub grey_new : (other : Link) → is_grey new other ≡ true → (is_grey old other ≡ true) ⊎ (LeadsTo links node other × (is_safe old other ≡ false))
  pub met : (other : Link) → LeadsTo links node other → knows old other.hash ≡ true → is_safe new other ≡ true

-- so many nodes are taken one after another
abbrev pub AreTaken : Links → Marks → ℕ → Marks → Type 0
AreTaken links old zero new = old ≡ new
AreTaken links old (suc count) new = (between : Marks) × (node : Link) × AreTaken links old count between × IsTaken links between node new
