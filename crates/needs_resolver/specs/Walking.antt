-- What a walk over a closure keeps. `base` has the links of each stored blob, and `links` those that the walk goes by.
use Rattle.std.specs.Prelude.{◌≡◌, ℕ, ◌+◌, ◌<◌, Bool, true, false, not, cond, List, [], ◌∷◌, None, Some, is_some, ◌⊎◌, length, slice_index_or}
use Rattle.std.specs.List.{Contains}
use Rattle.std.specs.FinMap.{entries}
use Rattle.std.specs.BTreeSet.{contains}
use Rattle.std.specs.BTreeMap.{is_at}
use Rattle.std.specs.declared.cmp.Ordering.{Ordering}
use Rattle.std.specs.declared.cmp.Ordering.TheVariants.{Less, Equal, Greater}
use Rattle.ddc_names.specs.Orders.{io_hash_cmp, name_cmp}
use Rattle.ddc_names.specs.declared.hash.IoHash.{IoHash}
use Rattle.cb_fields.specs.declared.links.Link.{Link}
use Rattle.cb_fields.specs.declared.links.LinkKind.TheVariants.{Binary}
use Rattle.ddc_model.specs.declared.rows.Blob.{Blob}
use Rattle.ddc_model.specs.declared.rows.BlobName.{BlobName}
use Rattle.ddc_model.specs.State.{State}
use Rattle.needs_resolver.specs.declared.closure_walk.ClosureWalk.{ClosureWalk}
use Rattle.ddc_model.specs.Closure.{Links, object, IsReached, IsMissing}

-- the objects that were met, the absent hashes that were met, and the objects whose links are still to be read
pub record Met : Type 0 where
  pub seen : IoHash → Bool
  pub absent : IoHash → Bool
  pub work : List IoHash

-- what a walk has met
abbrev pub met_of : ClosureWalk → Met
met_of walk = record { seen = contains io_hash_cmp walk.seen; absent = contains io_hash_cmp walk.absent; work = walk.work.items }

-- the hash stands in the list
abbrev pub InWork : List IoHash → IoHash → Type 0
InWork [] h = ⊥
InWork (x ∷ xs) h = (x ≡ h) ⊎ InWork xs h

-- the node is in the closure of a root
abbrev pub IsReachedFrom : Links → (IoHash → Bool) → Link → Type 0
IsReachedFrom links roots node = (root : IoHash) × (roots root ≡ true) × IsReached links root node

-- the hash is missing of a root's closure
abbrev pub IsMissingFrom : Links → (IoHash → Bool) → IoHash → Type 0
IsMissingFrom links roots hash = (root : IoHash) × (roots root ≡ true) × IsMissing links root hash

-- the walk has met the node: its hash is absent, or an object that was met, or a blob that is no object and is stored
abbrev pub IsCovered : Links → (IoHash → Bool) → (IoHash → Bool) → Link → Type 0
IsCovered base seen absent node = (absent node.hash ≡ true) ⊎ ((seen node.hash ≡ true) ⊎ ((node.kind ≡ Binary) × (is_some (base node.hash) ≡ true)))

-- all links of an object are covered
abbrev pub AreLinksCovered : Links → Links → (IoHash → Bool) → (IoHash → Bool) → IoHash → Type 0
AreLinksCovered base links seen absent h = (found : List Link) → links h ≡ Some found → (node : Link) → Contains found node → IsCovered base seen absent node

-- the links that are walked are the stored ones, but of objects that were met
pub record IsKnown (base links : Links) (seen : IoHash → Bool) (work : List IoHash) : Type 0 where
  pub present : (h : IoHash) → seen h ≡ true → is_some (links h) ≡ true
  pub others : (h : IoHash) → seen h ≡ false → links h ≡ base h
  pub unread : (h : IoHash) → InWork work h → links h ≡ base h

-- all that was met is in the closures of the roots, and each object that was met is in the list or is read
pub record IsWalk (base links : Links) (roots : IoHash → Bool) (seen absent : IoHash → Bool) (ahead : List IoHash) : Type 0 where
  pub seen_reached : (h : IoHash) → seen h ≡ true → IsReachedFrom links roots (object h)
  pub absent_missing : (h : IoHash) → absent h ≡ true → IsMissingFrom links roots h
  pub ahead_seen : (h : IoHash) → InWork ahead h → seen h ≡ true
  pub read : (h : IoHash) → seen h ≡ true → InWork ahead h ⊎ AreLinksCovered base links seen absent h

-- what meeting one node changes
pub record IsMet (base : Links) (node : Link) (old new : Met) : Type 0 where
  pub covered : IsCovered base new.seen new.absent node
  pub seen_kept : (h : IoHash) → old.seen h ≡ true → new.seen h ≡ true
  pub absent_kept : (h : IoHash) → old.absent h ≡ true → new.absent h ≡ true
  pub seen_new : (h : IoHash) → new.seen h ≡ true → (old.seen h ≡ true) ⊎ ((object h ≡ node) × InWork new.work h × (is_some (base h) ≡ true))
  pub absent_new : (h : IoHash) → new.absent h ≡ true → (old.absent h ≡ true) ⊎ ((h ≡ node.hash) × (old.seen h ≡ false) × (base h ≡ None))
  pub work_kept : (h : IoHash) → InWork old.work h → InWork new.work h
  pub work_new : (h : IoHash) → InWork new.work h → InWork old.work h ⊎ ((new.seen h ≡ true) × (old.seen h ≡ false))

-- what meeting the first nodes of a list changes
pub record AreMet (base : Links) (found : List Link) (count : ℕ) (old new : Met) : Type 0 where
  pub known : (links : Links) → IsKnown base links old.seen old.work → IsKnown base links new.seen new.work
  pub kept : (links : Links) (roots : IoHash → Bool) (held : IoHash) → IsKnown base links old.seen old.work → ((node : Link) → Contains found node → IsReachedFrom links roots node) → IsWalk base links roots old.seen old.absent (held ∷ old.work) → IsWalk base links roots new.seen new.absent (held ∷ new.work)
  pub covered : (k : ℕ) (d : Link) → k < count → IsCovered base new.seen new.absent (slice_index_or found k d)
  pub still : (node : Link) → IsCovered base old.seen old.absent node → IsCovered base new.seen new.absent node

-- what reading the links of an object changes
pub record IsObjectRead (base : Links) (held : IoHash) (old new : Met) : Type 0 where
  pub known : (links : Links) → IsKnown base links old.seen old.work → IsKnown base links new.seen new.work
  pub kept : (links : Links) (roots : IoHash → Bool) → IsKnown base links old.seen old.work → links held ≡ base held → IsWalk base links roots old.seen old.absent (held ∷ old.work) → IsWalk base links roots new.seen new.absent new.work
  pub still : (node : Link) → IsCovered base old.seen old.absent node → IsCovered base new.seen new.absent node

-- what reading objects, and those that are met by that, changes
pub record AreRead (base : Links) (old new : Met) : Type 0 where
  pub known : (links : Links) → IsKnown base links old.seen old.work → IsKnown base links new.seen new.work
  pub kept : (links : Links) (roots : IoHash → Bool) → IsKnown base links old.seen old.work → IsWalk base links roots old.seen old.absent old.work → IsWalk base links roots new.seen new.absent new.work
  pub still : (node : Link) → IsCovered base old.seen old.absent node → IsCovered base new.seen new.absent node

-- all that was met is there, and the links of each object are covered: the walk can go on from another root
pub record IsIdle (base : Links) (met : Met) : Type 0 where
  pub none_ahead : met.work ≡ []
  pub none_absent : (h : IoHash) → met.absent h ≡ false
  pub present : (h : IoHash) → met.seen h ≡ true → is_some (base h) ≡ true
  pub read : (h : IoHash) → met.seen h ≡ true → AreLinksCovered base base met.seen met.absent h

-- the roots of a walk that goes on: what it has met, and one root more
abbrev pub or_root : (IoHash → Bool) → IoHash → IoHash → Bool
or_root seen root h = cond (is_at (io_hash_cmp root) h) true (seen h)

-- one for a blob that can still be met: it stands in this namespace and isn't met, or in a namespace after it
abbrev pub one_unmet : Ordering → Bool → ℕ
one_unmet Less met = 1
one_unmet Equal met = cond (not met) 1 0
one_unmet Greater met = 0

-- how many blobs of a namespace have a hash that isn't met, and how many blobs the namespaces after it have
abbrev pub unmet : List ℕ → (IoHash → Bool) → List (BlobName × Blob) → ℕ
unmet space seen [] = 0
unmet space seen (e ∷ es) = one_unmet (name_cmp space e.0.space) (seen e.0.hash) + unmet space seen es

-- how many objects can still be read, by a walk of this namespace and those of the namespaces after it
abbrev pub most_reads : State → List ℕ → Met → ℕ
most_reads state space met = unmet space met.seen (entries state.blobs) + length met.work
