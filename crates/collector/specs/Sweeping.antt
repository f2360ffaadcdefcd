-- What a sweep may remove.
use Rattle.std.specs.Prelude.{◌≡◌, ℕ, ◌≤◌, Bool, true, false, ◌&&◌, not, List, length, nat_eq, ◌⊎◌}
use Rattle.std.specs.List.{Contains}
use Rattle.std.specs.List.Sorted.{IsStrictlySortedBy}
use Rattle.std.specs.declared.cmp.Ordering.TheVariants.{Less}
use Rattle.ddc_names.specs.declared.hash.IoHash.{IoHash}
use Rattle.ddc_names.specs.Orders.{io_hash_cmp}
use Rattle.cb_fields.specs.declared.links.Link.{Link}
use Rattle.cb_fields.specs.declared.links.LinkKind.{LinkKind}
use Rattle.cb_fields.specs.declared.links.LinkKind.TheVariants.{Binary}
use Rattle.ddc_model.specs.State.{State, has_blob}
use Rattle.ddc_model.specs.Closure.{links_in, LeadsToIn}
use Rattle.collector.specs.declared.phase.Phase.{Phase}
use Rattle.collector.specs.declared.phase.Phase.TheVariants.{Marking, Sweeping, Done}
use Rattle.collector.specs.Marks.{Marks, is_grey, is_safe, NoneGrey}
use Rattle.collector.specs.Roots.{IsRootNode}
use Rattle.collector.specs.Cover.{Covers}

-- where a collection stands: a node is grey; or none is; or, after an empty sweep list, nothing was shaded
abbrev pub IsPhase : Marks → Phase → Type 0
IsPhase c Marking = (node : Link) × (is_grey c node ≡ true)
IsPhase c Sweeping = NoneGrey c × (c.ended ≡ false)
IsPhase c Done = NoneGrey c × (c.ended ≡ true)

-- whether a blob is there and neither of its nodes is marked or grey
abbrev pub is_loose : State → Marks → IoHash → Bool
is_loose s c hash = has_blob s c.space hash && not (is_safe c (record { kind = Binary; hash = hash }))

-- the first so many hashes that pass a test, or all where they are fewer
pub record AreFirst (passes : IoHash → Bool) (limit : ℕ) (hashes : List IoHash) : Type 0 where
  pub ascending : IsStrictlySortedBy io_hash_cmp hashes
  pub at_most : length hashes ≤ limit
  pub each : (hash : IoHash) → Contains hashes hash → passes hash ≡ true
  pub no_more : (hash : IoHash) → passes hash ≡ true → Contains hashes hash ⊎ ((length hashes ≡ limit) × ((other : IoHash) → Contains hashes other → io_hash_cmp other hash ≡ Less))

-- so many steps lead from a node that is a root, or that was safe, to this one
abbrev pub IsReachedByRoot : State → List IoHash → Marks → Link → Type 0
IsReachedByRoot s leased c node =
    (root : Link) × (IsRootNode s c.space leased c.hour root ⊎ (is_safe c root ≡ true)) × (steps : ℕ) × LeadsToIn (links_in s c.space) root node steps

-- where the marks cover the state and nothing is grey, no loose blob is reached, neither as an object nor as a binary
abbrev pub LooseIsUnreached : Type 0
LooseIsUnreached = (s : State) (leased : List IoHash) (c : Marks) → Covers s leased c → NoneGrey c
    → (hash : IoHash) → is_loose s c hash ≡ true → (kind : LinkKind) → IsReachedByRoot s leased c (record { kind = kind; hash = hash }) → ⊥

-- none of these hashes is reached, whatever leases the marks cover
abbrev pub AreUnreached : State → Marks → List IoHash → Type 0
AreUnreached s c hashes = (leased : List IoHash) → Covers s leased c → (hash : IoHash) → Contains hashes hash → (kind : LinkKind) → IsReachedByRoot s leased c (record { kind = kind; hash = hash }) → ⊥

-- whether a list has no hash
abbrev pub is_none : List IoHash → Bool
is_none hashes = nat_eq (length hashes) 0
