-- That a sound cache serves what its references reach.
use Rattle.std.specs.Prelude.{◌≡◌, ℕ, Bool, true, false, List, Option, None, Some, is_some, IsSome, IfSome, Result, Ok, Err, if◌then◌else◌, option_map, refl}
use Rattle.std.proofs.Common.{ap, sym, ◌∙◌, subst}
use Rattle.std.specs.FinMap.{FinMap, get}
use Rattle.ddc_names.specs.declared.hash.IoHash.{IoHash}
use Rattle.cb_fields.specs.declared.links.LinkKind.{LinkKind}
use Rattle.ref_store.specs.declared.slot.Slot.{Slot}
use Rattle.ddc_model.specs.declared.rows.Blob.{Blob}
use Rattle.ddc_model.specs.declared.fault.StoreFault.{StoreFault}
use Rattle.ddc_model.specs.declared.fault.StoreFault.TheVariants.{Damaged}
use Rattle.ddc_model.specs.Keys.{blob_cmp}
use Rattle.ddc_model.specs.State.{State, blob_name, blob_at, has_space, done_of}
use Rattle.ddc_model.specs.Entries.{same_hash}
use Rattle.ddc_model.specs.Content.{content_hash}
use Rattle.ddc_model.specs.Closure.{links_in, IsReached, IsMissing}
use Rattle.ddc_model.specs.Sound.{Cache, IsSound}
use Rattle.ddc_model.specs.Commands.{MayRead}
use Rattle.ddc_model.specs.Reads.{undamaged, ServesFound, ServesWhere}
use Rattle.ddc_model.specs.Laws.{SoundServes}
use Rattle.ddc_model.proofs.Maps.{same_some}
use Rattle.ddc_model.proofs.Legal.{is_this}

module _ (cache : Cache) (sound : IsSound cache) (space : List ℕ) (hash : IoHash) where
  -- what may be read of a blob of a sound cache has its hash
  pub read_is_right : (bytes : List ℕ) → MayRead cache space hash bytes → content_hash bytes ≡ hash
  read_is_right bytes read =
      let has = sound.blobs (blob_name space hash) read.blob read.there in
      let told : IfSome (Some sound.all) (λ (all : FinMap blob_cmp (List ℕ)). get all (blob_name space hash) ≡ Some bytes) =
      subst (λ (o : Option (FinMap blob_cmp (List ℕ))). IfSome o (λ all. get all (blob_name space hash) ≡ Some bytes)) sound.told read.told in
      let same : has.0 ≡ bytes = same_some has.0 bytes (sym has.1 ∙ told) in
      sym (has.2.hash ∙ ap content_hash same)

  -- it is served
  pub is_served : (bytes : List ℕ) → MayRead cache space hash bytes → undamaged hash bytes ≡ Ok bytes
  is_served bytes read =
      let right = read_is_right bytes read in
      let passes : same_hash (content_hash bytes) hash ≡ true = subst (λ (h : IoHash). same_hash h hash ≡ true) (sym right) (is_this hash) in
      ap (λ (t : Bool). if t then Ok bytes else Err (Damaged hash (content_hash bytes))) passes

  found_serves : (found : Option Blob) → IsSome found → (answer : Result (List ℕ) StoreFault) → ServesFound found cache space hash answer → (bytes : List ℕ) × (answer ≡ Ok bytes) × (content_hash bytes ≡ hash)
  found_serves None is answer serves = absurd (cc)
  found_serves (Some blob) is answer (bytes, read, given) = (bytes, given ∙ is_served bytes read, read_is_right bytes read)

  where_serves : (there : Bool) → there ≡ true → IsSome (blob_at cache.index space hash) → (answer : Result (List ℕ) StoreFault) → ServesWhere there cache space hash answer → (bytes : List ℕ) × (answer ≡ Ok bytes) × (content_hash bytes ≡ hash)
  where_serves true e is answer serves = found_serves (blob_at cache.index space hash) is answer serves
  where_serves false e is answer serves = absurd (cc)

-- what a finalised reference reaches is there
there : (s : State) (space : List ℕ) (root hash : IoHash) (kind : LinkKind) → ((h : IoHash) → IsMissing (links_in s space) root h → ⊥) → IsReached (links_in s space) root (record { kind = kind; hash = hash }) → IsSome (blob_at s space hash)
there s space root hash kind whole reached = split (blob_at s space hash) refl where
  split : (found : Option Blob) → blob_at s space hash ≡ found → IsSome (blob_at s space hash)
  split (Some blob) is = ap is_some is
  split None is = absurd (whole hash (ap (option_map (λ (b : Blob). b.links)) is, kind, reached))

slot_done : (found : Option Slot) (root : IoHash) → done_of found ≡ Some root → (slot : Slot) × (found ≡ Some slot) × (slot.done ≡ Some root)
slot_done (Some slot) root is = (slot, refl, is)
slot_done None root is = absurd (cc)

pub sound_serves : SoundServes
sound_serves cache name root hash kind answer sound known done reached serves =
    let slot = slot_done (get cache.index.slots name) root done in
    where_serves cache sound name.space hash (has_space cache.index name.space) known
    (there cache.index name.space root hash kind (sound.whole name slot.0 root slot.1 slot.2) reached) answer serves
