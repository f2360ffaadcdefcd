-- That each command leaves the finalised references whole, whatever the bytes are.
use Rattle.std.specs.Prelude.{◌≡◌, ℕ, Bool, true, false, List, [], ◌∷◌, Option, None, Some, IsTrue, ◌⊎◌, ◌↔◌, option_map, max, refl, ⊤}
use Rattle.std.proofs.Common.{ap, sym, ◌∙◌, subst, inl, inr}
use Rattle.std.specs.FinMap.{get, insert, remove}
use Rattle.std.specs.List.{Contains}
use Rattle.ddc_names.specs.declared.hash.IoHash.{IoHash}
use Rattle.ddc_names.specs.declared.reference.RefName.{RefName}
use Rattle.ddc_names.specs.declared.reference.RefSpot.{RefSpot}
use Rattle.ddc_names.specs.Orders.{ref_name_exact, ref_name_total}
use Rattle.cb_fields.specs.declared.links.Link.{Link}
use Rattle.ref_store.specs.declared.slot.Slot.{Slot}
use Rattle.ref_store.specs.Slots.{Slots}
use Rattle.ddc_model.specs.declared.rows.Blob.{Blob}
use Rattle.ddc_model.specs.declared.rows.BlobName.{BlobName}
use Rattle.ddc_model.specs.declared.entry.Stored.{Stored}
use Rattle.ddc_model.specs.declared.entry.Entry.{Entry}
use Rattle.ddc_model.specs.declared.entry.Entry.TheVariants.{Space, Upload, Repin, Put, Finalise, Delete, Touch, Expire, Swept, Cursor, BaseHour, BaseSlot, BaseEvent}
use Rattle.ddc_model.specs.Keys.{blob_exact, blob_total}
use Rattle.ddc_model.specs.State.{State, blob_name, blob_at, done_of}
use Rattle.ddc_model.specs.Entries.{after, blob_of, name_at, noted_put, pinned, slot_after, with_blob, with_pin, with_put_root, with_slot, with_touch, without_blobs, without_slot, without_slots}
use Rattle.ddc_model.specs.Content.{content_hash}
use Rattle.ddc_model.specs.Closure.{Links, links_in, AreNeeds, IsReached, IsWhole}
use Rattle.ddc_model.specs.Sound.{AreWhole}
use Rattle.ddc_model.specs.Commands.{hour_of, stored_content, fresh_where, with_object, needs_none, put_entry}
use Rattle.ddc_model.specs.History.{Leases, no_leases, IsKept, IsLawful}
use Rattle.ddc_model.specs.Laws.{KeepsWhole, SpaceKeepsWhole, UploadKeepsWhole, PutKeepsWhole, FinaliseKeepsWhole, GetKeepsWhole, DeleteKeepsWhole, ExpireStaysWhole, SweptStaysWhole}
use Rattle.ddc_model.proofs.Maps.{get_here, get_away, get_removed, get_left, same_or_not, same_some}
use Rattle.ddc_model.proofs.Made.{made_by_space, made_by_upload, made_by_put, made_by_finalise, made_by_get, made_by_delete}
use Rattle.ddc_model.proofs.Events.{added_any, deleted_any}
use Rattle.ddc_model.proofs.Removals.{hash_away}
use Rattle.ddc_model.proofs.Once.{itself, still_whole, whole_where_same}

abbrev links_of : Option Blob → Option (List Link)
links_of found = option_map (λ (blob : Blob). blob.links) found

whole_alike : (links others : Links) (root : IoHash) → ((hash : IoHash) → others hash ≡ links hash) → IsWhole links root → IsWhole others root
whole_alike links others root same whole = subst (λ (l : Links). IsWhole l root) (λ i hash. sym (same hash) i) whole

-- ---- a blob is added

module _ (s : State) (space : List ℕ) (blob : Stored) (none : blob_at s space blob.hash ≡ None) (hour : ℕ) where
  abbrev its_name : BlobName
  its_name = blob_name space blob.hash

  abbrev added : State
  added = with_blob s space blob hour

  away : (other : List ℕ) (hash : IoHash) → (blob_name other hash ≡ its_name → ⊥) → links_in added other hash ≡ links_in s other hash
  away other hash differs = ap links_of (get_away blob_total blob_exact s.blobs its_name (blob_of blob hour) (blob_name other hash) differs)

  closure_stays : (other : List ℕ) (root : IoHash) → IsWhole (links_in s other) root → IsWhole (links_in added other) root
  closure_stays other root whole = split (same_or_not blob_total blob_exact (blob_name other blob.hash) its_name) where
    split : (blob_name other blob.hash ≡ its_name) ⊎ (blob_name other blob.hash ≡ its_name → ⊥) → IsWhole (links_in added other) root
    split (inl same) =
        still_whole (links_in s other) (links_in added other) root blob.hash (ap (λ (n : BlobName). links_of (get s.blobs n)) same ∙ ap links_of none)
        (λ hash differs. away other hash (λ e. differs (ap (λ (n : BlobName). n.hash) e))) whole
    split (inr differs) = whole_alike (links_in s other) (links_in added other) root (λ hash. away other hash (λ e. differs (ap (λ (n : BlobName). blob_name n.space blob.hash) e))) whole

  pub blob_added : AreWhole s → AreWhole added
  blob_added whole ref slot root there done = closure_stays ref.space root (whole ref slot root there done)

-- ---- a blob is pinned

module _ (s : State) (name : BlobName) (hour : ℕ) where
  abbrev later : Blob → Blob
  later blob = record blob { row = record blob.row { at = max blob.row.at hour } }

  abbrev repinned : Option Blob → State
  repinned found = record s { blobs = pinned s.blobs name hour found }

  pinned_links : (found : Option Blob) → get s.blobs name ≡ found → (space : List ℕ) (hash : IoHash) → links_in (repinned found) space hash ≡ links_in s space hash
  pinned_links None is space hash = refl
  pinned_links (Some found) is space hash = split (same_or_not blob_total blob_exact (blob_name space hash) name) where
    split : (blob_name space hash ≡ name) ⊎ (blob_name space hash ≡ name → ⊥) → links_in (repinned (Some found)) space hash ≡ links_in s space hash
    split (inl same) =
        ap (λ (n : BlobName). links_of (get (repinned (Some found)).blobs n)) same
        ∙ ap links_of (get_here blob_total blob_exact s.blobs name (later found))
        ∙ sym (ap (λ (n : BlobName). links_of (get s.blobs n)) same ∙ ap links_of is)
    split (inr differs) = ap links_of (get_away blob_total blob_exact s.blobs name (later found) (blob_name space hash) differs)

blob_pinned : (s : State) (space : List ℕ) (hash : IoHash) (hour : ℕ) → AreWhole s → AreWhole (with_pin s space hash hour)
blob_pinned s space hash hour whole ref slot root there done =
    whole_alike (links_in s ref.space) (links_in (with_pin s space hash hour) ref.space) root
    (pinned_links s (blob_name space hash) hour (get s.blobs (blob_name space hash)) refl ref.space) (whole ref slot root there done)

-- ---- a reference is set, or taken away

module _ (s : State) (whole : AreWhole s) (name : RefName) where
  slot_set : (slot : Slot) → ((root : IoHash) → slot.done ≡ Some root → IsWhole (links_in s name.space) root) → AreWhole (with_slot s name slot)
  slot_set slot new other found root there done = split (same_or_not ref_name_total ref_name_exact other name) where
    split : (other ≡ name) ⊎ (other ≡ name → ⊥) → IsWhole (links_in s other.space) root
    split (inl same) =
        let is : slot ≡ found = same_some slot found (sym (get_here ref_name_total ref_name_exact s.slots name slot) ∙ ap (get (insert s.slots name slot)) (sym same) ∙ there) in
        subst (λ (n : RefName). IsWhole (links_in s n.space) root) (sym same) (new root (ap (λ (s : Slot). s.done) is ∙ done))
    split (inr differs) = whole other found root (sym (get_away ref_name_total ref_name_exact s.slots name slot other differs) ∙ there) done

  slot_removed : AreWhole (record s { slots = remove s.slots name })
  slot_removed other found root there done = split (same_or_not ref_name_total ref_name_exact other name) where
    split : (other ≡ name) ⊎ (other ≡ name → ⊥) → IsWhole (links_in s other.space) root
    split (inl same) =
        let no : None ≡ Some found = sym (get_removed ref_name_total ref_name_exact s.slots name) ∙ ap (get (remove s.slots name)) (sym same) ∙ there in
        absurd (cc)
    split (inr differs) = whole other found root (sym (get_left ref_name_total ref_name_exact s.slots name other differs) ∙ there) done

  -- what is finalised under a reference is whole
  done_whole : (found : Option Slot) → get s.slots name ≡ found → (root : IoHash) → done_of found ≡ Some root → IsWhole (links_in s name.space) root
  done_whole (Some slot) is root done = whole name slot root is done
  done_whole None is root done = absurd (cc)

-- ---- an entry

-- the blob that is added wasn't there
abbrev IsNewIn : State → List ℕ → Option Stored → Type 0
IsNewIn s space (Some blob) = blob_at s space blob.hash ≡ None
IsNewIn s space None = ⊤

abbrev IsNew : State → Entry → Type 0
IsNew s (Upload space hour blob) = IsNewIn s space (Some blob)
IsNew s (Put name root fresh whole hour) = IsNewIn s name.space fresh
IsNew s entry = ⊤

root_stays : (s : State) → AreWhole s → (space : List ℕ) (root : IoHash) (fresh : Option Stored) (hour : ℕ) → IsNewIn s space fresh → AreWhole (with_put_root s space root fresh hour)
root_stays s whole space root None hour new = blob_pinned s space root hour whole
root_stays s whole space root (Some blob) hour new = blob_added s space blob new hour whole

same_slots : (s : State) (space : List ℕ) (root : IoHash) (fresh : Option Stored) (hour : ℕ) → (with_put_root s space root fresh hour).slots ≡ s.slots
same_slots s space root None hour = refl
same_slots s space root (Some blob) hour = refl

put_stays : (leases : Leases) (s : State) → AreWhole s → (name : RefName) (root : IoHash) (fresh : Option Stored) (now_whole : Bool) (hour : ℕ) → IsLawful leases s (Put name root fresh now_whole hour) → IsNewIn s name.space fresh
    → AreWhole (with_slot (noted_put (with_put_root s name.space root fresh hour) name root now_whole) name (slot_after (get s.slots name) root now_whole hour))
put_stays leases s whole name root fresh true hour lawful new =
    added_any (λ (t : State). AreWhole (with_slot t name (slot_after (get s.slots name) root true hour))) (with_put_root s name.space root fresh hour)
    (λ logs. slot_set (with_put_root s name.space root fresh hour) (root_stays s whole name.space root fresh hour new) name (slot_after (get s.slots name) root true hour)
    (λ other done. subst (IsWhole (links_in (with_put_root s name.space root fresh hour) name.space)) (same_some root other done) (lawful.0 refl)))
    name (done_of (get (with_put_root s name.space root fresh hour).slots name)) root
put_stays leases s whole name root fresh false hour lawful new =
    slot_set (with_put_root s name.space root fresh hour) (root_stays s whole name.space root fresh hour new) name (slot_after (get s.slots name) root false hour)
    (λ other done. done_whole (with_put_root s name.space root fresh hour) (root_stays s whole name.space root fresh hour new) name (get s.slots name)
    (ap (λ (slots : Slots). get slots name) (same_slots s name.space root fresh hour)) other done)

touch_stays : (s : State) → AreWhole s → (name : RefName) (hour : ℕ) (found : Option Slot) → get s.slots name ≡ found → AreWhole (with_touch s name hour found)
touch_stays s whole name hour None is = whole
touch_stays s whole name hour (Some slot) is = slot_set s whole name (record slot { seen = hour }) (λ root done. whole name slot root is done)

-- references that go leave the others whole
without_stays : (s : State) (space : List ℕ) (spots : List RefSpot) → AreWhole s → AreWhole (without_slots s space spots)
without_stays s space [] whole = whole
without_stays s space (spot ∷ spots) whole =
    let name = name_at space spot in
    without_stays (without_slot s name) space spots (deleted_any AreWhole (record s { slots = remove s.slots name }) (λ logs. slot_removed s whole name) name (done_of (get s.slots name)))

-- so do blobs that no reference reaches
module _ (s : State) (space : List ℕ) (hashes : List IoHash) (free : (hash : IoHash) → Contains hashes hash → ¬ IsKept s space hash) where
  reached_stays : (ref : RefName) (slot : Slot) (root : IoHash) → get s.slots ref ≡ Some slot → slot.done ≡ Some root → (node : Link) → IsReached (links_in s ref.space) root node
      → links_in (without_blobs s space hashes) ref.space node.hash ≡ links_in s ref.space node.hash
  reached_stays ref slot root there done node reached = ap links_of (hash_away space s.blobs hashes (blob_name ref.space node.hash) unnamed) where
    kept : IsKept s ref.space node.hash
    kept = record { spot = ref.spot; slot = slot; there = there; root = root; names = inl done; kind = node.kind; reached = reached }

    unnamed : ref.space ≡ space → ¬ Contains hashes node.hash
    unnamed here within = free node.hash within (subst (λ (at : List ℕ). IsKept s at node.hash) here kept)

  swept_stays : AreWhole s → AreWhole (without_blobs s space hashes)
  swept_stays whole ref slot root there done =
      whole_where_same (links_in s ref.space) (links_in (without_blobs s space hashes) ref.space) root (reached_stays ref slot root there done) (whole ref slot root there done)

pub expire_whole : ExpireStaysWhole
expire_whole s space spots hour whole = without_stays s space spots whole

pub swept_whole : SweptStaysWhole
swept_whole leases s space hashes whole lawful = swept_stays s space hashes (λ hash within. (lawful hash within).0) whole

-- a lawful entry that adds no blob that was there leaves the finalised references whole
pub stays_whole : (leases : Leases) (s : State) (entry : Entry) → AreWhole s → IsLawful leases s entry → IsNew s entry → AreWhole (after s entry)
stays_whole leases s (Space space ttl pin) whole lawful new = whole
stays_whole leases s (Upload space hour blob) whole lawful new = blob_added s space blob new hour whole
stays_whole leases s (Repin space hash hour) whole lawful new = blob_pinned s space hash hour whole
stays_whole leases s (Put name root fresh now_whole hour) whole lawful new = put_stays leases s whole name root fresh now_whole hour lawful new
stays_whole leases s (Finalise name hash hour) whole lawful new =
    added_any (λ (t : State). AreWhole (with_slot t name (record { done = Some hash; pending = None; seen = hour }))) s
    (λ logs. slot_set s whole name (record { done = Some hash; pending = None; seen = hour }) (λ other done. subst (IsWhole (links_in s name.space)) (same_some hash other done) lawful))
    name (done_of (get s.slots name)) hash
stays_whole leases s (Delete name hour) whole lawful new = deleted_any AreWhole (record s { slots = remove s.slots name }) (λ logs. slot_removed s whole name) name (done_of (get s.slots name))
stays_whole leases s (Touch name hour) whole lawful new = touch_stays s whole name hour (get s.slots name) refl
stays_whole leases s (Expire space spots hour) whole lawful new = without_stays s space spots whole
stays_whole leases s (Swept space hashes) whole lawful new = swept_whole leases s space hashes whole lawful
stays_whole leases s (Cursor space cursor) whole lawful new = whole
stays_whole leases s (BaseHour hour) whole lawful new = absurd lawful
stays_whole leases s (BaseSlot name finalised pending seen) whole lawful new = absurd lawful
stays_whole leases s (BaseEvent name number op) whole lawful new = absurd lawful

keeps : (s : State) (entry : Entry) → AreWhole s → ((leases : Leases) → IsLawful leases s entry) → IsNew s entry → KeepsWhole s (Some entry)
keeps s entry whole lawful new = (lawful, stays_whole no_leases s entry whole (lawful no_leases) new)

-- ---- the commands

-- nothing is needed exactly where the closure is whole
whole_or_needs : (links : Links) (root : IoHash) (needs : List IoHash) → AreNeeds links root needs → (needs_none needs ≡ true) ↔ IsWhole links root
whole_or_needs links root [] are = (λ e. needless, λ w. refl) where
  not_true : IsTrue false → ⊥
  not_true e = cc

  needless : IsWhole links root
  needless hash missing = not_true ((are.exactly hash).1 missing)
whole_or_needs links root (x ∷ xs) are = (λ e. absurd (cc), λ whole. absurd (whole x ((are.exactly x).0 (itself x xs))))

pub space_whole : SpaceKeepsWhole
space_whole s space ttl pin answer made whole gives = made_by_space (KeepsWhole s) tt s space ttl pin (λ leases. tt, whole) answer made gives

pub upload_whole : UploadKeepsWhole
upload_whole s space content hour answer made whole gives =
    made_by_upload (KeepsWhole s) tt s space content hour
    (λ known room none. keeps s (Upload space (hour_of s hour) (stored_content s content)) whole (λ leases. tt) none)
    (λ known blob is. keeps s (Repin space (content_hash content.bytes) (hour_of s hour)) whole (λ leases. tt) tt) answer made gives

pub put_whole : PutKeepsWhole
put_whole s name content hour answer made whole gives =
    made_by_put (KeepsWhole s) tt s name content hour
    (λ known room needs are. keeps s (put_entry s name content needs hour) whole (λ leases. whole_or_needs (links_in (with_object s name content hour) name.space) (content_hash content.bytes) needs are)
    (is_new (blob_at s name.space (content_hash content.bytes)) refl)) answer made gives where
      is_new : (found : Option Blob) → blob_at s name.space (content_hash content.bytes) ≡ found → IsNewIn s name.space (fresh_where s found content)
      is_new None is = is
      is_new (Some blob) is = tt

pub finalise_whole : FinaliseKeepsWhole
finalise_whole s name hash hour answer made whole gives =
    made_by_finalise (KeepsWhole s) tt s name hash hour
    (λ known are. keeps s (Finalise name hash (hour_of s hour)) whole (λ leases. (whole_or_needs (links_in s name.space) hash [] are).0 refl) tt) answer made gives

pub get_whole : GetKeepsWhole
get_whole cache name hour answer made whole gives =
    made_by_get (KeepsWhole cache.index) tt cache name hour (λ hash known. keeps cache.index (Touch name (hour_of cache.index hour)) whole (λ leases. tt) tt) answer made gives

pub delete_whole : DeleteKeepsWhole
delete_whole s name hour answer made whole gives =
    made_by_delete (KeepsWhole s) tt s name hour (λ known there. keeps s (Delete name (hour_of s hour)) whole (λ leases. tt) tt) answer made gives
