-- What reading a blob, or the object of a reference, gives.
use Rattle.std.specs.Prelude.{◌≡◌, ℕ, Bool, true, false, List, [], Option, None, Some, IfOk, Result, Ok, Err, if◌then◌else◌, option_map, refl}
use Rattle.std.proofs.Common.{ap, sym, ◌∙◌, subst, inl, inr}
use Rattle.std.specs.FinMap.{get}
use Rattle.ddc_names.specs.declared.hash.IoHash.{IoHash}
use Rattle.ddc_names.specs.declared.reference.RefName.{RefName}
use Rattle.ref_store.specs.declared.slot.Slot.{Slot}
use Rattle.cb_fields.specs.declared.links.LinkKind.TheVariants.{Object}
use Rattle.ddc_disk.specs.Disk.{Meaning}
use Rattle.ddc_model.specs.declared.rows.Blob.{Blob}
use Rattle.ddc_model.specs.declared.entry.Entry.{Entry}
use Rattle.ddc_model.specs.declared.fault.StoreFault.{StoreFault}
use Rattle.ddc_model.specs.declared.fault.StoreFault.TheVariants.{Broken, UnknownSpace, NotFound, NotFinalised, NotPending, Full, HistoryFull, NoMemory, DiskFailed, Damaged}
use Rattle.ddc_model.specs.State.{blob_at, has_space}
use Rattle.ddc_model.specs.Entries.{same_hash}
use Rattle.ddc_model.specs.Content.{content_hash}
use Rattle.ddc_model.specs.Closure.{links_in, IsMissing, IsWhole}
use Rattle.ddc_model.specs.Sound.{Cache, AreWhole}
use Rattle.ddc_model.specs.Commands.{done_hash, done_at, object_of, touch_entry, MayRead, GetWhere, GetAs}
use Rattle.ddc_model.specs.History.{broken_by, no_room, no_room_for, Past}
use Rattle.ddc_model.specs.Reads.{undamaged, where_room, ServesFound, ServesWhere, ServesAs, ServedWhere, HeldAs}
use Rattle.ddc_model.proofs.Maps.{same_some}
use Rattle.ddc_book.specs.View.{BookView}
use Rattle.ddc_book.specs.Calls.{Stays, Becomes, CommandMakes, ReaderGives, Only}
use Rattle.ddc_book.specs.inside.Making.{touch_with_room}

-- ---- a blob

module _ (cache : Cache) (space : List ℕ) (hash : IoHash) where
  pub serves_unknown : has_space cache.index space ≡ false → ServesAs cache space hash (Err UnknownSpace)
  serves_unknown unknown = subst (λ (there : Bool). ServesWhere there cache space hash (Err UnknownSpace)) (sym unknown) refl

  pub serves_none : has_space cache.index space ≡ true → blob_at cache.index space hash ≡ None → ServesAs cache space hash (Err NotFound)
  serves_none known none =
      subst (λ (there : Bool). ServesWhere there cache space hash (Err NotFound)) (sym known)
      (subst (λ (found : Option Blob). ServesFound found cache space hash (Err NotFound)) (sym none) refl)

  pub serves_read : has_space cache.index space ≡ true → (bytes : List ℕ) → MayRead cache space hash bytes → ServesAs cache space hash (undamaged hash bytes)
  serves_read known bytes may =
      subst (λ (there : Bool). ServesWhere there cache space hash (undamaged hash bytes)) (sym known)
      (subst (λ (found : Option Blob). ServesFound found cache space hash (undamaged hash bytes)) (sym may.there) (bytes, may, refl))

-- what read bytes are answered with is no failure of the disks
pub not_read : {P : Type 0} (hash : IoHash) (bytes : List ℕ) (answer : Result (List ℕ) StoreFault) → answer ≡ undamaged hash bytes → answer ≡ Err DiskFailed → P
not_read {P} hash bytes answer is failed = by_test (same_hash (content_hash bytes) hash) (sym is ∙ failed) where
  by_test : (same : Bool) → (if same then Ok bytes else Err (Damaged hash (content_hash bytes))) ≡ Err DiskFailed → P
  by_test true e = cc
  by_test false e = cc

pub if_ok : {A P : Type 0} (answer : Result A StoreFault) → P → IfOk answer (λ _. P)
if_ok (Ok value) p = p
if_ok (Err fault) p = tt

module _ {D : Type 0} (meaning : D → Meaning) (old new : BookView D) where
  -- bytes were read of a blob
  pub gives_read : (P : Result (List ℕ) StoreFault → Type 0) → broken_by old.steps ≡ None → Stays meaning old new → (hash : IoHash) (bytes : List ℕ) (answer : Result (List ℕ) StoreFault) → answer ≡ undamaged hash bytes → P (undamaged hash bytes)
      → ReaderGives meaning old new (Only P) answer
  gives_read P unbroken stays hash bytes answer is h = subst (λ (a : Result (List ℕ) StoreFault). ReaderGives meaning old new (Only P) a) (sym is) (by_test (same_hash (content_hash bytes) hash) h) where
    by_test : (same : Bool) → P (if same then Ok bytes else Err (Damaged hash (content_hash bytes))) → ReaderGives meaning old new (Only P) (if same then Ok bytes else Err (Damaged hash (content_hash bytes)))
    by_test true k = (unbroken, None, (k, refl), stays)
    by_test false k = (unbroken, None, (k, refl), stays)

  module _ {A B : Type 0} (P : Result A StoreFault → Type 0) (Answers : Result B StoreFault → Option Entry → Type 0) (errs : (fault : StoreFault) → P (Err fault) → Answers (Err fault) None) where
    err_makes : (fault : StoreFault) → CommandMakes meaning old [] new (Only P) (Err fault) → CommandMakes meaning old [] new Answers (Err fault)
    err_makes fault m = (m.0, None, errs fault m.2.0, subst (λ (o : Option Entry). Becomes meaning old [] new o) m.2.1 m.3)

    -- a read that was no use is no use to the command that needs it
    pub err_gives : (fault : StoreFault) → ReaderGives meaning old new (Only P) (Err fault) → ReaderGives meaning old new Answers (Err fault)
    err_gives (Broken faults) m = m
    err_gives UnknownSpace m = err_makes UnknownSpace m
    err_gives NotFound m = err_makes NotFound m
    err_gives NotFinalised m = err_makes NotFinalised m
    err_gives NotPending m = err_makes NotPending m
    err_gives (Full what limit) m = err_makes (Full what limit) m
    err_gives (HistoryFull entries links) m = err_makes (HistoryFull entries links) m
    err_gives NoMemory m = m
    err_gives DiskFailed (inl (unbroken, value, entry, (h, none), index, steps)) = absurd (let never : Some entry ≡ None = none in cc)
    err_gives DiskFailed (inr breaks) = inr breaks
    err_gives (Damaged hash found) m = err_makes (Damaged hash found) m

  -- one that was of use changed nothing
  module _ {A : Type 0} (P : Result A StoreFault → Type 0) (value : A) (gives : ReaderGives meaning old new (Only P) (Ok value)) where
    pub ok_is : P (Ok value)
    ok_is = gives.2.0

    pub ok_stays : Stays meaning old new
    ok_stays = subst (λ (o : Option Entry). Becomes meaning old [] new o) gives.2.1 gives.3

    pub ok_gives : {B : Type 0} (other : B) (Answers : Result B StoreFault → Option Entry → Type 0) → Answers (Ok other) None → ReaderGives meaning old new Answers (Ok other)
    ok_gives other Answers h = (gives.0, None, h, ok_stays)

-- ---- the object of a reference

module _ (cache : Cache) (whole : AreWhole cache.index) (name : RefName) where
  known_space : (hash : IoHash) → object_of cache.index name ≡ Ok hash → has_space cache.index name.space ≡ true
  known_space hash e = by_space (has_space cache.index name.space) e where
    by_space : (there : Bool) → (if there then done_at (get cache.index.slots name) else Err UnknownSpace) ≡ Ok hash → there ≡ true
    by_space true f = refl
    by_space false f = absurd (cc)

  -- a whole closure has its root
  root_there : (hash : IoHash) → IsWhole (links_in cache.index name.space) hash → blob_at cache.index name.space hash ≡ None → ⊥
  root_there hash closed is = let gone : IsMissing (links_in cache.index name.space) hash hash = (ap (option_map (λ (blob : Blob). blob.links)) is, Object, (0, refl)) in closed hash gone

  abbrev ok_or : Result IoHash StoreFault → IoHash → IoHash
  ok_or (Ok h) other = h
  ok_or (Err fault) other = other

  done_there : (hash : IoHash) → object_of cache.index name ≡ Ok hash → blob_at cache.index name.space hash ≡ None → ⊥
  done_there hash is none = by_space (has_space cache.index name.space) is where
    by_done : (slot : Slot) → get cache.index.slots name ≡ Some slot → (done : Option IoHash) → slot.done ≡ done → done_hash done ≡ Ok hash → ⊥
    by_done slot e None d f = cc
    by_done slot e (Some found) d f = let same : found ≡ hash = ap (λ (r : Result IoHash StoreFault). ok_or r found) f in root_there hash (whole name slot hash e (d ∙ ap Some same)) none

    by_slot : (slot : Option Slot) → get cache.index.slots name ≡ slot → done_at slot ≡ Ok hash → ⊥
    by_slot None e f = cc
    by_slot (Some slot) e f = by_done slot e slot.done refl f

    by_space : (there : Bool) → (if there then done_at (get cache.index.slots name) else Err UnknownSpace) ≡ Ok hash → ⊥
    by_space true f = by_slot (get cache.index.slots name) refl f
    by_space false f = cc

  -- what a read of the object is answered with
  abbrev IsServed : IoHash → Result (List ℕ) StoreFault → Type 0
  IsServed hash answer = (bytes : List ℕ) × MayRead cache name.space hash bytes × (answer ≡ undamaged hash bytes)

  pub served_object : (hash : IoHash) → object_of cache.index name ≡ Ok hash → (answer : Result (List ℕ) StoreFault) → ServesAs cache name.space hash answer → (bytes : List ℕ) × MayRead cache name.space hash bytes × (answer ≡ undamaged hash bytes)
  served_object hash is answer served =
      by_found (blob_at cache.index name.space hash) refl (subst (λ (there : Bool). ServesWhere there cache name.space hash answer) (known_space hash is) served) where
        by_found : (found : Option Blob) → blob_at cache.index name.space hash ≡ found → ServesFound found cache name.space hash answer → IsServed hash answer
        by_found None e h = absurd (done_there hash is e)
        by_found (Some blob) e h = h

  pub get_refused : (hour : ℕ) (fault : StoreFault) → object_of cache.index name ≡ Err fault → GetAs cache name hour (Err fault) None
  get_refused hour fault is = subst (λ (known : Result IoHash StoreFault). GetWhere known cache name hour (Err fault) None) (sym is) (refl, refl)

  pub gets : (hour : ℕ) (hash : IoHash) → object_of cache.index name ≡ Ok hash → (bytes : List ℕ) → MayRead cache name.space hash bytes → GetAs cache name hour (Ok (hash, bytes)) (touch_entry cache.index name hour)
  gets hour hash is bytes may = subst (λ (known : Result IoHash StoreFault). GetWhere known cache name hour (Ok (hash, bytes)) (touch_entry cache.index name hour)) (sym is) (bytes, may, refl, refl)

  module _ (past : Past) (hour : ℕ) where
    pub held_refused : (fault : StoreFault) → object_of cache.index name ≡ Err fault → HeldAs cache past name hour (Err fault) None
    held_refused fault is = (Err fault, None, get_refused hour fault is, (refl, refl))

    module _ (hash : IoHash) (is : object_of cache.index name ≡ Ok hash) where
      pub held_damaged : (fault : StoreFault) → ServesAs cache name.space hash (Err fault) → HeldAs cache past name hour (Err fault) None
      held_damaged fault served =
          let found = served_object hash is (Err fault) served in (
            Ok (hash, found.0),
            touch_entry cache.index name hour,
            gets hour hash is found.0 found.1,
            subst (λ (r : Result (List ℕ) StoreFault). ServedWhere r cache.index past hash (touch_entry cache.index name hour) (Err fault) None) found.2 (refl, refl),
          )

      pub held_served : (bytes : List ℕ) → ServesAs cache name.space hash (Ok bytes) → (made : Option Entry) → made ≡ touch_with_room cache.index past name hour → HeldAs cache past name hour (Ok (hash, bytes)) made
      held_served bytes served made touched =
          let found = served_object hash is (Ok bytes) served in (
            Ok (hash, found.0),
            touch_entry cache.index name hour,
            gets hour hash is found.0 found.1,
            subst (λ (r : Result (List ℕ) StoreFault). ServedWhere r cache.index past hash (touch_entry cache.index name hour) (Ok (hash, bytes)) made) found.2 (refl, touched),
          )

    -- a touch for which there is room
    pub room_of : (entry : Entry) → Some entry ≡ touch_with_room cache.index past name hour → (no_room cache.index past entry ≡ None) × (Some entry ≡ touch_entry cache.index name hour)
    room_of entry e = by_touch (touch_entry cache.index name hour) e where
      by_room : (other : Entry) (room : Option StoreFault) → no_room cache.index past other ≡ room → Some entry ≡ where_room room (Some other) → (no_room cache.index past entry ≡ None) × (Some entry ≡ Some other)
      by_room other None r f = (ap (no_room cache.index past) (same_some entry other f) ∙ r, f)
      by_room other (Some fault) r f = absurd (cc)

      by_touch : (touch : Option Entry) → Some entry ≡ where_room (no_room_for cache.index past touch) touch → (no_room cache.index past entry ≡ None) × (Some entry ≡ touch)
      by_touch None f = absurd (cc)
      by_touch (Some other) f = by_room other (no_room cache.index past other) refl f
