-- A book as its callers see it, and what its type keeps.
use Rattle.std.specs.Prelude.{◌≡◌, ℕ, ◌+◌, ◌^◌, ◌≤◌, Bool, true, false, IsTrue, List, [], ◌∷◌, ◌++◌, length, take, Option, None, IfSome, option_map, refl}
use Rattle.std.specs.FinMap.{FinMap, code}
use Rattle.std.specs.Coded.{Coded, code_by, coded×, coded_ℕ, coded_list, coded_option}
use Rattle.ddc_names.specs.Orders.{coded_name}
use Rattle.ddc_disk.specs.Disk.{Timeline, Meaning}
use Rattle.ddc_disk.specs.Images.{Images, devices_line, devices_faults}
use Rattle.ddc_disk.specs.declared.devices.Devices.{Devices}
use Rattle.ddc_journal.specs.Pairs.{PairView}
use Rattle.ddc_model.specs.declared.rows.Limits.{Limits}
use Rattle.ddc_model.specs.declared.entry.Entry.{Entry}
use Rattle.ddc_model.specs.declared.entry.Step.{Step}
use Rattle.ddc_model.specs.declared.entry.Step.TheVariants.{Loaded, Change, Broke}
use Rattle.ddc_model.specs.contracts.entry.Step as step
use Rattle.ddc_model.specs.Keys.{blob_cmp, coded_blob_name}
use Rattle.ddc_model.specs.State.{State, coded_state, empty_state}
use Rattle.ddc_model.specs.Sound.{Cache, AreWhole, IsSound}
use Rattle.ddc_model.specs.History.{after_steps, broken_by, no_leases, AreLawful}
use Rattle.ddc_opening.specs.Opening.{bytes_in, AllReach, AreLegal, after_all, OpensSound}
use Rattle.ddc_opening.specs.Loading.{IsReady}

abbrev coded_step : Coded Step
coded_step = step.the_row.coded

-- the bytes of each blob
abbrev pub coded_bytes : Coded (FinMap blob_cmp (List ℕ))
coded_bytes = code coded_blob_name coded_name

-- the devices, the state with the bytes that they tell, the history, the moment of the opening, and how often links were read
pub record BookView (D : Type 0) : Type 0 where
  pub devices : Devices D
  pub cache : Cache
  pub steps : List Step
  pub opened : ℕ
  pub reads : ℕ

-- it is stored as the tuple of its parts
abbrev pub coded_book : {D : Type 0} → Coded D → Coded (BookView D)
coded_book {D} device = code_by ((D × (D × D)) × ((State × Option (FinMap blob_cmp (List ℕ))) × (List Step × (ℕ × ℕ))))
    (coded× (coded× device (coded× device device)) (coded× (coded× coded_state (coded_option coded_bytes)) (coded× (coded_list coded_step) (coded× coded_ℕ coded_ℕ))))
    (λ book. ((book.devices.first, (book.devices.second, book.devices.blobs)), ((book.cache.index, book.cache.bytes), (book.steps, (book.opened, book.reads)))))
    (λ p. record { devices = record { first = p.0.0; second = p.0.1.0; blobs = p.0.1.1 }; cache = record { index = p.1.0.0; bytes = p.1.0.1 }; steps = p.1.1.0; opened = p.1.1.1.0; reads = p.1.1.1.1 })
    (λ _. refl)

-- the bytes of the blobs that disks tell which hold this; disks of a type that doesn't tell what they hold tell none
abbrev pub told_bytes : Bool → Option (List ℕ) → State → Option (FinMap blob_cmp (List ℕ))
told_bytes true held s = option_map (λ file. bytes_in file s.blobs) held
told_bytes false held s = None

-- a state, with the bytes that the devices tell of its blobs
abbrev pub told_cache : {D : Type 0} → Bool → (D → Meaning) → Devices D → State → Cache
told_cache tells meaning devices s = record { index = s; bytes = told_bytes tells (meaning devices.blobs).held s }

abbrev pub limits_of : {D : Type 0} → BookView D → Limits
limits_of book = book.cache.index.limits

-- the joint images of its devices
abbrev pub book_line : {D : Type 0} → (D → Meaning) → BookView D → Timeline Images
book_line meaning book = devices_line meaning book.devices

-- the count of their faults
abbrev pub book_faults : {D : Type 0} → (D → Meaning) → BookView D → ℕ
book_faults meaning book = devices_faults meaning book.devices

-- each blob of its state ends within the blob file
abbrev pub Reaches : {D : Type 0} → (D → Meaning) → BookView D → Type 0
Reaches meaning book = IfSome (meaning book.devices.blobs).held (λ file. AllReach file book.cache.index)

-- a store was opened within these limits, its steps since are lawful, and all of them leave this
-- state; the devices' count of faults is `count`
pub record IsHistory (limits : Limits) (steps : List Step) (s : State) (count : ℕ) : Type 0 where
  pub opened : List Step
  pub faults : ℕ
  pub made : List Step
  pub split : steps ≡ opened ++ Loaded limits faults ∷ made
  pub unbroken : broken_by opened ≡ None
  pub lawful : AreLawful faults (after_steps (empty_state limits) opened) no_leases made
  pub leaves : s ≡ after_steps (empty_state limits) steps
  pub later : faults ≤ count
  pub broken : IfSome (broken_by steps) (λ now. now ≤ count)

-- ---- which steps a crash keeps

-- how many steps stand up to the opening, with it
abbrev pub opened_count : List Step → ℕ
opened_count [] = 0
opened_count (Loaded limits faults ∷ steps) = 1
opened_count (step ∷ steps) = 1 + opened_count steps

-- how many steps are sure: all of them, but for the change of a call that failed
abbrev pub sure_count : List Step → ℕ
sure_count [] = 0
sure_count (Change entry ∷ Broke true before now ∷ steps) = 0
sure_count (step ∷ steps) = 1 + sure_count steps

-- it opens to a sound state whose index is what at least so many of the first steps leave
pub record OpensFrom (least : ℕ) (limits : Limits) (steps : List Step) (im : Images) : Type 0 where
  pub n : ℕ
  pub least_is : least ≤ n
  pub within : n ≤ length steps
  pub state : Cache
  pub opens : OpensSound limits im state
  pub index : state.index ≡ after_steps (empty_state limits) (take n steps)

-- ---- what the type keeps

-- the premise: the disks tell what they hold, and at the opening each crash left a sound state
pub record IsHonest (tells : Bool) (line : Timeline Images) (limits : Limits) (opened : ℕ) : Type 0 where
  pub told : IsTrue tells
  pub sound : (im : Images) → line.left opened im → (state : Cache) × OpensSound limits im state

-- from a moment on, each image has P
abbrev pub EachFrom : {I : Type 0} → Timeline I → ℕ → (I → Type 0) → Type 0
EachFrom {I} line from P = (t : ℕ) (image : I) → from ≤ t → line.left t image → P image

-- the devices are ready with entries that lead to this state
pub record IsStored {D : Type 0} (meaning : D → Meaning) (devices : Devices D) (pair : PairView) (s : State) : Type 0 where
  pub all : List Entry
  pub ready : IsReady meaning devices pair all
  pub are_legal : AreLegal (empty_state s.limits) all
  pub leads : s ≡ after_all (empty_state s.limits) all

pub record IsBook {D : Type 0} (tells : Bool) (meaning : D → Meaning) (book : BookView D) (pair : PairView) : Type 0 where
  pub history : IsHistory (limits_of book) book.steps book.cache.index (book_faults meaning book)
  pub whole : AreWhole book.cache.index
  pub low : (limits_of book).units ≤ 2 ^ 51
  pub time : book.opened ≤ (book_line meaning book).moment
  pub now : IsTrue tells → broken_by book.steps ≡ None → IsStored meaning book.devices pair book.cache.index
  pub sound : IsHonest tells (book_line meaning book) (limits_of book) book.opened → broken_by book.steps ≡ None → IsSound book.cache × Reaches meaning book
  pub since : IsHonest tells (book_line meaning book) (limits_of book) book.opened → EachFrom (book_line meaning book) book.opened (OpensFrom (opened_count book.steps) (limits_of book) book.steps)
  pub last : IsHonest tells (book_line meaning book) (limits_of book) book.opened → EachFrom (book_line meaning book) (book_line meaning book).moment (OpensFrom (sure_count book.steps) (limits_of book) book.steps)
