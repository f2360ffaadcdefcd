-- How a command ends, by what it was given.
use Rattle.std.specs.Prelude.{◌≡◌, ◌≢◌, ◌⊎◌, ℕ, Bool, IsTrue, List, [], ◌++◌, Option, None, Some, Result, Ok, Err, IfSome, String, codes, decimal}
use Rattle.std.specs.declared.alloc.Global.{Global}
use Rattle.std.specs.Io.KnownBytes.{Appends}
use Rattle.ddc_link.specs.Writes.{AppendsFront}
use Rattle.ddc_disk.specs.Disk.{Meaning, Timeline, EachImage, EachSince}
use Rattle.ddc_disk.specs.Images.{Images, devices_faults, devices_line}
use Rattle.ddc_disk.specs.declared.devices.Devices.{Devices}
use Rattle.ddc_journal.specs.Pairs.{IfBoth, NoneMade}
use Rattle.ddc_model.specs.declared.entry.Entry.{Entry}
use Rattle.ddc_model.specs.declared.fault.StoreFault.{StoreFault}
use Rattle.ddc_model.specs.declared.fault.StoreFault.TheVariants.{Full}
use Rattle.ddc_model.specs.declared.fault.StoreFault.TheVariants as faults
use Rattle.ddc_model.specs.Limits.{standard}
use Rattle.ddc_model.specs.State.{empty_state}
use Rattle.ddc_model.specs.Sound.{Cache, empty_cache, AreWhole, IsSound}
use Rattle.ddc_model.specs.Commands.{SpaceAs, changed}
use Rattle.ddc_opening.specs.Opening.{cache_in, HoldState, OpenFaultOf}
use Rattle.ddc_opening.specs.Loading.{AsBefore, Creates}
use Rattle.ddc_opening.specs.declared.fault.OpenFault.{OpenFault}
use Rattle.ddc_opening.specs.declared.fault.OpenFault.TheVariants.{NotMade}
use Rattle.ddc_opening.specs.declared.fault.OpenFault.TheVariants as open_faults
use Rattle.ddc_book.specs.Calls.{OpensWhole}
use Rattle.ddc_service.specs.declared.session.SessionEnd.{SessionEnd}
use Rattle.ddc_service.specs.declared.session.SessionEnd.TheVariants.{DiskFailed}
use Rattle.ddc_service.specs.Effects.{Effect, Bytes, Rises, MeetsNoFault, IsUntouched}
use Rattle.ddc_service.specs.Replies.{OpenStore, just_opened}
use Rattle.ddc_service.specs.Session.{Session, session, OpensWithin, IsSession, CountsAs, Stops}
use Rattle.ddc_command.specs.declared.command.Command.{Command}
use Rattle.ddc_command.specs.declared.command.Command.TheVariants.{Replay, Init}
use Rattle.ddc_command.specs.declared.end.CommandEnd.{CommandEnd}
use Rattle.ddc_command.specs.declared.end.CommandEnd.TheVariants.{Usage, Unopened, Replayed, Uncreated, Unmade, Made, Untold}
use Rattle.ddc_command.specs.Words.{command_of}

-- ---- what a command was given and left

-- the devices before and after, with what they tell; the hour where the clock tells it; and what was done to the source and
-- to the sink
pub record Scene (D : Type 0) : Type 1 where
  pub tells : Bool
  pub meaning : D → Meaning
  pub old : Devices D
  pub new : Devices D
  pub hour : Option ℕ
  pub source : Effect Bytes
  pub sink : Effect Bytes

abbrev pub scene : {D : Type 0} → Bool → (D → Meaning) → Devices D → Devices D → Option ℕ → Effect Bytes → Effect Bytes → Scene D
scene tells meaning old new hour source sink = record { tells = tells; meaning = meaning; old = old; new = new; hour = hour; source = source; sink = sink }

abbrev pub line_before : {D : Type 0} → Scene D → Timeline Images
line_before s = devices_line s.meaning s.old

abbrev pub line_now : {D : Type 0} → Scene D → Timeline Images
line_now s = devices_line s.meaning s.new

-- what was done to the devices, seen in this way
abbrev pub on_devices : {D A : Type 0} → Scene D → A → A → Effect A
on_devices s before after = record { before = before; after = after; faults_before = devices_faults s.meaning s.old; faults_after = devices_faults s.meaning s.new }

-- their count of faults rose
abbrev pub DevicesRose : {D : Type 0} → Scene D → Type 0
DevicesRose s = Rises (on_devices s s.old s.new)

-- what holds of what the two journal files held at first, where the devices tell that
abbrev pub BothHeld : {D : Type 0} → Scene D → (List ℕ → List ℕ → Type 0) → Type 0
BothHeld s P = IfBoth s.meaning s.old P

-- the devices hold a store with this cache: the journal leads to its state, and the blob file gives its bytes
pub record HoldStore {D : Type 0} (tells : Bool) (meaning : D → Meaning) (devices : Devices D) (cache : Cache) : Type 0 where
  pub state : IfBoth meaning devices (λ first second. HoldState standard first second cache.index)
  pub bytes : IsTrue tells → IfSome (meaning devices.blobs).held (λ file. cache ≡ cache_in file cache.index)
  pub whole : AreWhole cache.index

-- they hold none, and the cache is empty
pub record HoldNone {D : Type 0} (tells : Bool) (meaning : D → Meaning) (devices : Devices D) (cache : Cache) : Type 0 where
  pub none : IfBoth meaning devices NoneMade
  pub state : cache.index ≡ empty_state standard
  pub empty : IsTrue tells → cache ≡ empty_cache standard

-- they held a store with this cache
abbrev pub HeldStore : {D : Type 0} → Scene D → Cache → Type 0
HeldStore s cache = HoldStore s.tells s.meaning s.old cache

-- or none, and the cache is empty
abbrev pub HeldOrEmpty : {D : Type 0} → Scene D → Cache → Type 0
HeldOrEmpty s cache = HoldStore s.tells s.meaning s.old cache ⊎ HoldNone s.tells s.meaning s.old cache

-- no store is made on an image, and the cache is empty
abbrev pub IsEmptyUnmade : Cache → Images → Type 0
IsEmptyUnmade cache im = (cache ≡ empty_cache standard) × NoneMade im.first im.second

-- the devices tell what they hold, and each image at first opens to this cache, with each blob to its end
abbrev pub OpensTo : {D : Type 0} → Scene D → Cache → Type 0
OpensTo s cache = IsTrue s.tells × EachImage (line_before s) (λ im. OpensWhole standard im cache)

-- the same, or no store is made, and the cache is empty
abbrev pub StartsFrom : {D : Type 0} → Scene D → Cache → Type 0
StartsFrom s cache = IsTrue s.tells × EachImage (line_before s) (λ im. OpensWhole standard im cache ⊎ IsEmptyUnmade cache im)

-- an image opens to this cache, with each blob to its end, and the cache is sound where the one at the start was
pub record OpensAfter (start : Cache) (im : Images) (cache : Cache) : Type 0 where
  pub opens : OpensWhole standard im cache
  pub sound : IsSound start → IsSound cache

-- nothing was taken from the source, nor written to the sink
abbrev pub IsQuiet : {D : Type 0} → Scene D → Type 0
IsQuiet s = IsUntouched s.source × IsUntouched s.sink

-- ---- a store that isn't opened

-- the fault is that of what the two journal files held, or a disk failed; `init` makes a store where none is made
abbrev pub Unopens : {D : Type 0} → Scene D → Option Command → OpenFault → Type 0
Unopens s command open_faults.DiskFailed = DevicesRose s
Unopens s command open_faults.NoMemory = Unit {0}
Unopens s command NotMade = BothHeld s NoneMade × (command ≡ Some Replay)
Unopens s command fault = BothHeld s (λ first second. OpenFaultOf standard first second fault)

-- ---- a stream that is answered

-- the session from the opened store on
abbrev pub session_in : {D : Type 0} → Scene D → Cache → OpenStore → Session
session_in s start final = session s.hour s.source s.sink (on_devices s (just_opened start) final)

-- the texts of the replies from the opened store on were written. A crash at any moment of the call leaves the store after the
-- first items of the input, which is sound where the opened one was. At return it leaves the store that the session left, and
-- where the disks failed, the one before the last item or after it
pub record Replays {D : Type 0} (s : Scene D) (start : Cache) (final : OpenStore) (end : SessionEnd) : Type 0 where
  pub opened : HeldStore s start
  pub serves : IsSession (session_in s start final) end
  pub counts : CountsAs (session_in s start final) end
  pub any_moment : OpensTo s start → EachSince (line_before s) (line_now s) (OpensWithin s.hour s.source.before (just_opened start) standard)
  pub leaves : OpensTo s start → end ≢ DiskFailed → EachImage (line_now s) (λ im. OpensAfter start im final.cache)
  pub stops : OpensTo s start → Stops (session_in s start final) (line_now s) standard end

-- ---- a namespace that is made

-- a crash at any moment of the call leaves the state before or after this entry, or no store where none was made
abbrev pub LeavesBetween : {D : Type 0} → Scene D → Cache → Option Entry → Type 0
LeavesBetween s start made =
    StartsFrom s start → EachSince (line_before s) (line_now s) (λ im. OpensWhole standard im start ⊎ OpensAfter start im (changed start [] made) ⊎ IsEmptyUnmade start im)

-- at return a crash leaves the state after the entry
abbrev pub LeavesAfter : {D : Type 0} → Scene D → Cache → Option Entry → Type 0
LeavesAfter s start made = StartsFrom s start → EachImage (line_now s) (λ im. OpensAfter start im (changed start [] made))

-- a namespace was asked for, with this answer
pub record AsksSpace {D : Type 0} (s : Scene D) (space : List ℕ) (ttl pin : ℕ) (start : Cache) (answer : Result (Unit {0}) StoreFault) (made : Option Entry) : Type 0 where
  pub found : HeldOrEmpty s start
  pub answers : SpaceAs start.index space ttl pin answer made
  pub any_moment : LeavesBetween s start made

-- it is made
abbrev pub MakesSpace : {D : Type 0} → Scene D → List ℕ → ℕ → ℕ → Type 0
MakesSpace s space ttl pin = IsUntouched s.source × (start : Cache) × (made : Option Entry) × AsksSpace s space ttl pin start (Ok tt) made × LeavesAfter s start made

-- why it isn't made
abbrev pub LacksSpace : {D : Type 0} → Scene D → List ℕ → ℕ → ℕ → Cache → StoreFault → Type 0
LacksSpace s space ttl pin start (Full what limit) = AsksSpace s space ttl pin start (Err (Full what limit)) None × LeavesAfter s start None
LacksSpace s space ttl pin start faults.NoMemory = HeldOrEmpty s start × LeavesBetween s start None × LeavesAfter s start None
LacksSpace s space ttl pin start faults.DiskFailed = ((made : Option Entry) × AsksSpace s space ttl pin start (Ok tt) made) × DevicesRose s
LacksSpace s space ttl pin start other = ⊥

-- the line on a namespace that was made
abbrev pub made_line : List ℕ → ℕ → ℕ → List ℕ
made_line space ttl pin = (codes "namespace " ++ space) ++ (codes " ttl " ++ decimal ttl) ++ (codes " pin " ++ decimal pin) ++ codes "\n"

-- ---- the whole

-- the words ask for a namespace with these times
abbrev pub AsInit : List (String Global) → (List ℕ → ℕ → ℕ → Type 0) → Type 0
AsInit words P = (space : List ℕ) × (ttl : ℕ) × (pin : ℕ) × (command_of words ≡ Some (Init space ttl pin)) × P space ttl pin

-- how a command of these words ended
abbrev pub Ends : {D : Type 0} → Scene D → List (String Global) → CommandEnd → Type 0
Ends s words Usage = (command_of words ≡ None) × IsQuiet s × (s.new ≡ s.old)
Ends s words (Unopened fault) = (command_of words ≢ None) × IsQuiet s × AsBefore s.meaning s.old s.new × Unopens s (command_of words) fault
Ends s words (Replayed end) = (command_of words ≡ Some Replay) × (start : Cache) × (final : OpenStore) × Replays s start final end
Ends s words (Uncreated fault) =
    AsInit words (λ space ttl pin. IsQuiet s × BothHeld s NoneMade × Creates s.meaning s.old standard s.new
    × (((fault ≡ open_faults.DiskFailed) × DevicesRose s) ⊎ (fault ≡ open_faults.NoMemory)))
Ends s words (Unmade fault) = AsInit words (λ space ttl pin. IsQuiet s × (start : Cache) × LacksSpace s space ttl pin start fault)
Ends s words Made = AsInit words (λ space ttl pin. MakesSpace s space ttl pin × Appends s.sink.before s.sink.after (made_line space ttl pin) × MeetsNoFault s.sink)
Ends s words Untold = AsInit words (λ space ttl pin. MakesSpace s space ttl pin × AppendsFront s.sink.before s.sink.after (made_line space ttl pin) × Rises s.sink)

-- the whole note was written, or a front of it where the count of faults rose
abbrev pub Noted : Effect Bytes → List ℕ → Type 0
Noted notes note = (Appends notes.before notes.after note × MeetsNoFault notes) ⊎ (AppendsFront notes.before notes.after note × Rises notes)
