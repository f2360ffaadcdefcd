-- A disk in memory: the calls that were made of it, and the images that they leave.
use Rattle.std.specs.Prelude.{◌≡◌, ◌⊎◌, ℕ, ◌+◌, ◌-◌, ◌^◌, ◌==◌, ◌&&◌, Bool, true, false, if◌then◌else◌, nat_le, min, List, [], ◌∷◌, ◌++◌, length, Some, Result, MatchResult}
use Rattle.std.specs.List.{list_any}
use Rattle.ddc_disk.specs.Disk.{Meaning, Torn, overwritten}
use Rattle.ddc_disk.specs.declared.call.DiskCall.{DiskCall}
use Rattle.ddc_disk.specs.declared.call.CallKind.{CallKind}
use Rattle.ddc_disk.specs.declared.call.CallKind.TheVariants.{Write, Sync, Look}
use Rattle.ddc_disk.specs.declared.log.Log.{Log}

-- what the last sync has made sure of, the ranges that were written since, the newest first, the sure
-- bytes with all of these writes whole, and what a read gives
pub record MemoryState : Type 0 where
  pub sure : List ℕ
  pub pending : List (ℕ × ℕ)
  pub whole : List ℕ
  pub reads : List ℕ

-- a disk that has just this
abbrev pub fresh : List ℕ → MemoryState
fresh bytes = record { sure = bytes; pending = []; whole = bytes; reads = bytes }

-- a failed write may be torn like any other, and a failed sync settles nothing
abbrev pub after_call : MemoryState → CallKind → Bool → MemoryState
after_call s (Write at bytes) done = record {
  sure = s.sure;
  pending = (at, length bytes) ∷ s.pending;
  whole = overwritten s.whole at bytes;
  reads = if done then overwritten s.reads at bytes else s.reads;
}
after_call s Sync done = if done then fresh s.reads else s
after_call s Look done = s

-- after all of the calls
abbrev pub after_calls : MemoryState → List DiskCall → MemoryState
after_calls s [] = s
after_calls s (call ∷ calls) = after_calls (after_call s call.what call.done) calls

-- the calls that had ended by a moment
abbrev pub calls_by : ℕ → List DiskCall → List DiskCall
calls_by t [] = []
calls_by t (call ∷ calls) = if nat_le call.moment t then call ∷ calls_by t calls else []

-- a crash leaves the sure bytes, with each pending range torn
abbrev pub Reached : List ℕ → List (ℕ × ℕ) → List ℕ → Type 0
Reached sure [] image = image ≡ sure
Reached sure (range ∷ pending) image = (before : List ℕ) × Reached sure pending before × Torn range.0 range.1 before image

abbrev pub IsCrash : MemoryState → List ℕ → Type 0
IsCrash s image = Reached s.sure s.pending image

-- the image with all of the writes since the last sync, or with none of them
abbrev pub with_all : Bool → MemoryState → List ℕ
with_all all s = if all then s.whole else s.sure

-- an image of this state, and what a read gives
abbrev pub Follows : MemoryState → List ℕ → List ℕ → Type 0
Follows s image reads = IsCrash s image × (reads ≡ s.reads)

-- what the disk held at first, the numbers of the calls that fail, the calls so far, its moment, and
-- how many calls found no memory or had a range that doesn't fit
pub record MemoryHistory : Type 0 where
  pub start : List ℕ
  pub failing : List ℕ
  pub calls : List DiskCall
  pub moment : ℕ
  pub starved : ℕ

abbrev pub memory_history : Log → MemoryHistory
memory_history log = record { start = log.start.items; failing = log.failing; calls = log.calls; moment = log.moment; starved = log.starved }

-- how many of the calls weren't done
abbrev pub failures : List DiskCall → ℕ
failures [] = 0
failures (call ∷ calls) = (if call.done then 0 else 1) + failures calls

-- the log counts them
abbrev pub IsCounted : Log → Type 0
IsCounted log = log.failed ≡ min (failures log.calls) (2 ^ 64 - 1)

abbrev pub memory_faults : MemoryHistory → ℕ
memory_faults h = min (failures h.calls + h.starved) (2 ^ 64 - 1)

-- what a read gives now
abbrev pub reads_now : MemoryHistory → List ℕ
reads_now h = (after_calls (fresh h.start) h.calls).reads

-- what a disk in memory tells
abbrev pub memory_meaning : MemoryHistory → Meaning
memory_meaning h = record {
  held = Some (reads_now h);
  faults = memory_faults h;
  line = record { moment = h.moment; left = λ t image. IsCrash (after_calls (fresh h.start) (calls_by t h.calls)) image };
}

-- whether the next call is listed
abbrev pub is_next_listed : MemoryHistory → Bool
is_next_listed h = list_any (λ number. number == length h.calls) h.failing

-- with one call more
abbrev pub noted : MemoryHistory → CallKind → Bool → MemoryHistory
noted h what done = record h { calls = h.calls ++ record { moment = h.moment + 1; what = what; done = done } ∷ []; moment = h.moment + 1 }

-- with one call more that found no memory
abbrev pub starves : MemoryHistory → MemoryHistory
starves h = record h { starved = min (h.starved + 1) (2 ^ 64 - 1) }

-- the call was listed and failed, or there was no memory for it
abbrev pub AfterFault : MemoryHistory → CallKind → MemoryHistory → Type 0
AfterFault h what new = ((is_next_listed h ≡ true) × (new ≡ noted h what false)) ⊎ (new ≡ starves h)

-- the call was done, or it failed
abbrev pub AfterCall : {T E : Type 0} → MemoryHistory → CallKind → Result T E → MemoryHistory → Type 0
AfterCall h what result new = MatchResult result (λ _. (is_next_listed h ≡ false) × (new ≡ noted h what true)) (λ _. AfterFault h what new)

-- a write whose range doesn't fit failed, and changed nothing
abbrev pub AfterTooFar : MemoryHistory → MemoryHistory → Type 0
AfterTooFar h new = AfterFault h Look new ⊎ ((is_next_listed h ≡ false) × (new ≡ starves (noted h Look true)))

-- whether all of the calls had ended by a moment
abbrev pub all_by : ℕ → List DiskCall → Bool
all_by t [] = true
all_by t (call ∷ calls) = nat_le call.moment t && all_by t calls
