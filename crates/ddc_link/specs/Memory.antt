-- A source and a sink in memory, and what one call does to them.
use Rattle.std.specs.Prelude.{ℕ, ◌+◌, ◌-◌, ◌^◌, ◌==◌, Bool, true, false, if◌then◌else◌, min, max, List, ◌++◌, length, drop, slice_get, Option, Some, None}
use Rattle.std.specs.List.{list_any}

-- what a source in memory has left, the sizes of its pieces and the calls that fail, and how often
-- it was called and failed
pub record Feed : Type 0 where
  pub left : List ℕ
  pub sizes : List ℕ
  pub failing : List ℕ
  pub calls : ℕ
  pub faults : ℕ

-- what was written to a sink in memory, the calls that fail, how many calls were counted, how many
-- of them failed, and how often there was no memory
pub record Store : Type 0 where
  pub written : List ℕ
  pub failing : List ℕ
  pub calls : ℕ
  pub failed : ℕ
  pub starved : ℕ

-- a count that rises, up to its last value
abbrev pub one_higher : ℕ → ℕ
one_higher count = min (count + 1) (2 ^ 64 - 1)

-- whether the call of this number fails
abbrev pub is_listed : List ℕ → ℕ → Bool
is_listed failing call = list_any (λ number. number == call) failing

-- at most so many bytes, where a size is given; a size of 0 counts as 1
abbrev pub limited : Option ℕ → ℕ → ℕ
limited None room = room
limited (Some size) room = min room (max size 1)

-- how many bytes the next call gives into so much room
abbrev pub piece : Feed → ℕ → ℕ
piece feed room = limited (slice_get feed.sizes feed.calls) (min (length feed.left) room)

-- a source after a call with so much room
abbrev pub after_take : Feed → ℕ → Feed
after_take feed room =
    if is_listed feed.failing feed.calls then record feed { calls = one_higher feed.calls; faults = one_higher feed.faults }
    else record feed { left = drop (piece feed room) feed.left; calls = one_higher feed.calls }

-- a sink after a call that failed: as listed, or for want of memory
abbrev pub after_fault : Store → Store
after_fault store =
    if is_listed store.failing store.calls then record store { calls = one_higher store.calls; failed = one_higher store.failed }
    else record store { starved = one_higher store.starved }

-- a sink after a call, which wrote all of the bytes or failed
abbrev pub after_put : Store → Bool → List ℕ → Store
after_put store true bytes = record store { written = store.written ++ bytes; calls = one_higher store.calls }
after_put store false bytes = after_fault store
