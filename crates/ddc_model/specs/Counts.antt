-- What the limits of a store count, and which entries would pass one.
use Rattle.std.specs.Prelude.{ℕ, ◌+◌, Bool, false, not, ◌&&◌, List, [], ◌∷◌, length, Option, None, Some, is_some, nat_lt, if◌then◌else◌}
use Rattle.std.specs.FinMap.{get, len, entries}
use Rattle.ddc_model.specs.declared.rows.Blob.{Blob}
use Rattle.ddc_model.specs.declared.rows.BlobName.{BlobName}
use Rattle.ddc_model.specs.declared.entry.Stored.{Stored}
use Rattle.ddc_model.specs.declared.entry.Entry.{Entry}
use Rattle.ddc_model.specs.declared.entry.Entry.TheVariants.{Space, Upload, Put}
use Rattle.ddc_model.specs.declared.fault.StoreFault.{StoreFault}
use Rattle.ddc_model.specs.declared.fault.StoreFault.TheVariants.{Full}
use Rattle.ddc_model.specs.declared.fault.What.TheVariants.{Spaces, Blobs, Refs, Links, Units}
use Rattle.ddc_model.specs.State.{State, has_space}
use Rattle.ddc_model.specs.Extents.{units_of, free_run}

-- how many links these blobs have in all
abbrev pub links_of_all : List (BlobName × Blob) → ℕ
links_of_all [] = 0
links_of_all (e ∷ es) = length e.1.links + links_of_all es

-- how many links all blobs have
abbrev pub link_count : State → ℕ
link_count s = links_of_all (entries s.blobs)

-- the blob that an entry adds
abbrev pub fresh_of : Entry → Option Stored
fresh_of (Upload space hour blob) = Some blob
fresh_of (Put name root fresh whole hour) = fresh
fresh_of entry = None

abbrev pub added_blobs : Option Stored → ℕ
added_blobs (Some blob) = 1
added_blobs None = 0

abbrev pub added_links : Option Stored → ℕ
added_links (Some blob) = length blob.links
added_links None = 0

-- one where it isn't there yet
abbrev pub added : Bool → ℕ
added there = if there then 0 else 1

abbrev pub added_spaces : State → Entry → ℕ
added_spaces s (Space space ttl pin) = added (has_space s space)
added_spaces s entry = 0

abbrev pub added_refs : State → Entry → ℕ
added_refs s (Put name root fresh whole hour) = added (is_some (get s.slots name))
added_refs s entry = 0

-- the number is raised, and past the limit
abbrev pub passes : ℕ → ℕ → ℕ → Bool
passes count more limit = nat_lt 0 more && nat_lt limit (count + more)

-- no run of free units holds the blob that is added
abbrev pub lacks_run : State → Option Stored → Bool
lacks_run s (Some blob) = not (is_some (free_run s (units_of blob.len)))
lacks_run s None = false

-- the first limit that an entry would pass
abbrev pub full : State → Entry → Option StoreFault
full s entry =
    if passes (len s.spaces) (added_spaces s entry) s.limits.spaces then Some (Full Spaces s.limits.spaces) else
    if passes (len s.blobs) (added_blobs (fresh_of entry)) s.limits.blobs then Some (Full Blobs s.limits.blobs) else
    if passes (len s.slots) (added_refs s entry) s.limits.refs then Some (Full Refs s.limits.refs) else
    if passes (link_count s) (added_links (fresh_of entry)) s.limits.links then Some (Full Links s.limits.links) else
    if lacks_run s (fresh_of entry) then Some (Full Units s.limits.units) else
    None
