-- What making a namespace in a store answers, right after the store's opening.
use Rattle.std.proofs.Common.{◌≡◌, ℕ, ◌+◌, Bool, true, false, List, Option, Some, None, Result, Err, refl, ◌∙◌, ap, subst, sym}
use Rattle.std.specs.Prelude.{IfSome, nat_lt, ◌||◌, if◌then◌else◌}
use Rattle.ddc_model.specs.declared.rows.Limits.{Limits}
use Rattle.ddc_model.specs.declared.entry.Entry.{Entry}
use Rattle.ddc_model.specs.declared.entry.Entry.TheVariants.{Space}
use Rattle.ddc_model.specs.declared.fault.StoreFault.{StoreFault}
use Rattle.ddc_model.specs.declared.fault.StoreFault.TheVariants.{Full, HistoryFull}
use Rattle.ddc_model.specs.declared.fault.What.{What}
use Rattle.ddc_model.specs.declared.fault.What.TheVariants.{Spaces, Blobs, Refs, Links, Units}
use Rattle.ddc_model.specs.State.{State}
use Rattle.ddc_model.specs.Counts.{full, passes, added_spaces, added_blobs, added_refs, added_links, fresh_of, lacks_run, link_count}
use Rattle.ddc_model.specs.Limits.{standard}
use Rattle.ddc_model.specs.Commands.{unless, EntryWhere, SpaceAs}
use Rattle.ddc_model.specs.History.{none_yet, no_room_for, RoomWhere, WithRoom}
use Rattle.std.specs.FinMap.{len}

-- the history of a store that was just opened has room
roomy : (s : State) (space : List ℕ) (ttl pin : ℕ) → s.limits ≡ standard → no_room_for s none_yet (Some (Space space ttl pin)) ≡ None
roomy s space ttl pin limits =
    let none : Option StoreFault = None in
    let P : Limits → Type 0 = λ l. (if nat_lt l.entries (0 + 1) || nat_lt l.entry_links (0 + 0) || false then Some (HistoryFull 0 0) else none) ≡ none in
    subst P (sym limits) refl

room_where : (s : State) (space : List ℕ) (ttl pin : ℕ) (wished answer : Result (Unit {0}) StoreFault) (entry made : Option Entry) (fault : Option StoreFault) → s.limits ≡ standard → EntryWhere (unless fault (Some (Space space ttl pin))) wished entry
    → RoomWhere (no_room_for s none_yet entry) wished entry answer made → EntryWhere (unless fault (Some (Space space ttl pin))) answer made
room_where s space ttl pin wished answer entry made None limits (w, e) room =
    let P : Option StoreFault → Type 0 = λ o. RoomWhere o wished entry answer made in
    let open_ = subst P (ap (no_room_for s none_yet) e ∙ roomy s space ttl pin limits) room in
    (open_.0 ∙ w, open_.1 ∙ e)
room_where s space ttl pin wished answer entry made (Some fault) limits (w, e) room =
    let P : Option StoreFault → Type 0 = λ o. RoomWhere o wished entry answer made in
    let open_ = subst P (ap (no_room_for s none_yet) e) room in
    (open_.0 ∙ w, open_.1 ∙ e)

pub with_space : (s : State) (space : List ℕ) (ttl pin : ℕ) (answer : Result (Unit {0}) StoreFault) (made : Option Entry) → s.limits ≡ standard
    → WithRoom s none_yet (SpaceAs s space ttl pin) answer made → SpaceAs s space ttl pin answer made
with_space s space ttl pin answer made limits (wished, entry, answers, room) = room_where s space ttl pin wished answer entry made (full s (Space space ttl pin)) limits answers room

abbrev pub IsFull : StoreFault → Type 0
IsFull fault = (what : What) × (limit : ℕ) × (fault ≡ Full what limit)

full_or : (b : Bool) (what : What) (limit : ℕ) (rest : Option StoreFault) → IfSome rest IsFull → IfSome (if b then Some (Full what limit) else rest) IsFull
full_or true what limit rest h = (what, limit, refl)
full_or false what limit rest h = h

full_only : (s : State) (entry : Entry) → IfSome (full s entry) IsFull
full_only s entry =
    let units : Option StoreFault = if lacks_run s (fresh_of entry) then Some (Full Units s.limits.units) else None in
    let links : Option StoreFault = if passes (link_count s) (added_links (fresh_of entry)) s.limits.links then Some (Full Links s.limits.links) else units in
    let refs : Option StoreFault = if passes (len s.slots) (added_refs s entry) s.limits.refs then Some (Full Refs s.limits.refs) else links in
    let blobs : Option StoreFault = if passes (len s.blobs) (added_blobs (fresh_of entry)) s.limits.blobs then Some (Full Blobs s.limits.blobs) else refs in
    full_or (passes (len s.spaces) (added_spaces s entry) s.limits.spaces) Spaces s.limits.spaces blobs
    (full_or (passes (len s.blobs) (added_blobs (fresh_of entry)) s.limits.blobs) Blobs s.limits.blobs refs
    (full_or (passes (len s.slots) (added_refs s entry) s.limits.refs) Refs s.limits.refs links
    (full_or (passes (link_count s) (added_links (fresh_of entry)) s.limits.links) Links s.limits.links units
    (full_or (lacks_run s (fresh_of entry)) Units s.limits.units None tt))))

refused_where : (space : List ℕ) (ttl pin : ℕ) (fault : StoreFault) (made : Option Entry) (cause : Option StoreFault) → IfSome cause IsFull → EntryWhere (unless cause (Some (Space space ttl pin))) (Err fault) made → (made ≡ None) × IsFull fault
refused_where space ttl pin fault made None none h = cc h.0
refused_where space ttl pin fault made (Some cause) is h =
    let same : fault ≡ cause = cc h.0 in
    (h.1, subst IsFull (sym same) is)

-- one that is refused, is refused for want of room, and nothing is made
pub space_refused : (s : State) (space : List ℕ) (ttl pin : ℕ) (fault : StoreFault) (made : Option Entry) → SpaceAs s space ttl pin (Err fault) made → (made ≡ None) × IsFull fault
space_refused s space ttl pin fault made h = refused_where space ttl pin fault made (full s (Space space ttl pin)) (full_only s (Space space ttl pin)) h
