-- How long the spelling of an entry is.
use Rattle.std.specs.Prelude.{◌≡◌, ℕ, ◌+◌, ◌*◌, ◌≤◌, List, [], ◌∷◌, ◌++◌, length, Option, None, Some, IfSome, refl}
use Rattle.std.proofs.Common.{arith, length-append}
use Rattle.std.specs.List.{flat_map, AllByRecursion}
use Rattle.ddc_names.specs.declared.hash.IoHash.{IoHash}
use Rattle.ddc_names.specs.declared.reference.RefName.{RefName}
use Rattle.ddc_names.specs.declared.reference.RefSpot.{RefSpot}
use Rattle.ddc_names.proofs.Laws.{rest_of_name}
use Rattle.cb_fields.specs.declared.links.Link.{Link}
use Rattle.replication_log.specs.declared.event.EventOp.{EventOp}
use Rattle.replication_log.specs.declared.event.EventOp.TheVariants.{Added, Deleted}
use Rattle.ddc_model.specs.declared.rows.Cursor.{Cursor as CursorRow}
use Rattle.ddc_model.specs.declared.entry.Stored.{Stored}
use Rattle.ddc_model.specs.declared.entry.Entry.{Entry}
use Rattle.ddc_model.specs.declared.entry.Entry.TheVariants.{Space, Upload, Repin, Put, Finalise, Delete, Touch, Expire, Swept, Cursor, BaseHour, BaseSlot, BaseEvent}
use Rattle.ddc_model.specs.Limits.{most_links}
use Rattle.ddc_model.specs.Counts.{added_links, fresh_of}
use Rattle.ddc_entry.specs.Spelling.{name, spot, ref_name, flag, link_bytes, stored_bytes, optional, counted, cursor_bytes, op_bytes, spelling, four_bytes, eight_bytes, twenty_bytes, IsCursor, IsEntry, IsHash, IsLink, IsName, IsOp, IsRefName, IsSpot, IsStored}

name_short : (text : List ℕ) → IsName text → length (name text) ≤ 65
name_short text is = let short = (rest_of_name 0 text (omega arith) is).0 in omega (arith, short)

ref_name_short : (whole : RefName) → IsRefName whole → length (ref_name whole) ≤ 150
ref_name_short whole is = omega (arith, name_short whole.space is.0, name_short whole.spot.bucket is.1.0, is.1.1.count, length-append (name whole.space) (spot whole.spot), length-append (name whole.spot.bucket) whole.spot.key.0)

links_short : (links : List Link) → AllByRecursion IsLink links → length (flat_map link_bytes links) ≡ 21 * length links
links_short [] all = refl
links_short (l ∷ links) all = omega (arith, all.0.count, links_short links all.1, length-append (link_bytes l) (flat_map link_bytes links))

stored_short : (blob : Stored) → IsStored blob → length (stored_bytes blob) ≡ 40 + 21 * length blob.links
stored_short blob is = omega (
  arith,
  is.0.count,
  links_short blob.links is.4,
  length-append (blob.hash.0 ++ eight_bytes blob.len ++ eight_bytes blob.start ++ four_bytes (length blob.links)) (flat_map link_bytes blob.links),
  length-append (blob.hash.0 ++ eight_bytes blob.len ++ eight_bytes blob.start) (four_bytes (length blob.links)),
  length-append (blob.hash.0 ++ eight_bytes blob.len) (eight_bytes blob.start),
  length-append blob.hash.0 (eight_bytes blob.len),
)

fresh_short : (fresh : Option Stored) → IfSome fresh IsStored → length (optional stored_bytes fresh) ≤ 41 + 21 * added_links fresh
fresh_short None is = omega arith
fresh_short (Some blob) is = omega (arith, stored_short blob is)

spot_short : (place : RefSpot) → IsSpot place → length (spot place) ≤ 85
spot_short place is = omega (arith, name_short place.bucket is.0, is.1.count, length-append (name place.bucket) place.key.0)

spots_short : (spots : List RefSpot) → AllByRecursion IsSpot spots → length (flat_map spot spots) ≤ 85 * length spots
spots_short [] all = omega arith
spots_short (place ∷ spots) all = omega (arith, spot_short place all.0, spots_short spots all.1, length-append (spot place) (flat_map spot spots))

hashes_short : (hashes : List IoHash) → AllByRecursion IsHash hashes → length (flat_map twenty_bytes hashes) ≡ 20 * length hashes
hashes_short [] all = refl
hashes_short (hash ∷ hashes) all = omega (arith, all.0.count, hashes_short hashes all.1, length-append hash.0 (flat_map twenty_bytes hashes))

hash_short : (hash : Option IoHash) → IfSome hash IsHash → length (optional twenty_bytes hash) ≤ 21
hash_short None is = omega arith
hash_short (Some hash) is = omega (arith, is.count)

from_short : (place : Option RefSpot) → IfSome place IsSpot → length (optional spot place) ≤ 86
from_short None is = omega arith
from_short (Some place) is = omega (arith, spot_short place is)

op_short : (op : EventOp) → IsOp op → length (op_bytes op) ≤ 21
op_short (Added object) is = omega (arith, is.count)
op_short Deleted is = omega arith

cursor_short : (cursor : CursorRow) → IsCursor cursor → length (cursor_bytes cursor) ≤ 103
cursor_short cursor is = omega (arith, from_short cursor.from is.2, length-append (flag cursor.walking ∷ eight_bytes cursor.after ++ eight_bytes cursor.top) (optional spot cursor.from), length-append (flag cursor.walking ∷ eight_bytes cursor.after) (eight_bytes cursor.top))

pub spelling_short : (entry : Entry) → IsEntry entry → added_links (fresh_of entry) ≤ most_links → length (spelling entry) ≤ 88081000
spelling_short (Space space ttl pin) is few = omega (arith, name_short space is.0, length-append (name space ++ four_bytes ttl) (four_bytes pin), length-append (name space) (four_bytes ttl))
spelling_short (Upload space hour blob) is few = omega (arith, few, name_short space is.0, stored_short blob is.1, length-append (name space ++ stored_bytes blob) (four_bytes hour), length-append (name space) (stored_bytes blob))
spelling_short (Repin space hash hour) is few = omega (arith, name_short space is.0, is.1.count, length-append (name space ++ hash.0) (four_bytes hour), length-append (name space) hash.0)
spelling_short (Put whole_name root fresh whole hour) is few =
    omega (arith, few, ref_name_short whole_name is.0, is.1.count, fresh_short fresh is.2, length-append (ref_name whole_name ++ root.0 ++ optional stored_bytes fresh) (flag whole ∷ four_bytes hour), length-append (ref_name whole_name ++ root.0) (optional stored_bytes fresh), length-append (ref_name whole_name) root.0)
spelling_short (Finalise whole_name hash hour) is few = omega (arith, ref_name_short whole_name is.0, is.1.count, length-append (ref_name whole_name ++ hash.0) (four_bytes hour), length-append (ref_name whole_name) hash.0)
spelling_short (Delete whole_name hour) is few = omega (arith, ref_name_short whole_name is.0, length-append (ref_name whole_name) (four_bytes hour))
spelling_short (Touch whole_name hour) is few = omega (arith, ref_name_short whole_name is.0, length-append (ref_name whole_name) (four_bytes hour))
spelling_short (Expire space spots hour) is few = omega (arith, name_short space is.0, is.1.1, spots_short spots is.2, length-append (name space ++ counted spot spots) (four_bytes hour), length-append (name space) (counted spot spots))
spelling_short (Swept space hashes) is few = omega (arith, name_short space is.0, is.1.1, hashes_short hashes is.2, length-append (name space) (counted twenty_bytes hashes))
spelling_short (Cursor space cursor) is few = omega (arith, name_short space is.0, cursor_short cursor is.1, length-append (name space) (cursor_bytes cursor))
spelling_short (BaseHour hour) is few = omega arith
spelling_short (BaseSlot whole_name done pending seen) is few =
    omega (arith, ref_name_short whole_name is.0, hash_short done is.1, hash_short pending is.2, length-append (ref_name whole_name ++ optional twenty_bytes done ++ optional twenty_bytes pending) (four_bytes seen), length-append (ref_name whole_name ++ optional twenty_bytes done) (optional twenty_bytes pending), length-append (ref_name whole_name) (optional twenty_bytes done))
spelling_short (BaseEvent whole_name number op) is few =
    omega (arith, name_short whole_name.space is.0.0, spot_short whole_name.spot is.0.1, op_short op is.2, length-append (name whole_name.space ++ eight_bytes number ++ spot whole_name.spot) (op_bytes op), length-append (name whole_name.space ++ eight_bytes number) (spot whole_name.spot), length-append (name whole_name.space) (eight_bytes number))
