-- The reader of entries undoes their spelling, and so there is one entry at a front.
use Rattle.std.proofs.Common.{◌≡◌, ℕ, Bool, true, false, List, [], ◌∷◌, ◌++◌, length, Option, Some, None, refl, sym, ap, ◌∙◌, append_assoc, arith}
use Rattle.std.specs.Prelude.{◌==◌, IfSome}
use Rattle.std.specs.List.{AllByRecursion}
use Rattle.std.proofs.lemmas.Bool.Decides.{nat_tests}
use Rattle.std.proofs.lemmas.List.{append-nil}
use Rattle.std.proofs.lemmas.Option.{none-some, some_pair_parts}
use Rattle.ddc_names.specs.declared.hash.IoHash.{IoHash}
use Rattle.ddc_names.specs.declared.reference.RefName.{RefName}
use Rattle.ddc_names.specs.declared.reference.RefSpot.{RefSpot}
use Rattle.replication_log.specs.declared.event.EventOp.{EventOp}
use Rattle.ddc_model.specs.declared.rows.Cursor.{Cursor as CursorRow}
use Rattle.ddc_model.specs.declared.entry.Stored.{Stored}
use Rattle.ddc_model.specs.declared.entry.Entry.{Entry}
use Rattle.ddc_model.specs.declared.entry.Entry.TheVariants.{Space, Upload, Repin, Put, Finalise, Delete, Touch, Expire, Swept, Cursor, BaseHour, BaseSlot, BaseEvent}
use Rattle.ddc_entry.specs.Spelling.{four_bytes, eight_bytes, twenty_bytes, name, spot, ref_name, flag, stored_bytes, optional, counted, op_bytes, spelling, IsFour, IsEight, IsName, IsHash, IsSpot, IsRefName, IsStored, IsCount, IsOp, IsEntry}
use Rattle.ddc_entry.specs.inside.Reading.{Reader, both, tagged, none_at, optional_at, counted_at, four_at, eight_at, count_at, name_at, hash_at, spot_at, ref_name_at, flag_at, stored_at, op_at, space_at, upload_at, repin_at, put_at, finalise_at, delete_at, touch_at, expire_at, swept_at, cursor_at, base_hour_at, base_slot_at, base_event_at, entry_at}
use Rattle.ddc_entry.specs.Laws.{OneEntry}
use Rattle.ddc_entry.proofs.Readers.{IsBytes, Takes, TakesBehind, Again, Undoes, both_undo, nothing_takes, tagged_takes, made_takes, made_again, optional_undoes, counted_undo}
use Rattle.ddc_entry.proofs.Fields.{four_undo, eight_undo, count_undoes, name_undoes, hash_undoes, spot_undoes, ref_name_undoes, flag_undoes, stored_undoes, op_undoes}

-- ---- the fields of each

times : Undoes (both name_at (both four_at four_at)) (λ x. name x.0 ++ (four_bytes x.1.0 ++ four_bytes x.1.1)) (λ x. IsName x.0 × (IsFour x.1.0 × IsFour x.1.1))
times = both_undo name_at (both four_at four_at) name (λ x. four_bytes x.0 ++ four_bytes x.1) IsName (λ x. IsFour x.0 × IsFour x.1) name_undoes (both_undo four_at four_at four_bytes four_bytes IsFour IsFour four_undo four_undo)

blob_fields : Undoes (both name_at (both stored_at four_at)) (λ x. name x.0 ++ (stored_bytes x.1.0 ++ four_bytes x.1.1)) (λ x. IsName x.0 × (IsStored x.1.0 × IsFour x.1.1))
blob_fields = both_undo name_at (both stored_at four_at) name (λ x. stored_bytes x.0 ++ four_bytes x.1) IsName (λ x. IsStored x.0 × IsFour x.1) name_undoes (both_undo stored_at four_at stored_bytes four_bytes IsStored IsFour stored_undoes four_undo)

pin_fields : Undoes (both name_at (both hash_at four_at)) (λ x. name x.0 ++ (x.1.0.0 ++ four_bytes x.1.1)) (λ x. IsName x.0 × (IsHash x.1.0 × IsFour x.1.1))
pin_fields = both_undo name_at (both hash_at four_at) name (λ x. x.0.0 ++ four_bytes x.1) IsName (λ x. IsHash x.0 × IsFour x.1) name_undoes (both_undo hash_at four_at (λ hash. hash.0) four_bytes IsHash IsFour hash_undoes four_undo)

put_fields : Undoes (both ref_name_at (both hash_at (both (optional_at stored_at) (both flag_at four_at)))) (λ x. ref_name x.0 ++ (x.1.0.0 ++ (optional stored_bytes x.1.1.0 ++ ((flag x.1.1.1.0 ∷ []) ++ four_bytes x.1.1.1.1))))
    (λ x. IsRefName x.0 × (IsHash x.1.0 × (IfSome x.1.1.0 IsStored × (Unit {0} × IsFour x.1.1.1.1))))
put_fields =
    both_undo ref_name_at (both hash_at (both (optional_at stored_at) (both flag_at four_at))) ref_name (λ x. x.0.0 ++ (optional stored_bytes x.1.0 ++ ((flag x.1.1.0 ∷ []) ++ four_bytes x.1.1.1))) IsRefName (λ x. IsHash x.0 × (IfSome x.1.0 IsStored × (Unit {0} × IsFour x.1.1.1))) ref_name_undoes
    (both_undo hash_at (both (optional_at stored_at) (both flag_at four_at)) (λ hash. hash.0) (λ x. optional stored_bytes x.0 ++ ((flag x.1.0 ∷ []) ++ four_bytes x.1.1)) IsHash (λ x. IfSome x.0 IsStored × (Unit {0} × IsFour x.1.1)) hash_undoes
    (both_undo (optional_at stored_at) (both flag_at four_at) (optional stored_bytes) (λ x. (flag x.0 ∷ []) ++ four_bytes x.1) (λ fresh. IfSome fresh IsStored) (λ x. Unit {0} × IsFour x.1) (optional_undoes stored_at stored_bytes IsStored stored_undoes)
    (both_undo flag_at four_at (λ yes. flag yes ∷ []) four_bytes (λ yes. Unit {0}) IsFour flag_undoes four_undo)))

finalise_fields : Undoes (both ref_name_at (both hash_at four_at)) (λ x. ref_name x.0 ++ (x.1.0.0 ++ four_bytes x.1.1)) (λ x. IsRefName x.0 × (IsHash x.1.0 × IsFour x.1.1))
finalise_fields = both_undo ref_name_at (both hash_at four_at) ref_name (λ x. x.0.0 ++ four_bytes x.1) IsRefName (λ x. IsHash x.0 × IsFour x.1) ref_name_undoes (both_undo hash_at four_at (λ hash. hash.0) four_bytes IsHash IsFour hash_undoes four_undo)

hour_fields : Undoes (both ref_name_at four_at) (λ x. ref_name x.0 ++ four_bytes x.1) (λ x. IsRefName x.0 × IsFour x.1)
hour_fields = both_undo ref_name_at four_at ref_name four_bytes IsRefName IsFour ref_name_undoes four_undo

-- several of one kind, after their count
spots_undo : Undoes (counted_at count_at spot_at) (counted spot) (λ spots. IsCount (length spots) × AllByRecursion IsSpot spots)
spots_undo = counted_undo count_at (λ n. n ∷ []) IsCount spot_at spot IsSpot count_undoes spot_undoes

hashes_undo : Undoes (counted_at count_at hash_at) (counted twenty_bytes) (λ hashes. IsCount (length hashes) × AllByRecursion IsHash hashes)
hashes_undo = counted_undo count_at (λ n. n ∷ []) IsCount hash_at twenty_bytes IsHash count_undoes hash_undoes

expire_fields : Undoes (both name_at (both (counted_at count_at spot_at) four_at)) (λ x. name x.0 ++ (counted spot x.1.0 ++ four_bytes x.1.1)) (λ x. IsName x.0 × ((IsCount (length x.1.0) × AllByRecursion IsSpot x.1.0) × IsFour x.1.1))
expire_fields =
    both_undo name_at (both (counted_at count_at spot_at) four_at) name (λ x. counted spot x.0 ++ four_bytes x.1) IsName (λ x. (IsCount (length x.0) × AllByRecursion IsSpot x.0) × IsFour x.1) name_undoes
    (both_undo (counted_at count_at spot_at) four_at (counted spot) four_bytes (λ spots. IsCount (length spots) × AllByRecursion IsSpot spots) IsFour spots_undo four_undo)

swept_fields : Undoes (both name_at (counted_at count_at hash_at)) (λ x. name x.0 ++ counted twenty_bytes x.1) (λ x. IsName x.0 × (IsCount (length x.1) × AllByRecursion IsHash x.1))
swept_fields = both_undo name_at (counted_at count_at hash_at) name (counted twenty_bytes) IsName (λ hashes. IsCount (length hashes) × AllByRecursion IsHash hashes) name_undoes hashes_undo

cursor_fields : Undoes (both name_at (both flag_at (both eight_at (both eight_at (optional_at spot_at))))) (λ x. name x.0 ++ ((flag x.1.0 ∷ []) ++ (eight_bytes x.1.1.0 ++ (eight_bytes x.1.1.1.0 ++ optional spot x.1.1.1.1))))
    (λ x. IsName x.0 × (Unit {0} × (IsEight x.1.1.0 × (IsEight x.1.1.1.0 × IfSome x.1.1.1.1 IsSpot))))
cursor_fields =
    both_undo name_at (both flag_at (both eight_at (both eight_at (optional_at spot_at)))) name (λ x. (flag x.0 ∷ []) ++ (eight_bytes x.1.0 ++ (eight_bytes x.1.1.0 ++ optional spot x.1.1.1))) IsName (λ x. Unit {0} × (IsEight x.1.0 × (IsEight x.1.1.0 × IfSome x.1.1.1 IsSpot))) name_undoes
    (both_undo flag_at (both eight_at (both eight_at (optional_at spot_at))) (λ yes. flag yes ∷ []) (λ x. eight_bytes x.0 ++ (eight_bytes x.1.0 ++ optional spot x.1.1)) (λ yes. Unit {0}) (λ x. IsEight x.0 × (IsEight x.1.0 × IfSome x.1.1 IsSpot)) flag_undoes
    (both_undo eight_at (both eight_at (optional_at spot_at)) eight_bytes (λ x. eight_bytes x.0 ++ optional spot x.1) IsEight (λ x. IsEight x.0 × IfSome x.1 IsSpot) eight_undo
    (both_undo eight_at (optional_at spot_at) eight_bytes (optional spot) IsEight (λ from. IfSome from IsSpot) eight_undo (optional_undoes spot_at spot IsSpot spot_undoes))))

slot_fields : Undoes (both ref_name_at (both (optional_at hash_at) (both (optional_at hash_at) four_at))) (λ x. ref_name x.0 ++ (optional twenty_bytes x.1.0 ++ (optional twenty_bytes x.1.1.0 ++ four_bytes x.1.1.1)))
    (λ x. IsRefName x.0 × (IfSome x.1.0 IsHash × (IfSome x.1.1.0 IsHash × IsFour x.1.1.1)))
slot_fields =
    both_undo ref_name_at (both (optional_at hash_at) (both (optional_at hash_at) four_at)) ref_name (λ x. optional twenty_bytes x.0 ++ (optional twenty_bytes x.1.0 ++ four_bytes x.1.1)) IsRefName (λ x. IfSome x.0 IsHash × (IfSome x.1.0 IsHash × IsFour x.1.1)) ref_name_undoes
    (both_undo (optional_at hash_at) (both (optional_at hash_at) four_at) (optional twenty_bytes) (λ x. optional twenty_bytes x.0 ++ four_bytes x.1) (λ done. IfSome done IsHash) (λ x. IfSome x.0 IsHash × IsFour x.1) (optional_undoes hash_at twenty_bytes IsHash hash_undoes)
    (both_undo (optional_at hash_at) four_at (optional twenty_bytes) four_bytes (λ pending. IfSome pending IsHash) IsFour (optional_undoes hash_at twenty_bytes IsHash hash_undoes) four_undo))

event_fields : Undoes (both name_at (both eight_at (both spot_at op_at))) (λ x. name x.0 ++ (eight_bytes x.1.0 ++ (spot x.1.1.0 ++ op_bytes x.1.1.1))) (λ x. IsName x.0 × (IsEight x.1.0 × (IsSpot x.1.1.0 × IsOp x.1.1.1)))
event_fields =
    both_undo name_at (both eight_at (both spot_at op_at)) name (λ x. eight_bytes x.0 ++ (spot x.1.0 ++ op_bytes x.1.1)) IsName (λ x. IsEight x.0 × (IsSpot x.1.0 × IsOp x.1.1)) name_undoes
    (both_undo eight_at (both spot_at op_at) eight_bytes (λ x. spot x.0 ++ op_bytes x.1) IsEight (λ x. IsSpot x.0 × IsOp x.1) eight_undo
    (both_undo spot_at op_at spot op_bytes IsSpot IsOp spot_undoes op_undoes))

three_parts : (a b c : List ℕ) → (a ++ b) ++ c ≡ a ++ (b ++ c)
three_parts a b c = simp append_assoc

put_parts : (a b c : List ℕ) (d : ℕ) (e : List ℕ) → ((a ++ b) ++ c) ++ d ∷ e ≡ a ++ (b ++ (c ++ ((d ∷ []) ++ e)))
put_parts a b c d e = simp append_assoc

four_parts : (a b c d : List ℕ) → ((a ++ b) ++ c) ++ d ≡ a ++ (b ++ (c ++ d))
four_parts a b c d = simp append_assoc

cursor_parts : (a : List ℕ) (b : ℕ) (c d e : List ℕ) → a ++ (((b ∷ c) ++ d) ++ e) ≡ a ++ ((b ∷ []) ++ (c ++ (d ++ e)))
cursor_parts a b c d e = simp append_assoc

-- ---- what is read

space_takes : TakesBehind 0x01 space_at spelling IsEntry
unfolding space_at
space_takes = made_takes 0x01 (both name_at (both four_at four_at)) (λ x. name x.0 ++ (four_bytes x.1.0 ++ four_bytes x.1.1)) (λ x. IsName x.0 × (IsFour x.1.0 × IsFour x.1.1)) (λ (p : List ℕ × (ℕ × ℕ)). Space p.0 p.1.0 p.1.1) spelling IsEntry
    (λ x. ap (λ (t : List ℕ). 0x01 ∷ t) (three_parts (name x.0) (four_bytes x.1.0) (four_bytes x.1.1))) (λ x h. (h.0, h.1.0, h.1.1)) times

upload_takes : TakesBehind 0x02 upload_at spelling IsEntry
unfolding upload_at
upload_takes = made_takes 0x02 (both name_at (both stored_at four_at)) (λ x. name x.0 ++ (stored_bytes x.1.0 ++ four_bytes x.1.1)) (λ x. IsName x.0 × (IsStored x.1.0 × IsFour x.1.1)) (λ (p : List ℕ × (Stored × ℕ)). Upload p.0 p.1.1 p.1.0) spelling IsEntry
    (λ x. ap (λ (t : List ℕ). 0x02 ∷ t) (three_parts (name x.0) (stored_bytes x.1.0) (four_bytes x.1.1))) (λ x h. (h.0, h.1.0, h.1.1)) blob_fields

repin_takes : TakesBehind 0x03 repin_at spelling IsEntry
unfolding repin_at
repin_takes = made_takes 0x03 (both name_at (both hash_at four_at)) (λ x. name x.0 ++ (x.1.0.0 ++ four_bytes x.1.1)) (λ x. IsName x.0 × (IsHash x.1.0 × IsFour x.1.1)) (λ (p : List ℕ × (IoHash × ℕ)). Repin p.0 p.1.0 p.1.1) spelling IsEntry
    (λ x. ap (λ (t : List ℕ). 0x03 ∷ t) (three_parts (name x.0) x.1.0.0 (four_bytes x.1.1))) (λ x h. (h.0, h.1.0, h.1.1)) pin_fields

put_takes : TakesBehind 0x04 put_at spelling IsEntry
unfolding put_at
put_takes = made_takes 0x04 (both ref_name_at (both hash_at (both (optional_at stored_at) (both flag_at four_at)))) (λ x. ref_name x.0 ++ (x.1.0.0 ++ (optional stored_bytes x.1.1.0 ++ ((flag x.1.1.1.0 ∷ []) ++ four_bytes x.1.1.1.1))))
    (λ x. IsRefName x.0 × (IsHash x.1.0 × (IfSome x.1.1.0 IsStored × (Unit {0} × IsFour x.1.1.1.1)))) (λ (p : RefName × (IoHash × (Option Stored × (Bool × ℕ)))). Put p.0 p.1.0 p.1.1.0 p.1.1.1.0 p.1.1.1.1) spelling IsEntry
    (λ x. ap (λ (t : List ℕ). 0x04 ∷ t) (put_parts (ref_name x.0) x.1.0.0 (optional stored_bytes x.1.1.0) (flag x.1.1.1.0) (four_bytes x.1.1.1.1))) (λ x h. (h.0, h.1.0, h.1.1.0, h.1.1.1.1)) put_fields

finalise_takes : TakesBehind 0x05 finalise_at spelling IsEntry
unfolding finalise_at
finalise_takes = made_takes 0x05 (both ref_name_at (both hash_at four_at)) (λ x. ref_name x.0 ++ (x.1.0.0 ++ four_bytes x.1.1)) (λ x. IsRefName x.0 × (IsHash x.1.0 × IsFour x.1.1)) (λ (p : RefName × (IoHash × ℕ)). Finalise p.0 p.1.0 p.1.1) spelling IsEntry
    (λ x. ap (λ (t : List ℕ). 0x05 ∷ t) (three_parts (ref_name x.0) x.1.0.0 (four_bytes x.1.1))) (λ x h. (h.0, h.1.0, h.1.1)) finalise_fields

delete_takes : TakesBehind 0x06 delete_at spelling IsEntry
unfolding delete_at
delete_takes = made_takes 0x06 (both ref_name_at four_at) (λ x. ref_name x.0 ++ four_bytes x.1) (λ x. IsRefName x.0 × IsFour x.1) (λ (p : RefName × ℕ). Delete p.0 p.1) spelling IsEntry (λ x. refl) (λ x h. h) hour_fields

touch_takes : TakesBehind 0x07 touch_at spelling IsEntry
unfolding touch_at
touch_takes = made_takes 0x07 (both ref_name_at four_at) (λ x. ref_name x.0 ++ four_bytes x.1) (λ x. IsRefName x.0 × IsFour x.1) (λ (p : RefName × ℕ). Touch p.0 p.1) spelling IsEntry (λ x. refl) (λ x h. h) hour_fields

expire_takes : TakesBehind 0x08 expire_at spelling IsEntry
unfolding expire_at
expire_takes = made_takes 0x08 (both name_at (both (counted_at count_at spot_at) four_at)) (λ x. name x.0 ++ (counted spot x.1.0 ++ four_bytes x.1.1)) (λ x. IsName x.0 × ((IsCount (length x.1.0) × AllByRecursion IsSpot x.1.0) × IsFour x.1.1))
    (λ (p : List ℕ × (List RefSpot × ℕ)). Expire p.0 p.1.0 p.1.1) spelling IsEntry
    (λ x. ap (λ (t : List ℕ). 0x08 ∷ t) (three_parts (name x.0) (counted spot x.1.0) (four_bytes x.1.1))) (λ x h. (h.0, h.1.0.0, h.1.0.1, h.1.1)) expire_fields

swept_takes : TakesBehind 0x09 swept_at spelling IsEntry
unfolding swept_at
swept_takes = made_takes 0x09 (both name_at (counted_at count_at hash_at)) (λ x. name x.0 ++ counted twenty_bytes x.1) (λ x. IsName x.0 × (IsCount (length x.1) × AllByRecursion IsHash x.1)) (λ (p : List ℕ × List IoHash). Swept p.0 p.1) spelling IsEntry (λ x. refl) (λ x h. (h.0, h.1.0, h.1.1)) swept_fields

cursor_takes : TakesBehind 0x0a cursor_at spelling IsEntry
unfolding cursor_at
cursor_takes = made_takes 0x0a (both name_at (both flag_at (both eight_at (both eight_at (optional_at spot_at))))) (λ x. name x.0 ++ ((flag x.1.0 ∷ []) ++ (eight_bytes x.1.1.0 ++ (eight_bytes x.1.1.1.0 ++ optional spot x.1.1.1.1))))
    (λ x. IsName x.0 × (Unit {0} × (IsEight x.1.1.0 × (IsEight x.1.1.1.0 × IfSome x.1.1.1.1 IsSpot))))
    (λ (p : List ℕ × (Bool × (ℕ × (ℕ × Option RefSpot)))). let cursor : CursorRow = record { walking = p.1.0; after = p.1.1.0; top = p.1.1.1.0; from = p.1.1.1.1 } in Cursor p.0 cursor) spelling IsEntry
    (λ x. ap (λ (t : List ℕ). 0x0a ∷ t) (cursor_parts (name x.0) (flag x.1.0) (eight_bytes x.1.1.0) (eight_bytes x.1.1.1.0) (optional spot x.1.1.1.1))) (λ x h. (h.0, (h.1.1.0, h.1.1.1.0, h.1.1.1.1))) cursor_fields

base_hour_takes : TakesBehind 0x0b base_hour_at spelling IsEntry
unfolding base_hour_at
base_hour_takes = made_takes 0x0b four_at four_bytes IsFour BaseHour spelling IsEntry (λ x. refl) (λ x h. h) four_undo

base_slot_takes : TakesBehind 0x0c base_slot_at spelling IsEntry
unfolding base_slot_at
base_slot_takes = made_takes 0x0c (both ref_name_at (both (optional_at hash_at) (both (optional_at hash_at) four_at))) (λ x. ref_name x.0 ++ (optional twenty_bytes x.1.0 ++ (optional twenty_bytes x.1.1.0 ++ four_bytes x.1.1.1)))
    (λ x. IsRefName x.0 × (IfSome x.1.0 IsHash × (IfSome x.1.1.0 IsHash × IsFour x.1.1.1))) (λ (p : RefName × (Option IoHash × (Option IoHash × ℕ))). BaseSlot p.0 p.1.0 p.1.1.0 p.1.1.1) spelling IsEntry
    (λ x. ap (λ (t : List ℕ). 0x0c ∷ t) (four_parts (ref_name x.0) (optional twenty_bytes x.1.0) (optional twenty_bytes x.1.1.0) (four_bytes x.1.1.1))) (λ x h. (h.0, h.1.0, h.1.1.0, h.1.1.1)) slot_fields

base_event_takes : TakesBehind 0x0d base_event_at spelling IsEntry
unfolding base_event_at
base_event_takes = made_takes 0x0d (both name_at (both eight_at (both spot_at op_at))) (λ x. name x.0 ++ (eight_bytes x.1.0 ++ (spot x.1.1.0 ++ op_bytes x.1.1.1))) (λ x. IsName x.0 × (IsEight x.1.0 × (IsSpot x.1.1.0 × IsOp x.1.1.1)))
    (λ (p : List ℕ × (ℕ × (RefSpot × EventOp))). let whole : RefName = record { space = p.0; spot = p.1.1.0 } in BaseEvent whole p.1.0 p.1.1.1) spelling IsEntry
    (λ x. ap (λ (t : List ℕ). 0x0d ∷ t) (four_parts (name x.0) (eight_bytes x.1.0) (spot x.1.1.0) (op_bytes x.1.1.1))) (λ x h. ((h.0, h.1.1.0), h.1.0, h.1.1.1)) event_fields

abbrev from13 : Reader Entry
from13 = tagged 0x0d base_event_at none_at

abbrev from12 : Reader Entry
from12 = tagged 0x0c base_slot_at from13

abbrev from11 : Reader Entry
from11 = tagged 0x0b base_hour_at from12

abbrev from10 : Reader Entry
from10 = tagged 0x0a cursor_at from11

abbrev from9 : Reader Entry
from9 = tagged 0x09 swept_at from10

abbrev from8 : Reader Entry
from8 = tagged 0x08 expire_at from9

abbrev from7 : Reader Entry
from7 = tagged 0x07 touch_at from8

abbrev from6 : Reader Entry
from6 = tagged 0x06 delete_at from7

abbrev from5 : Reader Entry
from5 = tagged 0x05 finalise_at from6

abbrev from4 : Reader Entry
from4 = tagged 0x04 put_at from5

abbrev from3 : Reader Entry
from3 = tagged 0x03 repin_at from4

abbrev from2 : Reader Entry
from2 = tagged 0x02 upload_at from3

pub entry_takes : Takes entry_at spelling IsEntry
unfolding entry_at
entry_takes =
    tagged_takes 0x01 space_at from2 spelling IsEntry space_takes
    (tagged_takes 0x02 upload_at from3 spelling IsEntry upload_takes
    (tagged_takes 0x03 repin_at from4 spelling IsEntry repin_takes
    (tagged_takes 0x04 put_at from5 spelling IsEntry put_takes
    (tagged_takes 0x05 finalise_at from6 spelling IsEntry finalise_takes
    (tagged_takes 0x06 delete_at from7 spelling IsEntry delete_takes
    (tagged_takes 0x07 touch_at from8 spelling IsEntry touch_takes
    (tagged_takes 0x08 expire_at from9 spelling IsEntry expire_takes
    (tagged_takes 0x09 swept_at from10 spelling IsEntry swept_takes
    (tagged_takes 0x0a cursor_at from11 spelling IsEntry cursor_takes
    (tagged_takes 0x0b base_hour_at from12 spelling IsEntry base_hour_takes
    (tagged_takes 0x0c base_slot_at from13 spelling IsEntry base_slot_takes
    (tagged_takes 0x0d base_event_at none_at spelling IsEntry base_event_takes (nothing_takes spelling IsEntry)))))))))))))

-- ---- what is spelled

pub entry_again : Again entry_at spelling IsEntry
unfolding entry_at space_at upload_at repin_at put_at finalise_at delete_at touch_at expire_at swept_at cursor_at base_hour_at base_slot_at base_event_at
entry_again (Space space ttl pin) rest fit =
    ap (λ (t : List ℕ). space_at (t ++ rest)) (three_parts (name space) (four_bytes ttl) (four_bytes pin)) ∙ made_again (both name_at (both four_at four_at)) (λ x. name x.0 ++ (four_bytes x.1.0 ++ four_bytes x.1.1)) (λ x. IsName x.0 × (IsFour x.1.0 × IsFour x.1.1)) (λ (p : List ℕ × (ℕ × ℕ)). Space p.0 p.1.0 p.1.1) times (space, (ttl, pin)) rest (fit.0, (fit.1, fit.2))
entry_again (Upload space hour blob) rest fit =
    ap (λ (t : List ℕ). upload_at (t ++ rest)) (three_parts (name space) (stored_bytes blob) (four_bytes hour)) ∙ made_again (both name_at (both stored_at four_at)) (λ x. name x.0 ++ (stored_bytes x.1.0 ++ four_bytes x.1.1)) (λ x. IsName x.0 × (IsStored x.1.0 × IsFour x.1.1)) (λ (p : List ℕ × (Stored × ℕ)). Upload p.0 p.1.1 p.1.0) blob_fields (space, (blob, hour)) rest (fit.0, (fit.1, fit.2))
entry_again (Repin space hash hour) rest fit =
    ap (λ (t : List ℕ). repin_at (t ++ rest)) (three_parts (name space) hash.0 (four_bytes hour)) ∙ made_again (both name_at (both hash_at four_at)) (λ x. name x.0 ++ (x.1.0.0 ++ four_bytes x.1.1)) (λ x. IsName x.0 × (IsHash x.1.0 × IsFour x.1.1)) (λ (p : List ℕ × (IoHash × ℕ)). Repin p.0 p.1.0 p.1.1) pin_fields (space, (hash, hour)) rest (fit.0, (fit.1, fit.2))
entry_again (Put whole_name root fresh whole hour) rest fit =
    ap (λ (t : List ℕ). put_at (t ++ rest)) (put_parts (ref_name whole_name) root.0 (optional stored_bytes fresh) (flag whole) (four_bytes hour)) ∙ made_again (both ref_name_at (both hash_at (both (optional_at stored_at) (both flag_at four_at)))) (λ x. ref_name x.0 ++ (x.1.0.0 ++ (optional stored_bytes x.1.1.0 ++ ((flag x.1.1.1.0 ∷ []) ++ four_bytes x.1.1.1.1))))
    (λ x. IsRefName x.0 × (IsHash x.1.0 × (IfSome x.1.1.0 IsStored × (Unit {0} × IsFour x.1.1.1.1)))) (λ (p : RefName × (IoHash × (Option Stored × (Bool × ℕ)))). Put p.0 p.1.0 p.1.1.0 p.1.1.1.0 p.1.1.1.1) put_fields (whole_name, (root, (fresh, (whole, hour)))) rest (fit.0, (fit.1, (fit.2, (tt, fit.3))))
entry_again (Finalise whole_name hash hour) rest fit =
    ap (λ (t : List ℕ). finalise_at (t ++ rest)) (three_parts (ref_name whole_name) hash.0 (four_bytes hour)) ∙ made_again (both ref_name_at (both hash_at four_at)) (λ x. ref_name x.0 ++ (x.1.0.0 ++ four_bytes x.1.1)) (λ x. IsRefName x.0 × (IsHash x.1.0 × IsFour x.1.1)) (λ (p : RefName × (IoHash × ℕ)). Finalise p.0 p.1.0 p.1.1) finalise_fields (whole_name, (hash, hour)) rest (fit.0, (fit.1, fit.2))
entry_again (Delete whole_name hour) rest fit = made_again (both ref_name_at four_at) (λ x. ref_name x.0 ++ four_bytes x.1) (λ x. IsRefName x.0 × IsFour x.1) (λ (p : RefName × ℕ). Delete p.0 p.1) hour_fields (whole_name, hour) rest fit
entry_again (Touch whole_name hour) rest fit = made_again (both ref_name_at four_at) (λ x. ref_name x.0 ++ four_bytes x.1) (λ x. IsRefName x.0 × IsFour x.1) (λ (p : RefName × ℕ). Touch p.0 p.1) hour_fields (whole_name, hour) rest fit
entry_again (Expire space spots hour) rest fit =
    ap (λ (t : List ℕ). expire_at (t ++ rest)) (three_parts (name space) (counted spot spots) (four_bytes hour)) ∙ made_again (both name_at (both (counted_at count_at spot_at) four_at)) (λ x. name x.0 ++ (counted spot x.1.0 ++ four_bytes x.1.1)) (λ x. IsName x.0 × ((IsCount (length x.1.0) × AllByRecursion IsSpot x.1.0) × IsFour x.1.1))
    (λ (p : List ℕ × (List RefSpot × ℕ)). Expire p.0 p.1.0 p.1.1) expire_fields (space, (spots, hour)) rest (fit.0, ((fit.1, fit.2), fit.3))
entry_again (Swept space hashes) rest fit = made_again (both name_at (counted_at count_at hash_at)) (λ x. name x.0 ++ counted twenty_bytes x.1) (λ x. IsName x.0 × (IsCount (length x.1) × AllByRecursion IsHash x.1)) (λ (p : List ℕ × List IoHash). Swept p.0 p.1) swept_fields (space, hashes) rest (fit.0, (fit.1, fit.2))
entry_again (Cursor space cursor) rest fit =
    ap (λ (t : List ℕ). cursor_at (t ++ rest)) (cursor_parts (name space) (flag cursor.walking) (eight_bytes cursor.after) (eight_bytes cursor.top) (optional spot cursor.from)) ∙ made_again (both name_at (both flag_at (both eight_at (both eight_at (optional_at spot_at))))) (λ x. name x.0 ++ ((flag x.1.0 ∷ []) ++ (eight_bytes x.1.1.0 ++ (eight_bytes x.1.1.1.0 ++ optional spot x.1.1.1.1))))
    (λ x. IsName x.0 × (Unit {0} × (IsEight x.1.1.0 × (IsEight x.1.1.1.0 × IfSome x.1.1.1.1 IsSpot))))
    (λ (p : List ℕ × (Bool × (ℕ × (ℕ × Option RefSpot)))). let cursor : CursorRow = record { walking = p.1.0; after = p.1.1.0; top = p.1.1.1.0; from = p.1.1.1.1 } in Cursor p.0 cursor) cursor_fields
    (space, (cursor.walking, (cursor.after, (cursor.top, cursor.from)))) rest (fit.0, (tt, (fit.1.0, (fit.1.1, fit.1.2))))
entry_again (BaseHour hour) rest fit = made_again four_at four_bytes IsFour BaseHour four_undo hour rest fit
entry_again (BaseSlot whole_name done pending seen) rest fit =
    ap (λ (t : List ℕ). base_slot_at (t ++ rest)) (four_parts (ref_name whole_name) (optional twenty_bytes done) (optional twenty_bytes pending) (four_bytes seen)) ∙ made_again (both ref_name_at (both (optional_at hash_at) (both (optional_at hash_at) four_at))) (λ x. ref_name x.0 ++ (optional twenty_bytes x.1.0 ++ (optional twenty_bytes x.1.1.0 ++ four_bytes x.1.1.1)))
    (λ x. IsRefName x.0 × (IfSome x.1.0 IsHash × (IfSome x.1.1.0 IsHash × IsFour x.1.1.1))) (λ (p : RefName × (Option IoHash × (Option IoHash × ℕ))). BaseSlot p.0 p.1.0 p.1.1.0 p.1.1.1) slot_fields (whole_name, (done, (pending, seen))) rest (fit.0, (fit.1, (fit.2, fit.3)))
entry_again (BaseEvent whole_name number op) rest fit =
    ap (λ (t : List ℕ). base_event_at (t ++ rest)) (four_parts (name whole_name.space) (eight_bytes number) (spot whole_name.spot) (op_bytes op)) ∙ made_again (both name_at (both eight_at (both spot_at op_at))) (λ x. name x.0 ++ (eight_bytes x.1.0 ++ (spot x.1.1.0 ++ op_bytes x.1.1.1))) (λ x. IsName x.0 × (IsEight x.1.0 × (IsSpot x.1.1.0 × IsOp x.1.1.1)))
    (λ (p : List ℕ × (ℕ × (RefSpot × EventOp))). let whole : RefName = record { space = p.0; spot = p.1.1.0 } in BaseEvent whole p.1.0 p.1.1.1) event_fields (whole_name.space, (number, (whole_name.spot, op))) rest (fit.0.0, (fit.1, (fit.0.1, fit.2)))

-- ---- the laws

-- an entry is read again from its spelling
whole_again : (e : Entry) → IsEntry e → entry_at (spelling e) ≡ Some (e, [])
whole_again e p = ap entry_at (sym (append-nil (spelling e))) ∙ entry_again e [] p

pub entry_once : OneEntry
entry_once e f p q same = (some_pair_parts e f [] [] (sym (whole_again e p) ∙ ap entry_at same ∙ whole_again f q)).0

-- ---- what is answered

-- an entry with nothing after it is what the bytes spell
pub found_whole : (bytes : List ℕ) (e : Entry) → IsBytes bytes → entry_at bytes ≡ Some (e, []) → IsEntry e × (bytes ≡ spelling e)
found_whole bytes e small h = let t = entry_takes bytes e [] small h in (t.1, t.0 ∙ append-nil (spelling e))

-- where the bytes spell an entry, it is found, with nothing after it
pub found_same : (bytes rest : List ℕ) (found e : Entry) → entry_at bytes ≡ Some (found, rest) → IsEntry e → bytes ≡ spelling e → (found ≡ e) × (rest ≡ [])
found_same bytes rest found e h p same = some_pair_parts found e rest [] (sym h ∙ ap entry_at same ∙ whole_again e p)

pub not_refused : (bytes : List ℕ) (e : Entry) → entry_at bytes ≡ None → IsEntry e → bytes ≡ spelling e → ⊥
not_refused bytes e h p same = none-some (e, []) (sym h ∙ ap entry_at same ∙ whole_again e p)

-- where nothing is left
no_length : (n : ℕ) → true ≡ (n == 0) → n ≡ 0
no_length n e = grind (arith, nat_tests)

nothing : (rest : List ℕ) → length rest ≡ 0 → rest ≡ []
nothing [] e = refl
nothing (b ∷ rest) e = absurd (omega (arith, e))

pub none_left : (rest : List ℕ) → true ≡ (length rest == 0) → rest ≡ []
none_left rest e = nothing rest (no_length (length rest) e)

pub some_left : (rest : List ℕ) → false ≡ (length rest == 0) → rest ≡ [] → ⊥
some_left [] e none = absurd (cc)
some_left (b ∷ rest) e none = cc none
