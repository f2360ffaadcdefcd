-- That a sound store stays sound, whatever items are answered.
use Rattle.std.proofs.Common.{◌+◌, ℕ, Bool, false, List, [], ◌∷◌, Option, Some, None, Result, Ok, Err, ap, sym, subst}
use Rattle.std.specs.Prelude.{⊤}
use Rattle.ddc_names.specs.declared.hash.IoHash.{IoHash}
use Rattle.ddc_model.specs.declared.entry.Entry.{Entry}
use Rattle.ddc_model.specs.declared.fault.StoreFault.{StoreFault}
use Rattle.ddc_model.specs.State.{State}
use Rattle.ddc_model.specs.Content.{IsContent}
use Rattle.ddc_model.specs.Sound.{Cache, IsSound}
use Rattle.ddc_model.specs.Commands.{changed}
use Rattle.ddc_model.specs.History.{Past, RoomWhere, no_room_for}
use Rattle.ddc_model.specs.Reads.{HeldWhere, ServedWhere, undamaged, where_room}
use Rattle.ddc_model.proofs.Sound.{upload_sound, put_sound, finalise_sound, get_sound}
use Rattle.ddc_protocol.specs.declared.request_form.RequestForm.{RequestForm}
use Rattle.ddc_protocol.specs.Requests.{Item, put_blob, get_blob, put_ref, get_ref, finalise, mismatch, not_object, Asks, stores, mismatches, fetches, puts, breaks, reads, finalises, IsRequestText, Begins}
use Rattle.ddc_service.specs.Replies.{OpenStore, item_command, IsReplyAt, closes, Runs}

-- ---- what a request asks to store

-- its links are those of its bytes
abbrev IsRead : Item → Type 0
IsRead (put_blob space content) = IsContent content
IsRead (put_ref name content) = IsContent content
IsRead other = ⊤

asked_read : (form : RequestForm) (body : List ℕ) (item : Item) → Asks body form item → IsRead item
asked_read _ body _ (stores content e k t) = k
asked_read _ body _ (mismatches t) = tt
asked_read _ body _ fetches = tt
asked_read _ body _ (puts content e k o) = k
asked_read _ body _ (breaks h) = tt
asked_read _ body _ reads = tt
asked_read _ body _ finalises = tt

-- ---- what a command makes

-- the entry that was wished, or none
by_room : {A : Type 0} (room : Option StoreFault) (wished : Result A StoreFault) (entry : Option Entry) (answer : Result A StoreFault) (made : Option Entry) (P : Option Entry → Type 0) → RoomWhere room wished entry answer made → P entry → P None → P made
by_room None wished entry answer made P (e, is) some none = subst P (sym is) some
by_room (Some fault) wished entry answer made P (e, is) some none = subst P (sym is) none

by_roomy : (room : Option StoreFault) (entry : Option Entry) (P : Option Entry → Type 0) → P entry → P None → P (where_room room entry)
by_roomy None entry P some none = some
by_roomy (Some fault) entry P some none = none

by_serving : (served : Result (List ℕ) StoreFault) (s : State) (past : Past) (hash : IoHash) (entry : Option Entry) (answer : Result (IoHash × List ℕ) StoreFault) (made : Option Entry) (P : Option Entry → Type 0)
    → ServedWhere served s past hash entry answer made → P entry → P None → P made
by_serving (Ok bytes) s past hash entry answer made P (e, is) some none = subst P (sym is) (by_roomy (no_room_for s past entry) entry P some none)
by_serving (Err fault) s past hash entry answer made P (e, is) some none = subst P (sym is) none

by_holding : (s : State) (past : Past) (found : Result (IoHash × List ℕ) StoreFault) (entry : Option Entry) (answer : Result (IoHash × List ℕ) StoreFault) (made : Option Entry) (P : Option Entry → Type 0)
    → HeldWhere s past found entry answer made → P entry → P None → P made
by_holding s past (Err fault) entry answer made P (e, is) some none = subst P (sym is) none
by_holding s past (Ok got) entry answer made P held some none = by_serving (undamaged got.0 got.1) s past got.0 entry answer made P held some none

-- ---- it stays sound

-- with these bytes, after such an entry
abbrev Stays : Cache → List ℕ → Option Entry → Type 0
Stays cache bytes made = IsSound (changed cache bytes made)

item_sound : (hour : ℕ) (store : OpenStore) (item : Item) → IsRead item → IsSound store.cache → (answer : Result (item_command hour store item).Value StoreFault) (made : Option Entry)
    → (item_command hour store item).Command answer made → Stays store.cache (item_command hour store item).bytes made
item_sound hour store (put_blob space content) read sound answer made (wished, entry, given, room) =
    by_room (no_room_for store.cache.index store.past entry) wished entry answer made (Stays store.cache content.bytes) room (upload_sound store.cache space content hour wished entry sound read given) sound
item_sound hour store (get_blob space hash) read sound answer made (serves, none) = subst (Stays store.cache []) (sym none) sound
item_sound hour store (put_ref name content) read sound answer made (wished, entry, given, room) =
    by_room (no_room_for store.cache.index store.past entry) wished entry answer made (Stays store.cache content.bytes) room (put_sound store.cache name content hour wished entry sound read given) sound
item_sound hour store (get_ref name) read sound answer made (got, entry, given, held) =
    by_holding store.cache.index store.past got entry answer made (Stays store.cache []) held (get_sound store.cache name hour got entry sound given) sound
item_sound hour store (finalise name hash) read sound answer made (wished, entry, given, room) =
    by_room (no_room_for store.cache.index store.past entry) wished entry answer made (Stays store.cache []) room (finalise_sound store.cache name hash hour wished entry sound given) sound
item_sound hour store (mismatch expected found) read sound answer made (fine, none) = subst (Stays store.cache []) (sym none) sound
item_sound hour store (not_object at) read sound answer made (fine, none) = subst (Stays store.cache []) (sym none) sound

reply_sound : (told : Option ℕ) (damaged close : Bool) (store : OpenStore) (item : Item) (text body : List ℕ) (next : OpenStore) → IsRequestText body item → IsReplyAt told damaged close store item text next → IsSound store.cache → IsSound next.cache
reply_sound told damaged close store item text body next spells (hour, is, (answer, made, given, text_is, next_is, damaged_is)) sound =
    subst IsSound (sym (ap (λ (o : OpenStore). o.cache) next_is)) (item_sound hour store item (asked_read spells.form spells.body item spells.item_is) sound answer made given)

-- items that are the front of some bytes keep a sound store sound
pub runs_sound : (told : Option ℕ) (count : ℕ) (items : List Item) (front text rest : List ℕ) (store next : OpenStore) → Begins front items rest → Runs told count store items text next → IsSound store.cache → IsSound next.cache
runs_sound told count [] front text rest store next begins (e, same) sound = subst IsSound (sym (ap (λ (o : OpenStore). o.cache) same)) sound
runs_sound told count (item ∷ items) front text rest store next (body, tail, split, spells, more) (first, others, between, answers, after, e) sound =
    runs_sound told (count + 1) items tail others rest between next more after (reply_sound told false (closes count) store item first body between spells answers sound)
