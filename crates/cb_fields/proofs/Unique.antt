-- The language and the first fault are what reading by headers comes to, so they exclude each other and each has one outcome.
use Rattle.std.proofs.Common.{◌≡◌, ℕ, ◌+◌, ◌-◌, ◌<◌, ◌≤◌, true, false, List, [], ◌∷◌, ◌++◌, length, take, drop, refl, sym, ◌∙◌, arith, append_assoc, length-append, length-drop, Option}
use Rattle.std.proofs.lemmas.List.{append-nil, take-append-le, drop-append-le, take_all, take-append-drop}
use Rattle.std.proofs.Math.Seq.{take-append_seam, drop-append_seam}
use Rattle.cb_fields.specs.declared.links.Link.{Link as LinkOf}
use Rattle.cb_fields.specs.declared.header.Contents.{Contents}
use Rattle.cb_fields.specs.declared.header.Header.{Header}
use Rattle.cb_fields.specs.declared.header.Header.TheVariants.{End, Bad, Plain, Link, Container}
use Rattle.cb_fields.specs.Shape.{may_end, is_full, fewer}
use Rattle.cb_fields.specs.inside.Header.{field_header, next_header}
use Rattle.cb_fields.specs.Language.{attached_link, Class, Field, Whole, Spells, plain, container, none, more}
use Rattle.cb_fields.specs.Fault.{HasHeader, plain_field, container_field, FirstFault, bad_header, inside, further, missing, left_over}
use Rattle.cb_fields.specs.inside.FieldWalk.{Outcome, Fault, Cut}
use Rattle.cb_fields.proofs.Front.{Takes, plain_header, container_field_header, plain_some_bytes, opens_some}
use Rattle.cb_fields.proofs.Found.{OpensField}
use Rattle.cb_fields.proofs.Steps.{HeaderFound, header_found, opened_whole}
use Rattle.cb_fields.proofs.Reading.{Reads, ended, broken, past_plain, past_link, broken_inside, past_container}

header_some : (c : Contents) (bs : List ℕ) → is_full c.count ≡ false → 0 < length bs → next_header c bs ≡ field_header c.type_byte bs
unfolding next_header
header_some c [] e some = absurd (omega arith)
header_some c (b ∷ bs) e some = rw e refl

header_end : (c : Contents) → may_end c.count ≡ true → next_header c [] ≡ End
unfolding next_header
header_end c m = rw m refl

header_missing : (c : Contents) → may_end c.count ≡ false → next_header c [] ≡ Bad
unfolding next_header
header_missing c m = rw m refl

header_left : (c : Contents) (bs : List ℕ) → is_full c.count ≡ true → 0 < length bs → next_header c bs ≡ Bad
unfolding next_header
header_left c [] e some = absurd (omega arith)
header_left c (b ∷ bs) e some = rw e refl

-- what stands at the front takes f, whose links are ls, whole
abbrev pub Passes : Header → List ℕ → List LinkOf → Type 0
Passes End f ls = ⊥
Passes Bad f ls = ⊥
Passes (Plain k) f ls = (k ≡ length f) × (ls ≡ [])
Passes (Link kind k) f ls = (k ≡ length f) × (20 ≤ k) × (ls ≡ attached_link kind (drop (k - 20) f) ∷ [])
Passes (Container before size inner) f ls =
    (before + size ≡ length f) × ((at : ℕ) (links : List LinkOf) → Reads inner (take size (drop before f)) at links (Cut (links ++ ls)))

takes_passes : (h : Header) (f : List ℕ) (ls : List LinkOf) → Takes h f ls → Passes h f ls
takes_passes End f ls t = t
takes_passes Bad f ls t = t
takes_passes (Plain k) f ls t = t
takes_passes (Link kind k) f ls t = t
takes_passes (Container before size inner) f ls t = absurd t

-- on, after a field that is passed
go_on : (c : Contents) (f fs : List ℕ) (ls links : List LinkOf) (at : ℕ) (o : Outcome) (h : Header) → next_header c (f ++ fs) ≡ h → Passes h f ls
    → Reads (fewer c) fs (at + length f) (links ++ ls) o → Reads c (f ++ fs) at links o
go_on c f fs ls links at o End is p r = absurd p
go_on c f fs ls links at o Bad is p r = absurd p
go_on c f fs ls links at o (Plain k) is p r =
    let d : drop k (f ++ fs) ≡ fs = rw (p.0, drop-append_seam) refl in
    let e : links ++ ls ≡ links = rw (p.1, append-nil) refl in
    let q : Reads (fewer c) fs (at + k) links o = rw (e, sym p.0) at r in
    past_plain k is (rw d q)
go_on c f fs ls links at o (Link kind k) is p r =
    let d : drop k (f ++ fs) ≡ fs = rw (p.0, drop-append_seam) refl in
    let t : take k (f ++ fs) ≡ f = rw (p.0, take-append_seam) refl in
    let g : links ++ attached_link kind (drop (k - 20) (take k (f ++ fs))) ∷ [] ≡ links ++ ls = rw (t, p.2) refl in
    let q : Reads (fewer c) fs (at + k) (links ++ ls) o = rw (sym p.0) at r in
    past_link kind k is (rw (d, g) q)
go_on c f fs ls links at o (Container before size inner) is p r =
    let d : drop (before + size) (f ++ fs) ≡ fs = rw (p.0, drop-append_seam) refl in
    let short : before ≤ length f = omega (arith, p.0) in
    let shorter : size ≤ length (drop before f) = rw length-drop (omega (arith, p.0)) in
    let t : take size (drop before (f ++ fs)) ≡ take size (drop before f) = rw (drop-append-le before f fs short, take-append-le size (drop before f) fs shorter) refl in
    let q : Reads (fewer c) fs (at + (before + size)) (links ++ ls) o = rw (sym p.0) at r in
    past_container before size inner (links ++ ls) is (rw t (p.1 (at + before) links)) (rw d q)

-- what each class is read as
abbrev pub IsRead : Class → List ℕ → List LinkOf → Type 0
IsRead (Field type_byte) f ls = (others : List ℕ) → Passes (field_header type_byte (f ++ others)) f ls × (0 < length f)
IsRead (Whole c) xs ls = (at : ℕ) (links : List LinkOf) → Reads c xs at links (Cut (links ++ ls))

container_passes : (start front xs : List ℕ) (inner : Contents) (ls : List LinkOf) → ((at : ℕ) (links : List LinkOf) → Reads inner xs at links (Cut (links ++ ls)))
    → Passes (Container (length (start ++ front)) (length xs) inner) (start ++ (front ++ xs)) ls
container_passes start front xs inner ls r =
    let cut : start ++ (front ++ xs) ≡ (start ++ front) ++ xs = sym (append_assoc start front xs) in
    let part : take (length xs) (drop (length (start ++ front)) ((start ++ front) ++ xs)) ≡ xs = rw drop-append_seam (take_all (length xs) xs (omega arith)) in
    rw cut (sym (length-append (start ++ front) xs), λ at links. rw part (r at links))

some_append : (f fs : List ℕ) → 0 < length f → 0 < length (f ++ fs)
some_append f fs h = rw length-append (omega arith)

pub spells_read : {class : Class} {xs : List ℕ} {ls : List LinkOf} → Spells class xs ls → IsRead class xs ls
spells_read (plain {type_byte = type_byte} {t = t} {links = ls} start p s a) = λ others.
    (let cut : (start ++ p) ++ others ≡ start ++ (p ++ others) = append_assoc start p others in
    (rw cut (takes_passes _ (start ++ p) ls (plain_header s a others)), plain_some_bytes s a))
spells_read (container {type_byte = type_byte} {t = t} {links = ls} start front xs inner s o r) = λ others.
    (let cut : (start ++ (front ++ xs)) ++ others ≡ start ++ (front ++ (xs ++ others)) = simp append_assoc in
    let some : 0 < length front = opens_some o in
    (rw (cut, container_field_header s o others) (container_passes start front xs inner ls (spells_read r)), simp length-append (omega arith)))
spells_read (none {contents = c} m) = λ at links. rw append-nil (ended (header_end c m))
spells_read (more {contents = c} f fs ls ms e a b) = λ at links.
    (let r = spells_read a fs in
    let is : next_header c (f ++ fs) ≡ field_header c.type_byte (f ++ fs) = header_some c (f ++ fs) e (some_append f fs r.1) in
    let rest : Reads (fewer c) fs (at + length f) (links ++ ls) (Cut ((links ++ ls) ++ ms)) = spells_read b (at + length f) (links ++ ls) in
    let sum : (links ++ ls) ++ ms ≡ links ++ (ls ++ ms) = append_assoc links ls ms in
    go_on c f fs ls links at (Cut (links ++ (ls ++ ms))) (field_header c.type_byte (f ++ fs)) is r.0 (rw sum at rest))

pub has_header : {type_byte : Option ℕ} {f : List ℕ} {ls : List LinkOf} → Spells (Field type_byte) f ls → (others : List ℕ) → HasHeader type_byte (f ++ others)
has_header (plain start p s a) others = rw append_assoc (plain_field start p others s a)
has_header (container start front xs inner s o r) others =
    let cut : (start ++ (front ++ xs)) ++ others ≡ start ++ (front ++ (xs ++ others)) = simp append_assoc in
    rw cut (container_field start front xs others s o)

passes_not_bad : (h : Header) (f : List ℕ) (ls : List LinkOf) → Passes h f ls → h ≡ Bad → ⊥
passes_not_bad End f ls p e = p
passes_not_bad Bad f ls p e = p
passes_not_bad (Plain k) f ls p e = cc
passes_not_bad (Link kind k) f ls p e = cc
passes_not_bad (Container before size inner) f ls p e = cc

-- a header that is not refused stands there
found_stands : (h : Header) (c : Contents) (bs : List ℕ) → 0 < length bs → (HasHeader c.type_byte bs → ⊥) → HeaderFound h c bs → h ≡ Bad
found_stands End c bs some absent f = absurd (let none : length bs ≡ 0 = rw f.0 refl in omega arith)
found_stands Bad c bs some absent f = refl
found_stands (Plain k) c bs some absent f = absurd (absent (rw (take-append-drop k bs) at (has_header f.1.1 (drop k bs))))
found_stands (Link kind k) c bs some absent f = absurd (absent (rw (take-append-drop k bs) at (has_header f.1.2 (drop k bs))))
found_stands (Container before size inner) c bs some absent f =
    let o : OpensField c.type_byte (take before bs) (take size (drop before bs)) inner = f.1.1 in
    let h = container_field {type_byte = c.type_byte} o.start o.front (take size (drop before bs)) (drop (before + size) bs) o.starts o.opens in
    absurd (absent (rw (opened_whole c.type_byte bs before size inner o) at h))

pub fault_read : {c : Contents} {bs : List ℕ} {n : ℕ} → FirstFault c bs n → (at : ℕ) (links : List LinkOf) → Reads c bs at links (Fault (at + n))
fault_read (bad_header {contents = c} {bytes = bs} e some absent) at links =
    let same : at + 0 ≡ at = omega arith in
    rw same (broken (found_stands (next_header c bs) c bs some absent (header_found c bs)))
fault_read (inside {outer = c} {inner = inner} {t = t} {at = n} start front xs others e s o f) at links =
    let cut : start ++ (front ++ (xs ++ others)) ≡ (start ++ front) ++ (xs ++ others) = sym (append_assoc start front (xs ++ others)) in
    let some : 0 < length (start ++ (front ++ (xs ++ others))) = simp length-append (omega (arith, opens_some o)) in
    let is : next_header c (start ++ (front ++ (xs ++ others))) ≡ Container (length (start ++ front)) (length xs) inner =
    header_some c _ e some ∙ container_field_header s o others in
    let part : take (length xs) (drop (length (start ++ front)) (start ++ (front ++ (xs ++ others)))) ≡ xs = rw (cut, drop-append_seam, take-append_seam) refl in
    let place : at + (length start + (length front + n)) ≡ at + length (start ++ front) + n = rw length-append (omega arith) in
    rw place (broken_inside {at = at} {links = links} {place = at + length (start ++ front) + n} (length (start ++ front)) (length xs) inner is (rw part (fault_read f (at + length (start ++ front)) links)))
fault_read (further {contents = c} {at = n} f fs ls e a b) at links =
    let r = spells_read a fs in
    let is : next_header c (f ++ fs) ≡ field_header c.type_byte (f ++ fs) = header_some c (f ++ fs) e (some_append f fs r.1) in
    let place : at + (length f + n) ≡ at + length f + n = omega arith in
    rw place (go_on c f fs ls links at (Fault (at + length f + n)) (field_header c.type_byte (f ++ fs)) is r.0 (fault_read b (at + length f) (links ++ ls)))
fault_read (missing {contents = c} m) at links =
    let same : at + 0 ≡ at = omega arith in
    rw same (broken (header_missing c m))
fault_read (left_over {contents = c} {bytes = bs} e some) at links =
    let same : at + 0 ≡ at = omega arith in
    rw same (broken (header_left c bs e some))

-- the first fault lies in the bytes or at their end
pub fault_within : {c : Contents} {bs : List ℕ} {n : ℕ} → FirstFault c bs n → n ≤ length bs
fault_within (bad_header e some absent) = omega arith
fault_within (inside {at = n} start front xs others e s o f) =
    let within : n ≤ length xs = fault_within f in
    simp length-append (omega arith)
fault_within (further {at = n} f fs ls e a b) =
    let within : n ≤ length fs = fault_within b in
    rw length-append (omega arith)
fault_within (missing m) = omega arith
fault_within (left_over e some) = omega arith
