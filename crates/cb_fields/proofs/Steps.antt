-- What comes of some bytes, by the header that stands at their front.
use Rattle.std.proofs.Common.{◌≡◌, ◌==◌, ℕ, ◌+◌, ◌-◌, ◌<◌, ◌≤◌, Bool, true, false, if◌then◌else◌, List, [], ◌∷◌, ◌++◌, length, take, drop, refl, sym, ◌∙◌, arith, append_assoc, length-append, length-take, zero-lt-suc, Option, Some, None}
use Rattle.std.proofs.lemmas.List.{append-nil, take-append-drop, drop-drop}
use Rattle.std.proofs.Math.Seq.{take-add}
use Rattle.cb_fields.specs.declared.links.LinkKind.{LinkKind}
use Rattle.cb_fields.specs.declared.links.Link.{Link as LinkOf}
use Rattle.cb_fields.specs.declared.header.Contents.{Contents}
use Rattle.cb_fields.specs.declared.header.Header.{Header}
use Rattle.cb_fields.specs.declared.header.Header.TheVariants.{End, Bad, Plain, Link, Container}
use Rattle.cb_fields.specs.Shape.{may_end, is_full, fewer}
use Rattle.cb_fields.specs.inside.Header.{shifted, rest_by, name_length, rest_header, begin, lasting, field_header, next_header}
use Rattle.cb_fields.specs.Language.{attached_link, Field, Whole, Spells, container, none, more}
use Rattle.cb_fields.specs.Fault.{FirstFault, bad_header, inside, further, missing, left_over}
use Rattle.cb_fields.specs.inside.FieldWalk.{Outcome, Fault, Cut, Comes}
use Rattle.cb_fields.proofs.Found.{FieldFound, OpensField, field_found, no_header}

shifted_never : (k : ℕ) (h : Header) → shifted k h ≡ End → ⊥
shifted_never k End e = cc
shifted_never k Bad e = cc
shifted_never k (Plain n) e = cc
shifted_never k (Link kind n) e = cc
shifted_never k (Container before size contents) e = cc

rest_by_never : (t : ℕ) (bs : List ℕ) (name : Option ℕ) → rest_by t bs name ≡ End → ⊥
rest_by_never t bs None e = cc
rest_by_never t bs (Some k) e = shifted_never k _ e

rest_never : (t : ℕ) (bs : List ℕ) → rest_header t bs ≡ End → ⊥
unfolding rest_header
rest_never t bs e = rest_by_never t bs (name_length t bs) e

flag_never : (flag : Bool) (h : Header) → (h ≡ End → ⊥) → (if flag then Bad else h) ≡ End → ⊥
flag_never true h f e = cc
flag_never false h f e = f e

lasting_never : (h : Header) → (h ≡ End → ⊥) → lasting h ≡ End → ⊥
unfolding lasting
lasting_never h f e = flag_never (begin h == 0) h f e

field_never : (type_byte : Option ℕ) (bs : List ℕ) → field_header type_byte bs ≡ End → ⊥
field_never None [] e = cc
field_never None (t ∷ bs) e = shifted_never 1 (rest_header t bs) e
field_never (Some t) bs e = lasting_never (rest_header t bs) (rest_never t bs) e

-- what the header says of the bytes
abbrev pub HeaderFound : Header → Contents → List ℕ → Type 0
HeaderFound End c bs = (bs ≡ []) × (may_end c.count ≡ true)
HeaderFound Bad c bs = FirstFault c bs 0
HeaderFound (Plain k) c bs = (is_full c.count ≡ false) × FieldFound (Plain k) c.type_byte bs
HeaderFound (Link kind k) c bs = (is_full c.count ≡ false) × FieldFound (Link kind k) c.type_byte bs
HeaderFound (Container before size inner) c bs = (is_full c.count ≡ false) × FieldFound (Container before size inner) c.type_byte bs

field_case : (h : Header) (c : Contents) (bs : List ℕ) → field_header c.type_byte bs ≡ h → is_full c.count ≡ false → 0 < length bs → FieldFound h c.type_byte bs → HeaderFound h c bs
field_case End c bs is e some f = absurd (field_never c.type_byte bs is)
field_case Bad c bs is e some f = bad_header e some (λ stands. no_header stands is)
field_case (Plain k) c bs is e some f = (e, f)
field_case (Link kind k) c bs is e some f = (e, f)
field_case (Container before size inner) c bs is e some f = (e, f)

empty_case : (c : Contents) (flag : Bool) → may_end c.count ≡ flag → HeaderFound (if flag then End else Bad) c []
empty_case c true e = (refl, e)
empty_case c false e = missing e

full_case : (c : Contents) (bs : List ℕ) (flag : Bool) → is_full c.count ≡ flag → 0 < length bs → HeaderFound (if flag then Bad else field_header c.type_byte bs) c bs
full_case c bs true e some = left_over e some
full_case c bs false e some = field_case (field_header c.type_byte bs) c bs refl e some (field_found c.type_byte bs)

pub header_found : (c : Contents) (bs : List ℕ) → HeaderFound (next_header c bs) c bs
unfolding next_header
header_found c [] = empty_case c (may_end c.count) refl
header_found c (b ∷ bs) = full_case c (b ∷ bs) (is_full c.count) refl (zero-lt-suc (length bs))

pub end_comes : (c : Contents) (bs : List ℕ) (at : ℕ) (links : List LinkOf) → next_header c bs ≡ End → Comes c bs at links (Cut links)
end_comes c bs at links is =
    let f : HeaderFound End c bs = rw is at (header_found c bs) in
    ([], rw f.0 (none f.1), sym (append-nil links))

pub bad_comes : (c : Contents) (bs : List ℕ) (at : ℕ) (links : List LinkOf) → next_header c bs ≡ Bad → Comes c bs at links (Fault at)
bad_comes c bs at links is =
    let f : HeaderFound Bad c bs = rw is at (header_found c bs) in
    (0, f, omega arith)

-- after one field of n bytes with the links ls
field_comes : (c : Contents) (bs : List ℕ) (at n : ℕ) (links ls : List LinkOf) (o : Outcome) → is_full c.count ≡ false → n ≤ length bs → Spells (Field c.type_byte) (take n bs) ls
    → Comes (fewer c) (drop n bs) (at + n) (links ++ ls) o → Comes c bs at links o
field_comes c bs at n links ls (Fault place) e within s r =
    let cut : take n bs ++ drop n bs ≡ bs = take-append-drop n bs in
    let len : length (take n bs) ≡ n = rw length-take (omega arith) in
    let f : FirstFault c (take n bs ++ drop n bs) (length (take n bs) + r.0) = further (take n bs) (drop n bs) ls e s r.1 in
    let g : FirstFault c bs (n + r.0) = rw (cut, len) at f in
    (n + r.0, g, omega (arith, r.2))
field_comes c bs at n links ls (Cut all) e within s r =
    let cut : take n bs ++ drop n bs ≡ bs = take-append-drop n bs in
    let m : Spells (Whole c) (take n bs ++ drop n bs) (ls ++ r.0) = more (take n bs) (drop n bs) ls r.0 e s r.1 in
    (ls ++ r.0, rw cut at m, r.2 ∙ append_assoc links ls r.0)

pub plain_comes : (c : Contents) (bs : List ℕ) (at n : ℕ) (links : List LinkOf) (o : Outcome) → next_header c bs ≡ Plain n → Comes (fewer c) (drop n bs) (at + n) links o → Comes c bs at links o
plain_comes c bs at n links o is r =
    let f : HeaderFound (Plain n) c bs = rw is at (header_found c bs) in
    let same : links ++ [] ≡ links = append-nil links in
    field_comes c bs at n links [] o f.0 f.1.0 f.1.1 (rw same r)

pub link_comes : (c : Contents) (bs : List ℕ) (at n : ℕ) (kind : LinkKind) (links : List LinkOf) (o : Outcome) → next_header c bs ≡ Link kind n
    → Comes (fewer c) (drop n bs) (at + n) (links ++ attached_link kind (drop (n - 20) (take n bs)) ∷ []) o → Comes c bs at links o
link_comes c bs at n kind links o is r =
    let f : HeaderFound (Link kind n) c bs = rw is at (header_found c bs) in
    field_comes c bs at n links (attached_link kind (drop (n - 20) (take n bs)) ∷ []) o f.0 f.1.1 f.1.2 r

-- a container's field and what follows it are all the bytes
pub opened_whole : (type_byte : Option ℕ) (bs : List ℕ) (before size : ℕ) (inner : Contents) → (o : OpensField type_byte (take before bs) (take size (drop before bs)) inner)
    → o.start ++ (o.front ++ (take size (drop before bs) ++ drop (before + size) bs)) ≡ bs
opened_whole type_byte bs before size inner o =
    let a : o.start ++ (o.front ++ (take size (drop before bs) ++ drop (before + size) bs)) ≡ (o.start ++ o.front) ++ (take size (drop before bs) ++ drop (before + size) bs) = sym (append_assoc o.start o.front _) in
    let b : take size (drop before bs) ++ drop (before + size) bs ≡ drop before bs = rw (sym (drop-drop size before bs)) (take-append-drop size (drop before bs)) in
    a ∙ rw (sym o.is, b) (take-append-drop before bs)

pub inner_fault_comes : (c inner : Contents) (bs : List ℕ) (at before size place : ℕ) (links : List LinkOf) → next_header c bs ≡ Container before size inner
    → Comes inner (take size (drop before bs)) (at + before) links (Fault place) → Comes c bs at links (Fault place)
inner_fault_comes c inner bs at before size place links is r =
    let f : HeaderFound (Container before size inner) c bs = rw is at (header_found c bs) in
    let within : before + size ≤ length bs = f.1.0 in
    let o : OpensField c.type_byte (take before bs) (take size (drop before bs)) inner = f.1.1 in
    let cut : o.start ++ (o.front ++ (take size (drop before bs) ++ drop (before + size) bs)) ≡ bs = opened_whole c.type_byte bs before size inner o in
    let len : length (o.start ++ o.front) ≡ before = rw (sym o.is, length-take) (omega arith) in
    let sum : length o.start + length o.front ≡ before = sym (length-append o.start o.front) ∙ len in
    let g = inside {outer = c} o.start o.front (take size (drop before bs)) (drop (before + size) bs) f.0 o.starts o.opens r.1 in
    let h : FirstFault c bs (length o.start + (length o.front + r.0)) = rw cut at g in
    (length o.start + (length o.front + r.0), h, omega (arith, r.2, sum))

pub within_comes : (c inner : Contents) (bs : List ℕ) (at before size : ℕ) (links more_links : List LinkOf) (o : Outcome) → next_header c bs ≡ Container before size inner
    → Comes inner (take size (drop before bs)) (at + before) links (Cut more_links) → Comes (fewer c) (drop (before + size) bs) (at + (before + size)) more_links o → Comes c bs at links o
within_comes c inner bs at before size links more_links o is r next =
    let f : HeaderFound (Container before size inner) c bs = rw is at (header_found c bs) in
    let q : OpensField c.type_byte (take before bs) (take size (drop before bs)) inner = f.1.1 in
    let cut : q.start ++ (q.front ++ take size (drop before bs)) ≡ take (before + size) bs =
    sym (append_assoc q.start q.front _) ∙ rw (sym q.is) (sym (take-add before size bs)) in
    let s : Spells (Field c.type_byte) (q.start ++ (q.front ++ take size (drop before bs))) r.0 = container q.start q.front (take size (drop before bs)) inner q.starts q.opens r.1 in
    let t : Spells (Field c.type_byte) (take (before + size) bs) r.0 = rw cut at s in
    field_comes c bs at (before + size) links r.0 o f.0 f.1.0 t (rw (sym r.2) next)
