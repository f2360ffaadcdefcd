-- Every list of bytes is an object or has a first fault, not both, and in one way.
use Rattle.std.proofs.Common.{◌≤◌, ◌≡◌, ◌⊎◌, inl, inr, ℕ, zero, suc, ◌+◌, ◌<◌, Bool, true, false, List, [], ◌∷◌, ◌++◌, length, take, drop, refl, sym, ◌∙◌, arith, length-take, length-drop, length-append, Option, None}
use Rattle.std.proofs.lemmas.List.{append-nil}
use Rattle.cb_fields.specs.declared.links.Link.{Link as LinkOf}
use Rattle.cb_fields.specs.declared.header.Contents.{Contents}
use Rattle.cb_fields.specs.declared.header.Header.{Header}
use Rattle.cb_fields.specs.declared.header.Header.TheVariants.{End, Bad, Plain, Link, Container}
use Rattle.cb_fields.specs.Shape.{counted, may_end, is_full, fewer}
use Rattle.cb_fields.specs.inside.Header.{next_header}
use Rattle.cb_fields.specs.Language.{Field, Whole, Spells, none, more, starts_object, IsObject, IsNoObject, HasLinks}
use Rattle.cb_fields.specs.Fault.{FirstFault, FaultAt}
use Rattle.cb_fields.specs.inside.FieldWalk.{Outcome, Fault, Cut, Comes}
use Rattle.cb_fields.proofs.Front.{opens_some}
use Rattle.cb_fields.proofs.Found.{OpensField}
use Rattle.cb_fields.proofs.Steps.{HeaderFound, header_found, end_comes, bad_comes, plain_comes, link_comes, inner_fault_comes, within_comes}
use Rattle.cb_fields.proofs.Reading.{Reads, last_link, one_outcome}
use Rattle.cb_fields.proofs.Unique.{spells_read, fault_read, fault_within}

object_reads : (bs : List ℕ) (links : List LinkOf) → IsObject bs links → Reads (counted 1) bs 0 [] (Cut links)
object_reads bs links o =
    let whole : Spells (Whole (counted 1)) (bs ++ []) (links ++ []) = more {contents = counted 1} bs [] links [] refl o.field (none refl) in
    let r = spells_read whole 0 [] in
    rw (append-nil bs, append-nil links) at r

fault_reads : (bs : List ℕ) (at : ℕ) → starts_object bs ≡ true → FaultAt bs at → Reads (counted 1) bs 0 [] (Fault at)
fault_reads bs at s f =
    let g : FirstFault (counted 1) bs at = rw s at f in
    let z : 0 + at ≡ at = omega arith in
    rw z at (fault_read g 0 [])

nothing_more : {c : Contents} {xs : List ℕ} {ls : List LinkOf} → Spells (Whole c) xs ls → is_full c.count ≡ true → (xs ≡ []) × (ls ≡ [])
nothing_more (none m) e = (refl, refl)
nothing_more (more f fs ls ms n a b) e = cc

one_field : {c : Contents} {xs : List ℕ} {ls : List LinkOf} → Spells (Whole c) xs ls → c ≡ counted 1 → Spells (Field None) xs ls
one_field (none {contents = c} m) e = absurd (let bad : may_end (counted 1).count ≡ true = rw e at m in let no_end : may_end (counted 1).count ≡ false = refl in cc)
one_field (more {contents = c} f fs ls ms n a b) e =
    let full : is_full (fewer c).count ≡ true = rw e refl in
    let x = nothing_more b full in
    let field : Spells (Field None) f ls = rw e at a in
    rw (x.0, x.1, append-nil f, append-nil ls) field

pub comes_object : (bs : List ℕ) (links : List LinkOf) → starts_object bs ≡ true → Comes (counted 1) bs 0 [] (Cut links) → IsObject bs links
comes_object bs links s r = record { code = s; field = rw r.2 (one_field r.1 refl) }

pub comes_fault : (bs : List ℕ) (at : ℕ) → starts_object bs ≡ true → Comes (counted 1) bs 0 [] (Fault at) → FaultAt bs at
comes_fault bs at s r =
    let z : at ≡ r.0 = omega (arith, r.2) in
    rw (s, z) r.1

-- the first field's code alone refuses them
pub refused_fault : (bs : List ℕ) → starts_object bs ≡ false → FaultAt bs 0
refused_fault bs s = rw s refl

pub object_once : (bs : List ℕ) (links others : List LinkOf) → IsObject bs links → IsObject bs others → links ≡ others
object_once bs links others a b = (let e = one_outcome (object_reads bs links a) (Cut others) (object_reads bs others b) in cc)

pub fault_no_object : (bs : List ℕ) (at : ℕ) → FaultAt bs at → IsNoObject bs
fault_no_object bs at f links o = (let e = one_outcome (object_reads bs links o) (Fault at) (fault_reads bs at o.code f) in cc)

fault_flag : (bs : List ℕ) (at other : ℕ) (flag : Bool) → starts_object bs ≡ flag → FaultAt bs at → FaultAt bs other → at ≡ other
fault_flag bs at other true s a b = (let e = one_outcome (fault_reads bs at s a) (Fault other) (fault_reads bs other s b) in cc)
fault_flag bs at other false s a b = (let x : at ≡ 0 = rw s at a in let y : other ≡ 0 = rw s at b in x ∙ sym y)

pub fault_once : (bs : List ℕ) (at other : ℕ) → FaultAt bs at → FaultAt bs other → at ≡ other
fault_once bs at other a b = fault_flag bs at other (starts_object bs) refl a b

within_flag : (bs : List ℕ) (at : ℕ) (flag : Bool) → starts_object bs ≡ flag → FaultAt bs at → at ≤ length bs
within_flag bs at true s f = (let g : FirstFault (counted 1) bs at = rw s at f in fault_within g)
within_flag bs at false s f = (let x : at ≡ 0 = rw s at f in omega arith)

pub fault_in_bytes : (bs : List ℕ) (at : ℕ) → FaultAt bs at → at ≤ length bs
fault_in_bytes bs at f = within_flag bs at (starts_object bs) refl f

-- a field takes bytes
field_takes : {type_byte : Option ℕ} {f : List ℕ} {ls : List LinkOf} → Spells (Field type_byte) f ls → 0 < length f
field_takes s = (spells_read s []).1

-- an outcome of the bytes
abbrev Outcomes : Contents → List ℕ → ℕ → List LinkOf → Type 0
Outcomes c bs at links = (o : Outcome) × Comes c bs at links o

abbrev Shorter : ℕ → Type 0
Shorter fuel = (c : Contents) (bs : List ℕ) (at : ℕ) (links : List LinkOf) → length bs < fuel → Outcomes c bs at links

within_case : (fuel : ℕ) (c inner : Contents) (bs : List ℕ) (at before size : ℕ) (links : List LinkOf) → next_header c bs ≡ Container before size inner
    → length (drop (before + size) bs) < fuel → Shorter fuel → (mid : Outcome) → Comes inner (take size (drop before bs)) (at + before) links mid → Outcomes c bs at links
within_case fuel c inner bs at before size links is short ih (Fault place) r = (Fault place, inner_fault_comes c inner bs at before size place links is r)
within_case fuel c inner bs at before size links is short ih (Cut more_links) r =
    let next = ih (fewer c) (drop (before + size) bs) (at + (before + size)) more_links short in
    (next.0, within_comes c inner bs at before size links more_links next.0 is r next.1)

outcome_case : (fuel : ℕ) (h : Header) (c : Contents) (bs : List ℕ) (at : ℕ) (links : List LinkOf) → next_header c bs ≡ h → HeaderFound h c bs → length bs < suc fuel → Shorter fuel → Outcomes c bs at links
outcome_case fuel End c bs at links is f small ih = (Cut links, end_comes c bs at links is)
outcome_case fuel Bad c bs at links is f small ih = (Fault at, bad_comes c bs at links is)
outcome_case fuel (Plain k) c bs at links is f small ih =
    let some : 0 < length (take k bs) = field_takes f.1.1 in
    let short : length (drop k bs) < fuel = omega (arith, some, small, length-take k bs, length-drop k bs) in
    let r = ih (fewer c) (drop k bs) (at + k) links short in
    (r.0, plain_comes c bs at k links r.0 is r.1)
outcome_case fuel (Link kind k) c bs at links is f small ih =
    let some : 0 < length (take k bs) = field_takes f.1.2 in
    let short : length (drop k bs) < fuel = omega (arith, some, small, length-take k bs, length-drop k bs) in
    let r = ih (fewer c) (drop k bs) (at + k) (links ++ last_link kind k bs ∷ []) short in
    (r.0, link_comes c bs at k kind links r.0 is r.1)
outcome_case fuel (Container before size inner) c bs at links is f small ih =
    let o : OpensField c.type_byte (take before bs) (take size (drop before bs)) inner = f.1.1 in
    let some : 0 < length (take before bs) = rw (o.is, length-append) (omega (arith, opens_some o.opens)) in
    let short : length (take size (drop before bs)) < fuel = omega (arith, some, small, length-take before bs, length-take size (drop before bs), length-drop before bs) in
    let shorter : length (drop (before + size) bs) < fuel = omega (arith, some, small, length-take before bs, length-drop (before + size) bs) in
    let r = ih inner (take size (drop before bs)) (at + before) links short in
    within_case fuel c inner bs at before size links is shorter ih r.0 r.1

outcome : (fuel : ℕ) → Shorter fuel
outcome zero c bs at links small = absurd (omega arith)
outcome (suc fuel) c bs at links small = outcome_case fuel (next_header c bs) c bs at links refl (header_found c bs) small (outcome fuel)

-- an object, or a first fault
abbrev pub Decided : List ℕ → Type 0
Decided bs = ((links : List LinkOf) × IsObject bs links) ⊎ ((at : ℕ) × FaultAt bs at)

decided_by : (bs : List ℕ) → starts_object bs ≡ true → (o : Outcome) → Comes (counted 1) bs 0 [] o → Decided bs
decided_by bs s (Fault at) r = inr (at, comes_fault bs at s r)
decided_by bs s (Cut links) r = inl (links, comes_object bs links s r)

decided_flag : (bs : List ℕ) (flag : Bool) → starts_object bs ≡ flag → Decided bs
decided_flag bs true s = (let r = outcome (suc (length bs)) (counted 1) bs 0 [] (omega arith) in decided_by bs s r.0 r.1)
decided_flag bs false s = inr (0, refused_fault bs s)

pub decided : (bs : List ℕ) → Decided bs
decided bs = decided_flag bs (starts_object bs) refl

-- an object has its links
pub object_links : (bs : List ℕ) (links : List LinkOf) → IsObject bs links → HasLinks bs links
object_links bs links o = (λ others p. object_once bs links others o p, λ absent. absurd (absent links o))

pub fault_links : (bs : List ℕ) (at : ℕ) → FaultAt bs at → HasLinks bs []
fault_links bs at f = (λ links o. absurd (fault_no_object bs at f links o), λ absent. refl)

links_by : (bs : List ℕ) (rows others : List LinkOf) → HasLinks bs rows → HasLinks bs others → Decided bs → rows ≡ others
links_by bs rows others a b (inl o) = a.0 o.0 o.1 ∙ sym (b.0 o.0 o.1)
links_by bs rows others a b (inr f) = (let absent = fault_no_object bs f.0 f.1 in a.1 absent ∙ sym (b.1 absent))

pub links_once : (bs : List ℕ) (rows others : List LinkOf) → HasLinks bs rows → HasLinks bs others → rows ≡ others
links_once bs rows others a b = links_by bs rows others a b (decided bs)
