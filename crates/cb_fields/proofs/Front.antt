-- What is spelled at the front is what the header says.
use Rattle.std.proofs.Common.{◌≡◌, ◌⊎◌, inl, inr, ℕ, zero, suc, ◌+◌, ◌-◌, ◌%◌, ◌<◌, ◌≤◌, Bool, true, false, nat_lt, if◌then◌else◌, List, [], ◌∷◌, ◌++◌, length, take, drop, refl, sym, ◌∙◌, arith, append_assoc, length-append, zero-lt-suc, Option, Some, None, ◌==◌}
use Rattle.std.proofs.lemmas.List.{append-nil}
use Rattle.std.proofs.Math.Nat.{mod-eq_of_lt}
use borrow.Author.Tests.{ltb-true}
use Rattle.std.proofs.Math.Seq.{take-append_seam, drop-append_seam, drop-append-add}
use Rattle.std.proofs.lemmas.Bool.{le-ltb}
use Rattle.std.proofs.lemmas.Bool.Decides.{nat_tests}
use Rattle.cb_fields.specs.Varuint.{followers, marked, big_endian_from, varuint_at, IsVaruint}
use Rattle.cb_fields.specs.declared.links.Link.{Link as LinkOf}
use Rattle.cb_fields.specs.declared.shape.Shape.{Shape}
use Rattle.cb_fields.specs.declared.shape.Shape.TheVariants.{Fixed, Fields, UniformFields, Array, UniformArray}
use Rattle.cb_fields.specs.declared.header.Contents.{Contents}
use Rattle.cb_fields.specs.declared.header.Header.{Header}
use Rattle.cb_fields.specs.declared.header.Header.TheVariants.{End, Bad, Plain, Link, Container}
use Rattle.cb_fields.specs.Shape.{shape, is_allowed, is_void, any_fields, no_fields, counted, rests, may_end}
use Rattle.cb_fields.specs.inside.Header.{sized, begin, shifted, uniform_inside, inside, container_header, payload, name_by, name_length, rest_header, lasting, field_header}
use Rattle.cb_fields.specs.Language.{HasSize, IsFieldName, IsStart, typed, untyped, attached_link, IsPlain, fixed, attachment, number, sized as sized_bytes, Opens, fields, uniform, uniform_empty, array, uniform_array, uniform_array_empty}

pub varuint_read : (n : ℕ) (w others : List ℕ) → IsVaruint n w → varuint_at (w ++ others) ≡ Some (n, length w)
varuint_read n [] others h = absurd h
varuint_read n (b ∷ bs) others h =
    let front : take (followers b) (bs ++ others) ≡ bs = rw (sym h.0) (take-append_seam bs others) in
    let enough : followers b ≤ length (bs ++ others) = rw (length-append, sym h.0) (omega arith) in
    let no : nat_lt (length (bs ++ others)) (followers b) ≡ false = le-ltb _ _ enough in
    let count : 1 + followers b ≡ suc (length bs) = rw (sym h.0) (omega arith) in
    let value : big_endian_from (b - marked b) bs ≡ n = sym h.1 in
    rw (no, front, count, value) refl

pub varuint_some : (n : ℕ) (w : List ℕ) → IsVaruint n w → 0 < length w
varuint_some n [] h = absurd h
varuint_some n (b ∷ bs) h = zero-lt-suc (length bs)

-- a size and the bytes xs that it counts
size_read : (size xs others : List ℕ) → IsVaruint (length xs) size → sized (size ++ (xs ++ others)) ≡ Some (length size, length xs)
unfolding sized
size_read size xs others v =
    let found : varuint_at (size ++ (xs ++ others)) ≡ Some (length xs, length size) = varuint_read (length xs) size (xs ++ others) v in
    let enough : length xs ≤ length (size ++ (xs ++ others)) - length size = rw (length-append, length-append) (omega arith) in
    let no : nat_lt (length (size ++ (xs ++ others)) - length size) (length xs) ≡ false = le-ltb _ _ enough in
    rw (found, no) refl

sized_read : (xs p others : List ℕ) → (s : HasSize xs p) → sized (p ++ others) ≡ Some (length s.size, length xs)
sized_read xs p others s = rw (s.is, append_assoc) (size_read s.size xs others s.spells)

-- what stands at the front takes f and has the links
abbrev pub Takes : Header → List ℕ → List LinkOf → Type 0
Takes End f ls = ⊥
Takes Bad f ls = ⊥
Takes (Plain k) f ls = (k ≡ length f) × (ls ≡ [])
Takes (Link kind k) f ls = (k ≡ length f) × (20 ≤ k) × (ls ≡ attached_link kind (drop (k - 20) f) ∷ [])
Takes (Container before size contents) f ls = ⊥

shift_takes : (h : Header) (w p : List ℕ) (ls : List LinkOf) → Takes h p ls → Takes (shifted (length w) h) (w ++ p) ls
shift_takes End w p ls f = absurd f
shift_takes Bad w p ls f = absurd f
shift_takes (Plain k) w p ls f = (rw (length-append, f.0) refl, f.1)
shift_takes (Link kind k) w p ls f =
    let far : length w + k - 20 ≡ length w + (k - 20) = omega (arith, f.1) in
    (rw (length-append, f.0) refl, omega (arith, f.1), rw (far, drop-append-add) f.2)
shift_takes (Container before size contents) w p ls f = absurd f

begin_takes : (h : Header) (f : List ℕ) (ls : List LinkOf) → Takes h f ls → begin h ≡ length f
begin_takes End f ls t = absurd t
begin_takes Bad f ls t = absurd t
begin_takes (Plain k) f ls t = t.0
begin_takes (Link kind k) f ls t = t.0
begin_takes (Container before size contents) f ls t = absurd t

plain_payload : {f : Shape} {p : List ℕ} {ls : List LinkOf} → IsPlain f p ls → (others : List ℕ) → Takes (payload f (p ++ others)) p ls
unfolding payload
plain_payload (fixed {n = n} {p = p} e) others =
    let enough : n ≤ length (p ++ others) = rw length-append (omega arith) in
    let no : nat_lt (length (p ++ others)) n ≡ false = le-ltb _ _ enough in
    rw no (sym e, refl)
plain_payload (attachment {kind = kind} {p = p} e) others =
    let enough : 20 ≤ length (p ++ others) = rw length-append (omega arith) in
    let no : nat_lt (length (p ++ others)) 20 ≡ false = le-ltb _ _ enough in
    rw no (sym e, omega arith, refl)
plain_payload (number {p = p} n v) others = rw (varuint_read n p others v) (refl, refl)
plain_payload (sized_bytes {p = p} xs s) others =
    let l : length s.size + length xs ≡ length p = rw (s.is, length-append) refl in
    rw (sized_read xs p others s) (l, refl)

-- a plain payload has bytes, or its form has none
plain_some : {f : Shape} {p : List ℕ} {ls : List LinkOf} → IsPlain f p ls → (f ≡ Fixed 0) ⊎ (0 < length p)
plain_some (fixed {n = zero} {p = p} e) = inl refl
plain_some (fixed {n = suc n} {p = p} e) = inr (rw e (zero-lt-suc n))
plain_some (attachment e) = inr (omega arith)
plain_some (number {p = p} n v) = inr (varuint_some n p v)
plain_some (sized_bytes {p = p} xs s) =
    let some : 0 < length s.size = varuint_some (length xs) s.size s.spells in
    inr (rw (s.is, length-append) (omega arith))

container_payload : (f : Shape) (size xs others : List ℕ) → IsVaruint (length xs) size
    → container_header f (size ++ (xs ++ others)) (sized (size ++ (xs ++ others))) ≡ shifted (length size) (inside f xs)
container_payload f size xs others v =
    let part : take (length xs) (drop (length size) (size ++ (xs ++ others))) ≡ xs = rw (drop-append_seam, take-append_seam) refl in
    rw (size_read size xs others v, part) refl

fields_inside : (xs : List ℕ) → inside Fields xs ≡ Container 0 (length xs) any_fields
unfolding inside
fields_inside xs = refl

uniform_inside_is : (t : ℕ) (xs : List ℕ) (count : Option ℕ) → is_allowed t ≡ true → uniform_inside count (t ∷ xs) ≡ Container 1 (length xs) (rests t count)
unfolding uniform_inside
uniform_inside_is t xs count a = rw a refl

uniform_inside_none : (count : Option ℕ) → may_end count ≡ true → uniform_inside count [] ≡ Container 0 0 no_fields
unfolding uniform_inside
uniform_inside_none count m = rw m refl

uniform_fields_inside : (xs : List ℕ) → inside UniformFields xs ≡ uniform_inside None xs
unfolding inside
uniform_fields_inside xs = refl

array_inside : (n : ℕ) (count xs : List ℕ) → IsVaruint n count → inside Array (count ++ xs) ≡ Container (length count) (length xs) (counted n)
unfolding inside
array_inside n count xs v =
    let e : length (count ++ xs) - length count ≡ length xs = rw length-append (omega arith) in
    rw (varuint_read n count xs v, e) refl

uniform_array_inside : (n : ℕ) (count xs : List ℕ) → IsVaruint n count → inside UniformArray (count ++ xs) ≡ shifted (length count) (uniform_inside (Some n) xs)
unfolding inside
uniform_array_inside n count xs v = rw (varuint_read n count xs v, drop-append_seam count xs) refl

containers : (p : List ℕ) → (payload Fields p ≡ container_header Fields p (sized p)) × (payload UniformFields p ≡ container_header UniformFields p (sized p)) × (payload Array p ≡ container_header Array p (sized p)) × (payload UniformArray p ≡ container_header UniformArray p (sized p))
unfolding payload
containers p = (refl, refl, refl, refl)

container_is : (j k size : ℕ) (contents : Contents) → j ≡ k → Container j size contents ≡ Container k size contents
container_is j k size contents e = rw e refl

pub opens_payload : {f : Shape} {front xs : List ℕ} {contents : Contents} → Opens f front xs contents → (others : List ℕ)
    → payload f (front ++ (xs ++ others)) ≡ Container (length front) (length xs) contents
opens_payload (fields {xs = xs} size v) others =
    (containers (size ++ (xs ++ others))).0 ∙ container_payload Fields size xs others v ∙ rw (fields_inside xs) (container_is _ _ _ _ (omega arith))
opens_payload (uniform {xs = xs} size t v a) others =
    let cut : (size ++ t ∷ []) ++ (xs ++ others) ≡ size ++ ((t ∷ xs) ++ others) = append_assoc size (t ∷ []) (xs ++ others) in
    rw cut ((containers (size ++ ((t ∷ xs) ++ others))).1 ∙ container_payload UniformFields size (t ∷ xs) others v
    ∙ rw (uniform_fields_inside (t ∷ xs), uniform_inside_is t xs None a) (container_is _ _ _ _ (sym (length-append size (t ∷ [])))))
opens_payload (uniform_empty size v) others =
    (containers (size ++ ([] ++ others))).1 ∙ container_payload UniformFields size [] others v ∙ rw (uniform_fields_inside [], uniform_inside_none None refl) (container_is _ _ _ _ (omega arith))
opens_payload (array {xs = xs} size count n v w) others =
    let cut : (size ++ count) ++ (xs ++ others) ≡ size ++ ((count ++ xs) ++ others) = simp append_assoc in
    rw cut ((containers (size ++ ((count ++ xs) ++ others))).2 ∙ container_payload Array size (count ++ xs) others v
    ∙ rw (array_inside n count xs w) (container_is _ _ _ _ (sym (length-append size count))))
opens_payload (uniform_array {xs = xs} size count n t v w a) others =
    let cut : (size ++ (count ++ t ∷ [])) ++ (xs ++ others) ≡ size ++ ((count ++ t ∷ xs) ++ others) = simp append_assoc in
    let len : length size + (length count + 1) ≡ length (size ++ (count ++ t ∷ [])) = simp length-append (omega arith) in
    rw cut ((containers (size ++ ((count ++ t ∷ xs) ++ others))).3 ∙ container_payload UniformArray size (count ++ t ∷ xs) others v
    ∙ rw (uniform_array_inside n count (t ∷ xs) w, uniform_inside_is t xs (Some n) a) (container_is _ _ _ _ len))
opens_payload (uniform_array_empty size count v w) others =
    let cut : (size ++ count) ++ ([] ++ others) ≡ size ++ ((count ++ []) ++ others) = rw append-nil (append_assoc size count others) in
    let has : IsVaruint (length (count ++ [])) size = rw append-nil v in
    let len : length size + (length count + 0) ≡ length (size ++ count) = rw length-append (omega arith) in
    rw cut ((containers (size ++ ((count ++ []) ++ others))).3 ∙ container_payload UniformArray size (count ++ []) others has
    ∙ rw (uniform_array_inside 0 count [] w, uniform_inside_none (Some 0) refl) (container_is _ _ _ _ len))

pub opens_some : {f : Shape} {front xs : List ℕ} {contents : Contents} → Opens f front xs contents → 0 < length front
opens_some (fields {xs = xs} size v) = varuint_some (length xs) size v
opens_some (uniform {xs = xs} size t v a) = rw length-append (omega (arith, varuint_some (length (t ∷ xs)) size v))
opens_some (uniform_empty size v) = varuint_some 0 size v
opens_some (array {xs = xs} size count n v w) = rw length-append (omega (arith, varuint_some (length (count ++ xs)) size v))
opens_some (uniform_array {xs = xs} size count n t v w a) = rw length-append (omega (arith, varuint_some (length (count ++ t ∷ xs)) size v))
opens_some (uniform_array_empty size count v w) = rw length-append (omega (arith, varuint_some (length count) size v))

name_flag : (flag : Bool) (name others : List ℕ) → IsFieldName flag name → (if flag then Some 0 else name_by (sized (name ++ others))) ≡ Some (length name)
name_flag true name others h = rw h refl
name_flag false name others h = rw (sized_read h.0 name others h.1, h.1.is, length-append) refl

name_read : (t : ℕ) (name others : List ℕ) → IsFieldName (nat_lt t 0x80) name → name_length t (name ++ others) ≡ Some (length name)
unfolding name_length
name_read t name others h = name_flag (nat_lt t 0x80) name others h

rest_read : (t : ℕ) (name others : List ℕ) → IsFieldName (nat_lt t 0x80) name → rest_header t (name ++ others) ≡ shifted (length name) (payload (shape (t % 0x80)) others)
unfolding rest_header
rest_read t name others h = rw (name_read t name others h, drop-append_seam name others) refl

void_form : (t : ℕ) → shape t ≡ Fixed 0 → is_void t ≡ true
unfolding shape
void_form t h = grind (arith, nat_tests)

-- a field of a uniform container has bytes
untyped_some : (t : ℕ) (flag : Bool) (name p : List ℕ) → nat_lt t 0x80 ≡ flag → IsFieldName flag name → is_void t ≡ false → (shape (t % 0x80) ≡ Fixed 0) ⊎ (0 < length p) → 0 < length (name ++ p)
untyped_some t flag name p e n solid (inr pos) = rw length-append (omega arith)
untyped_some t true name p e n solid (inl s) =
    let small : t < 0x80 = ltb-true t 0x80 e in
    let same : t % 0x80 ≡ t = mod-eq_of_lt small in
    let void : is_void t ≡ true = void_form t (rw same at s) in
    cc
untyped_some t false name p e n solid (inl s) =
    let some : 0 < length n.1.size = varuint_some _ _ n.1.spells in
    rw (length-append, n.1.is, length-append) (omega arith)

keeps : (h : Header) → 0 < begin h → lasting h ≡ h
unfolding lasting
keeps h p = (let e : (begin h == 0) ≡ false = grind (arith, nat_tests) in rw e refl)

pub plain_some_bytes : {type_byte : Option ℕ} {t : ℕ} {start p : List ℕ} {ls : List LinkOf} → IsStart type_byte t start → IsPlain (shape (t % 0x80)) p ls → 0 < length (start ++ p)
plain_some_bytes {p = p} (typed {t = t} name n) a = zero-lt-suc (length (name ++ p))
plain_some_bytes {p = p} (untyped {t = t} name solid n) a = untyped_some t (nat_lt t 0x80) name p refl n solid (plain_some a)

pub plain_header : {type_byte : Option ℕ} {t : ℕ} {start p : List ℕ} {ls : List LinkOf} → IsStart type_byte t start → IsPlain (shape (t % 0x80)) p ls → (others : List ℕ)
    → Takes (field_header type_byte (start ++ (p ++ others))) (start ++ p) ls
plain_header {p = p} {ls = ls} (typed {t = t} name n) a others =
    let h : Header = payload (shape (t % 0x80)) (p ++ others) in
    let s = shift_takes h name p ls (plain_payload a others) in
    rw (rest_read t name (p ++ others) n) (shift_takes (shifted (length name) h) (t ∷ []) (name ++ p) ls s)
plain_header {p = p} {ls = ls} (untyped {t = t} name solid n) a others =
    let h : Header = payload (shape (t % 0x80)) (p ++ others) in
    let s = shift_takes h name p ls (plain_payload a others) in
    let some : 0 < length (name ++ p) = untyped_some t (nat_lt t 0x80) name p refl n solid (plain_some a) in
    let pos : 0 < begin (shifted (length name) h) = rw (begin_takes (shifted (length name) h) (name ++ p) ls s) some in
    rw (rest_read t name (p ++ others) n, keeps (shifted (length name) h) pos) s

pub container_field_header : {type_byte : Option ℕ} {t : ℕ} {start front xs : List ℕ} {contents : Contents} → IsStart type_byte t start → Opens (shape (t % 0x80)) front xs contents
    → (others : List ℕ) → field_header type_byte (start ++ (front ++ (xs ++ others))) ≡ Container (length (start ++ front)) (length xs) contents
container_field_header {front = front} {xs = xs} {contents = contents} (typed {t = t} name n) o others =
    let len : 1 + (length name + length front) ≡ length ((t ∷ name) ++ front) = rw length-append (omega arith) in
    rw (rest_read t name (front ++ (xs ++ others)) n, opens_payload o others) (container_is _ _ _ _ len)
container_field_header {front = front} {xs = xs} {contents = contents} (untyped {t = t} name solid n) o others =
    let some : 0 < length front = opens_some o in
    let pos : 0 < length name + length front = omega arith in
    rw (rest_read t name (front ++ (xs ++ others)) n, opens_payload o others, keeps (Container (length name + length front) (length xs) contents) pos) (container_is _ _ _ _ (sym (length-append name front)))
