-- What the header says is spelled at the front.
use Rattle.std.proofs.Common.{◌≡◌, ℕ, suc, ◌+◌, ◌-◌, ◌%◌, ◌≤◌, Bool, true, false, nat_lt, if◌then◌else◌, List, [], ◌∷◌, ◌++◌, length, take, drop, refl, sym, subst, ◌∙◌, arith, length-append, length-drop, length-take, add-one, Option, Some, None, ◌==◌}
use Rattle.std.proofs.lemmas.List.{append-nil, take_all, take-append-drop, drop-take, drop-drop, take-take}
use Rattle.std.proofs.Math.Seq.{take-append-add, drop-append-add, take-add}
use Rattle.std.proofs.lemmas.Bool.{ltb-false, eqb-true, le-ltb}
use Rattle.std.proofs.lemmas.Bool.Decides.{nat_tests}
use Rattle.cb_fields.specs.Varuint.{followers, marked, big_endian_from, varuint_at, IsVaruint}
use Rattle.cb_fields.specs.declared.links.LinkKind.{LinkKind}
use Rattle.cb_fields.specs.declared.links.Link.{Link as LinkOf}
use Rattle.cb_fields.specs.declared.shape.Shape.{Shape}
use Rattle.cb_fields.specs.declared.shape.Shape.TheVariants.{Refused, Fixed, Attachment, Number, Sized, Fields, UniformFields, Array, UniformArray}
use Rattle.cb_fields.specs.declared.header.Contents.{Contents}
use Rattle.cb_fields.specs.declared.header.Header.{Header}
use Rattle.cb_fields.specs.declared.header.Header.TheVariants.{End, Bad, Plain, Link, Container}
use Rattle.cb_fields.specs.Shape.{shape, is_allowed, is_void, no_fields, rests}
use Rattle.cb_fields.specs.inside.Header.{sized, sized_by, begin, shifted, uniform_inside, counted_by, uniform_counted_by, inside, number_header, sized_header, container_header, payload, name_by, name_length, rest_by, rest_header, lasting, field_header}
use Rattle.cb_fields.specs.Language.{HasSize, IsFieldName, IsStart, typed, untyped, attached_link, IsPlain, fixed, attachment, number, sized as sized_bytes, Opens, fields, uniform, uniform_empty, array, uniform_array, uniform_array_empty, Field, Spells, plain}
use Rattle.cb_fields.specs.Fault.{HasHeader, plain_field, container_field}
use Rattle.cb_fields.proofs.Front.{Takes, plain_header, container_field_header}

varuint_tail : (b : ℕ) (bs : List ℕ) (found : ℕ × ℕ) (short : Bool) → nat_lt (length bs) (followers b) ≡ short
    → (if short then None else Some (big_endian_from (b - marked b) (take (followers b) bs), 1 + followers b)) ≡ Some found
    → (found.1 ≤ length (b ∷ bs)) × IsVaruint found.0 (take found.1 (b ∷ bs))
varuint_tail b bs found true e h = cc
varuint_tail b bs found false e h =
    let enough : followers b ≤ length bs = ltb-false _ _ e in
    let pair : (big_endian_from (b - marked b) (take (followers b) bs), 1 + followers b) ≡ found = cc in
    let P : ℕ × ℕ → Type 0 = λ f. (f.1 ≤ length (b ∷ bs)) × IsVaruint f.0 (take f.1 (b ∷ bs)) in
    let one : 1 + followers b ≡ suc (followers b) = omega arith in
    let len : length (take (followers b) bs) ≡ followers b = rw length-take (omega arith) in
    let size : 1 + followers b ≤ suc (length bs) = omega arith in
    let spells : IsVaruint (big_endian_from (b - marked b) (take (followers b) bs)) (take (1 + followers b) (b ∷ bs)) = rw one (len, refl) in
    subst P pair (size, spells)

pub varuint_found : (bs : List ℕ) (found : ℕ × ℕ) → varuint_at bs ≡ Some found → (found.1 ≤ length bs) × IsVaruint found.0 (take found.1 bs)
varuint_found [] found h = cc
varuint_found (b ∷ bs) found h = varuint_tail b bs found (nat_lt (length bs) (followers b)) refl h

-- the size at the front and the bytes that it counts
abbrev SizedFound : List ℕ → ℕ × ℕ → Type 0
SizedFound bs s = (s.0 + s.1 ≤ length bs) × IsVaruint (length (take s.1 (drop s.0 bs))) (take s.0 bs)

sized_both : (bs : List ℕ) (s found : ℕ × ℕ) (short : Bool) → varuint_at bs ≡ Some found → nat_lt (length bs - found.1) found.0 ≡ short
    → (if short then None else Some (found.1, found.0)) ≡ Some s → SizedFound bs s
sized_both bs s found true v e h = cc
sized_both bs s found false v e h =
    let enough : found.0 ≤ length bs - found.1 = ltb-false _ _ e in
    let w = varuint_found bs found v in
    let inside : found.1 ≤ length bs = w.0 in
    let pair : (found.1, found.0) ≡ s = cc in
    let P : ℕ × ℕ → Type 0 = λ t. (t.0 + t.1 ≤ length bs) × IsVaruint (length (take t.1 (drop t.0 bs))) (take t.0 bs) in
    let len : length (take found.0 (drop found.1 bs)) ≡ found.0 = rw (length-take, length-drop) (omega arith) in
    let all : found.1 + found.0 ≤ length bs = omega arith in
    let spells : IsVaruint (length (take found.0 (drop found.1 bs))) (take found.1 bs) = rw len w.1 in
    subst P pair (all, spells)

sized_tail : (bs : List ℕ) (s : ℕ × ℕ) (found : Option (ℕ × ℕ)) → varuint_at bs ≡ found → sized_by bs found ≡ Some s → SizedFound bs s
sized_tail bs s None v h = cc
sized_tail bs s (Some found) v h = sized_both bs s found (nat_lt (length bs - found.1) found.0) v refl h

sized_found : (bs : List ℕ) (s : ℕ × ℕ) → sized bs ≡ Some s → SizedFound bs s
unfolding sized
sized_found bs s h = sized_tail bs s (varuint_at bs) refl h

has_size : (bs : List ℕ) (s : ℕ × ℕ) → SizedFound bs s → HasSize (take s.1 (drop s.0 bs)) (take (s.0 + s.1) bs)
has_size bs s f = record { size = take s.0 bs; spells = f.1; is = take-add s.0 s.1 bs }

-- what the header of a payload says of the bytes
abbrev PayloadFound : Header → Shape → List ℕ → Type 0
PayloadFound End f bs = Unit {0}
PayloadFound Bad f bs = Unit {0}
PayloadFound (Plain k) f bs = (k ≤ length bs) × IsPlain f (take k bs) []
PayloadFound (Link kind k) f bs = (k ≡ 20) × (k ≤ length bs) × IsPlain f (take k bs) (attached_link kind (take k bs) ∷ [])
PayloadFound (Container before size contents) f bs = (before + size ≤ length bs) × Opens f (take before bs) (take size (drop before bs)) contents

fixed_flag : (n : ℕ) (bs : List ℕ) (short : Bool) → nat_lt (length bs) n ≡ short → PayloadFound (if short then Bad else Plain n) (Fixed n) bs
fixed_flag n bs true e = tt
fixed_flag n bs false e =
    let enough : n ≤ length bs = ltb-false _ _ e in
    let len : length (take n bs) ≡ n = rw length-take (omega arith) in
    (enough, fixed len)

attachment_flag : (kind : LinkKind) (bs : List ℕ) (short : Bool) → nat_lt (length bs) 20 ≡ short → PayloadFound (if short then Bad else Link kind 20) (Attachment kind) bs
attachment_flag kind bs true e = tt
attachment_flag kind bs false e =
    let enough : 20 ≤ length bs = ltb-false _ _ e in
    let len : length (take 20 bs) ≡ 20 = rw length-take (omega arith) in
    (refl, enough, attachment len)

number_tail : (bs : List ℕ) (found : Option (ℕ × ℕ)) → varuint_at bs ≡ found → PayloadFound (number_header found) Number bs
number_tail bs None e = tt
number_tail bs (Some found) e =
    let w = varuint_found bs found e in
    (w.0, number found.0 w.1)

sized_bytes_tail : (bs : List ℕ) (s : Option (ℕ × ℕ)) → sized bs ≡ s → PayloadFound (sized_header s) Sized bs
sized_bytes_tail bs None e = tt
sized_bytes_tail bs (Some s) e =
    let w = sized_found bs s e in
    (w.0, sized_bytes (take s.1 (drop s.0 bs)) (has_size bs s w))

-- what the header of the bytes xs that a size counts says of them
abbrev InsideFound : Shape → Header → List ℕ → Type 0
InsideFound f End xs = Unit {0}
InsideFound f Bad xs = Unit {0}
InsideFound f (Plain k) xs = ⊥
InsideFound f (Link kind k) xs = ⊥
InsideFound f (Container before size contents) xs =
    (before + size ≡ length xs) × ((p : List ℕ) → IsVaruint (length xs) p → Opens f (p ++ take before xs) (take size (drop before xs)) contents)

container_part : (f : Shape) (bs : List ℕ) (k n : ℕ) (h : Header) → SizedFound bs (k, n) → InsideFound f h (take n (drop k bs)) → PayloadFound (shifted k h) f bs
container_part f bs k n End s i = tt
container_part f bs k n Bad s i = tt
container_part f bs k n (Plain j) s i = absurd i
container_part f bs k n (Link kind j) s i = absurd i
container_part f bs k n (Container before size contents) s i =
    let len : length (take n (drop k bs)) ≡ n = rw (length-take, length-drop) (omega (arith, s.0)) in
    let whole : n ≡ before + size = sym len ∙ sym i.0 in
    let self : size ≤ size = omega arith in
    let short : before ≤ before + size = omega arith in
    let front : take k bs ++ take before (take n (drop k bs)) ≡ take (k + before) bs = rw (whole, take-take) (sym (take-add k before bs)) in
    let part : take size (drop before (take n (drop k bs))) ≡ take size (drop (k + before) bs) = rw (whole, drop-take, take-take, drop-drop) refl in
    let o : Opens f (take k bs ++ take before (take n (drop k bs))) (take size (drop before (take n (drop k bs)))) contents = i.1 (take k bs) s.1 in
    (omega (arith, s.0), rw (front, part) at o)

container_found : (f : Shape) (bs : List ℕ) (s : Option (ℕ × ℕ)) → sized bs ≡ s → ((xs : List ℕ) → InsideFound f (inside f xs) xs) → PayloadFound (container_header f bs s) f bs
container_found f bs None e i = tt
container_found f bs (Some s) e i = container_part f bs s.0 s.1 (inside f (take s.1 (drop s.0 bs))) (sized_found bs s e) (i (take s.1 (drop s.0 bs)))

fields_found : (xs : List ℕ) → InsideFound Fields (inside Fields xs) xs
unfolding inside
fields_found xs = (omega arith, λ p v. (let e : take (length xs) (drop 0 xs) ≡ xs = take_all (length xs) xs (omega arith) in rw (e, append-nil) (fields p v)))

uniform_flag : (t : ℕ) (ys : List ℕ) (flag : Bool) → is_allowed t ≡ flag → InsideFound UniformFields (if flag then Container 1 (length ys) (rests t None) else Bad) (t ∷ ys)
uniform_flag t ys false e = tt
uniform_flag t ys true e = (
  omega (arith, add-one (length ys)),
  λ p v. (let whole : take (length ys) (drop 1 (t ∷ ys)) ≡ ys = take_all (length ys) ys (omega arith) in rw whole (uniform p t v e)),
)

uniform_found : (xs : List ℕ) → InsideFound UniformFields (inside UniformFields xs) xs
unfolding inside uniform_inside
uniform_found [] = (refl, λ p v. rw append-nil (uniform_empty p v))
uniform_found (t ∷ ys) = uniform_flag t ys (is_allowed t) refl

array_tail : (xs : List ℕ) (found : Option (ℕ × ℕ)) → varuint_at xs ≡ found → InsideFound Array (counted_by xs found) xs
array_tail xs None e = tt
array_tail xs (Some c) e =
    let w = varuint_found xs c e in
    let within : c.1 ≤ length xs = w.0 in (
      omega arith,
      λ p v.
          (let whole : take (length xs - c.1) (drop c.1 xs) ≡ drop c.1 xs = take_all (length xs - c.1) (drop c.1 xs) (rw length-drop (omega arith)) in
          let cut : take c.1 xs ++ drop c.1 xs ≡ xs = take-append-drop c.1 xs in
          rw whole (array {xs = drop c.1 xs} p (take c.1 xs) c.0 (rw cut v) w.1)),
    )

array_found : (xs : List ℕ) → InsideFound Array (inside Array xs) xs
unfolding inside
array_found xs = array_tail xs (varuint_at xs) refl

-- the inside of a uniform array: its count w, and ys
uniform_array_flag : (c t : ℕ) (w ys : List ℕ) (flag : Bool) → IsVaruint c w → is_allowed t ≡ flag
    → InsideFound UniformArray (shifted (length w) (if flag then Container 1 (length ys) (rests t (Some c)) else Bad)) (w ++ t ∷ ys)
uniform_array_flag c t w ys false v e = tt
uniform_array_flag c t w ys true v e = (
  rw length-append (omega (arith, add-one (length ys))),
  λ p s.
      (let whole : take (length ys) (drop (length w + 1) (w ++ t ∷ ys)) ≡ ys = rw drop-append-add (take_all (length ys) ys (omega arith)) in
      let front : take (length w + 1) (w ++ t ∷ ys) ≡ w ++ t ∷ [] = take-append-add w (t ∷ ys) 1 in
      rw (whole, front) (uniform_array p w c t s v e)),
)

uniform_array_end : (c : ℕ) (w : List ℕ) (flag : Bool) → IsVaruint c w → (c == 0) ≡ flag
    → InsideFound UniformArray (shifted (length w) (if flag then Container 0 0 no_fields else Bad)) (w ++ [])
uniform_array_end c w false v e = tt
uniform_array_end c w true v e = (
  rw append-nil (omega arith),
  λ p s.
      (let zero_is : c ≡ 0 = eqb-true c 0 e in
      let front : take (length w + 0) (w ++ []) ≡ w = rw append-nil (take_all (length w + 0) w (omega arith)) in
      let v0 : IsVaruint 0 w = rw (sym zero_is) v in
      let has : IsVaruint (length w) p = rw append-nil at s in
      rw front (uniform_array_empty p w has v0)),
)

uniform_array_rest : (c : ℕ) (w ys : List ℕ) → IsVaruint c w → InsideFound UniformArray (shifted (length w) (uniform_inside (Some c) ys)) (w ++ ys)
unfolding uniform_inside
uniform_array_rest c w [] v = uniform_array_end c w (c == 0) v refl
uniform_array_rest c w (t ∷ ys) v = uniform_array_flag c t w ys (is_allowed t) v refl

uniform_array_tail : (xs : List ℕ) (found : Option (ℕ × ℕ)) → varuint_at xs ≡ found → InsideFound UniformArray (uniform_counted_by xs found) xs
uniform_array_tail xs None e = tt
uniform_array_tail xs (Some c) e =
    let w = varuint_found xs c e in
    let within : c.1 ≤ length xs = w.0 in
    let len : length (take c.1 xs) ≡ c.1 = rw length-take (omega arith) in
    let cut : take c.1 xs ++ drop c.1 xs ≡ xs = take-append-drop c.1 xs in
    let r = uniform_array_rest c.0 (take c.1 xs) (drop c.1 xs) w.1 in
    let P : ℕ → List ℕ → Type 0 = λ k ys. InsideFound UniformArray (shifted k (uniform_inside (Some c.0) (drop c.1 xs))) ys in
    let r1 : P c.1 (take c.1 xs ++ drop c.1 xs) = subst (λ k. P k (take c.1 xs ++ drop c.1 xs)) len r in
    subst (P c.1) cut r1

uniform_array_found : (xs : List ℕ) → InsideFound UniformArray (inside UniformArray xs) xs
unfolding inside
uniform_array_found xs = uniform_array_tail xs (varuint_at xs) refl

payload_found : (f : Shape) (bs : List ℕ) → PayloadFound (payload f bs) f bs
unfolding payload
payload_found Refused bs = tt
payload_found (Fixed n) bs = fixed_flag n bs (nat_lt (length bs) n) refl
payload_found (Attachment kind) bs = attachment_flag kind bs (nat_lt (length bs) 20) refl
payload_found Number bs = number_tail bs (varuint_at bs) refl
payload_found Sized bs = sized_bytes_tail bs (sized bs) refl
payload_found Fields bs = container_found Fields bs (sized bs) refl fields_found
payload_found UniformFields bs = container_found UniformFields bs (sized bs) refl uniform_found
payload_found Array bs = container_found Array bs (sized bs) refl array_found
payload_found UniformArray bs = container_found UniformArray bs (sized bs) refl uniform_array_found

name_sized : (bs : List ℕ) (k : ℕ) (s : Option (ℕ × ℕ)) → sized bs ≡ s → name_by s ≡ Some k → (k ≤ length bs) × IsFieldName false (take k bs)
name_sized bs k None e h = cc
name_sized bs k (Some s) e h =
    let w = sized_found bs s e in
    let same : s.0 + s.1 ≡ k = cc in
    let P : ℕ → Type 0 = λ j. (j ≤ length bs) × IsFieldName false (take j bs) in
    subst P same (w.0, (take s.1 (drop s.0 bs), has_size bs s w))

name_flag_found : (flag : Bool) (bs : List ℕ) (k : ℕ) → (if flag then Some 0 else name_by (sized bs)) ≡ Some k → (k ≤ length bs) × IsFieldName flag (take k bs)
name_flag_found true bs k h =
    let none : k ≡ 0 = cc in
    (omega arith, rw none refl)
name_flag_found false bs k h = name_sized bs k (sized bs) refl h

name_found : (t : ℕ) (bs : List ℕ) (k : ℕ) → name_length t bs ≡ Some k → (k ≤ length bs) × IsFieldName (nat_lt t 0x80) (take k bs)
unfolding name_length
name_found t bs k h = name_flag_found (nat_lt t 0x80) bs k h

-- a container's field, whose bytes before its contents are these
pub record OpensField (type_byte : Option ℕ) (before xs : List ℕ) (contents : Contents) : Type 0 where
  pub t : ℕ
  pub start : List ℕ
  pub front : List ℕ
  pub starts : IsStart type_byte t start
  pub opens : Opens (shape (t % 0x80)) front xs contents
  pub is : before ≡ start ++ front

-- what the header of a field says of the bytes
abbrev pub FieldFound : Header → Option ℕ → List ℕ → Type 0
FieldFound End type_byte bs = Unit {0}
FieldFound Bad type_byte bs = Unit {0}
FieldFound (Plain k) type_byte bs = (k ≤ length bs) × Spells (Field type_byte) (take k bs) []
FieldFound (Link kind k) type_byte bs = (20 ≤ k) × (k ≤ length bs) × Spells (Field type_byte) (take k bs) (attached_link kind (drop (k - 20) (take k bs)) ∷ [])
FieldFound (Container before size contents) type_byte bs = (before + size ≤ length bs) × OpensField type_byte (take before bs) (take size (drop before bs)) contents

start_found : (type_byte : Option ℕ) (t k : ℕ) (bs : List ℕ) (h : Header) → k ≤ length bs → IsStart type_byte t (take k bs) → PayloadFound h (shape (t % 0x80)) (drop k bs) → FieldFound (shifted k h) type_byte bs
start_found type_byte t k bs End within s f = tt
start_found type_byte t k bs Bad within s f = tt
start_found type_byte t k bs (Plain j) within s f =
    let all : k + j ≤ length bs = omega (arith, f.0, length-drop k bs) in
    (all, rw (take-add k j bs) (plain (take k bs) (take j (drop k bs)) s f.1))
start_found type_byte t k bs (Link kind j) within s f =
    let all : k + j ≤ length bs = omega (arith, f.1, length-drop k bs) in
    let whole : j ≡ 20 = f.0 in
    let len : length (take k bs) ≡ k = rw length-take (omega arith) in
    let far : k + j - 20 ≡ k = omega arith in
    let last : drop (k + j - 20) (take (k + j) bs) ≡ take j (drop k bs) = rw (far, drop-take) refl in
    (omega arith, all, rw (last, take-add k j bs) (plain (take k bs) (take j (drop k bs)) s f.2))
start_found type_byte t k bs (Container before size contents) within s f =
    let all : k + before + size ≤ length bs = omega (arith, f.0, length-drop k bs) in
    let o : Opens (shape (t % 0x80)) (take before (drop k bs)) (take size (drop (k + before) bs)) contents = rw drop-drop at f.1 in
    (all, record { t = t; start = take k bs; front = take before (drop k bs); starts = s; opens = o; is = take-add k before bs })

plain_two : (j k : ℕ) → j ≡ k → Plain j ≡ Plain k
plain_two j k e = rw e refl

link_two : (kind : LinkKind) (j k : ℕ) → j ≡ k → Link kind j ≡ Link kind k
link_two kind j k e = rw e refl

container_two : (j k size : ℕ) (contents : Contents) → j ≡ k → Container j size contents ≡ Container k size contents
container_two j k size contents e = rw e refl

shifted_twice : (j k : ℕ) (h : Header) → shifted j (shifted k h) ≡ shifted (j + k) h
shifted_twice j k End = refl
shifted_twice j k Bad = refl
shifted_twice j k (Plain n) = plain_two _ _ (omega arith)
shifted_twice j k (Link kind n) = link_two kind _ _ (omega arith)
shifted_twice j k (Container before size contents) = container_two _ _ size contents (omega arith)

typed_tail : (t : ℕ) (bs : List ℕ) (name : Option ℕ) → name_length t bs ≡ name → FieldFound (shifted 1 (rest_by t bs name)) None (t ∷ bs)
typed_tail t bs None e = tt
typed_tail t bs (Some k) e =
    let w = name_found t bs k e in
    let one : 1 + k ≡ suc k = omega arith in
    let s : IsStart None t (take (1 + k) (t ∷ bs)) = rw one (typed (take k bs) w.1) in
    let f : PayloadFound (payload (shape (t % 0x80)) (drop k bs)) (shape (t % 0x80)) (drop (1 + k) (t ∷ bs)) = rw one (payload_found (shape (t % 0x80)) (drop k bs)) in
    let within : 1 + k ≤ suc (length bs) = omega (arith, w.0) in
    rw (shifted_twice 1 k (payload (shape (t % 0x80)) (drop k bs))) (start_found None t (1 + k) (t ∷ bs) (payload (shape (t % 0x80)) (drop k bs)) within s f)

lasting_flag : (h : Header) (type_byte : Option ℕ) (bs : List ℕ) (flag : Bool) → FieldFound h type_byte bs → FieldFound (if flag then Bad else h) type_byte bs
lasting_flag h type_byte bs true f = tt
lasting_flag h type_byte bs false f = f

lasting_found : (h : Header) (type_byte : Option ℕ) (bs : List ℕ) → FieldFound h type_byte bs → FieldFound (lasting h) type_byte bs
unfolding lasting
lasting_found h type_byte bs f = lasting_flag h type_byte bs (begin h == 0) f

untyped_tail : (t : ℕ) (bs : List ℕ) (name : Option ℕ) → is_void t ≡ false → name_length t bs ≡ name → FieldFound (rest_by t bs name) (Some t) bs
untyped_tail t bs None solid e = tt
untyped_tail t bs (Some k) solid e =
    let w = name_found t bs k e in
    start_found (Some t) t k bs (payload (shape (t % 0x80)) (drop k bs)) w.0 (untyped (take k bs) solid w.1) (payload_found (shape (t % 0x80)) (drop k bs))

empty_payload : (bs : List ℕ) → payload (Fixed 0) bs ≡ Plain 0
unfolding payload
empty_payload bs = (let no : nat_lt (length bs) 0 ≡ false = le-ltb (length bs) 0 (omega arith) in rw no refl)

void_small : (t : ℕ) → is_void t ≡ true → (nat_lt t 0x80 ≡ true) × (shape (t % 0x80) ≡ Fixed 0)
unfolding shape
void_small t v = grind (arith, nat_tests)

void_header : (t : ℕ) (bs : List ℕ) → is_void t ≡ true → lasting (rest_header t bs) ≡ Bad
unfolding rest_header name_length lasting
void_header t bs v =
    let s = void_small t v in
    rw (s.0, s.1, empty_payload bs) refl

untyped_flag : (t : ℕ) (bs : List ℕ) (flag : Bool) → is_void t ≡ flag → FieldFound (lasting (rest_header t bs)) (Some t) bs
unfolding rest_header
untyped_flag t bs true v = rw (void_header t bs v) tt
untyped_flag t bs false v = lasting_found (rest_by t bs (name_length t bs)) (Some t) bs (untyped_tail t bs (name_length t bs) v refl)

pub field_found : (type_byte : Option ℕ) (bs : List ℕ) → FieldFound (field_header type_byte bs) type_byte bs
unfolding rest_header
field_found None [] = tt
field_found None (t ∷ bs) = typed_tail t bs (name_length t bs) refl
field_found (Some t) bs = untyped_flag t bs (is_void t) refl

-- where the header is refused none stands there
takes_not_bad : (h : Header) (f : List ℕ) (ls : List LinkOf) → Takes h f ls → h ≡ Bad → ⊥
takes_not_bad End f ls t e = t
takes_not_bad Bad f ls t e = t
takes_not_bad (Plain k) f ls t e = cc
takes_not_bad (Link kind k) f ls t e = cc
takes_not_bad (Container before size contents) f ls t e = t

pub no_header : {type_byte : Option ℕ} {bs : List ℕ} → HasHeader type_byte bs → field_header type_byte bs ≡ Bad → ⊥
no_header (plain_field {type_byte = type_byte} {links = links} start p others s a) e = takes_not_bad _ (start ++ p) links (plain_header s a others) e
no_header (container_field start front xs others s o) e = (let c = container_field_header s o others in cc)
