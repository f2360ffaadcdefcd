-- The language of objects, as whole lists of bytes with their links (Unreal Engine, CompactBinary.h).
use Rattle.std.specs.Prelude.{◌≡◌, ℕ, ◌%◌, Bool, true, false, ◌||◌, ◌==◌, Option, Some, None, List, [], ◌∷◌, ◌++◌, length, nat_lt}
use Rattle.cb_fields.specs.declared.links.LinkKind.{LinkKind}
use Rattle.cb_fields.specs.declared.links.Link.{Link}
use Rattle.cb_fields.specs.declared.shape.Shape.{Shape}
use Rattle.cb_fields.specs.declared.shape.Shape.TheVariants.{Fixed, Attachment, Number, Sized, Fields, UniformFields, Array, UniformArray}
use Rattle.cb_fields.specs.declared.header.Contents.{Contents}
use Rattle.cb_fields.specs.Varuint.{IsVaruint}
use Rattle.cb_fields.specs.Shape.{shape, is_allowed, is_void, any_fields, no_fields, counted, rests, may_end, is_full, fewer}

-- a size and the bytes xs that it counts
pub record HasSize (xs bytes : List ℕ) : Type 0 where
  pub size : List ℕ
  pub spells : IsVaruint (length xs) size
  pub is : bytes ≡ size ++ xs

-- no name, or a name with its size
abbrev pub IsFieldName : Bool → List ℕ → Type 0
IsFieldName true name = name ≡ []
IsFieldName false name = (xs : List ℕ) × HasSize xs name

-- what stands before the payload of a field of the type byte t: that byte, except in a uniform container, and the name that its flag 80 asks for
pub data IsStart : Option ℕ → ℕ → List ℕ → Type 0 where
  typed : {t : ℕ} (name : List ℕ) → IsFieldName (nat_lt t 0x80) name → IsStart None t (t ∷ name)
  untyped : {t : ℕ} (name : List ℕ) → is_void t ≡ false → IsFieldName (nat_lt t 0x80) name → IsStart (Some t) t name

abbrev pub attached_link : LinkKind → List ℕ → Link
attached_link kind bytes = record { kind = kind; hash = record { 0 = bytes } }

-- a payload that is no container, with the link that it is
pub data IsPlain : Shape → List ℕ → List Link → Type 0 where
  fixed : {n : ℕ} {p : List ℕ} → length p ≡ n → IsPlain (Fixed n) p []
  attachment : {kind : LinkKind} {p : List ℕ} → length p ≡ 20 → IsPlain (Attachment kind) p (attached_link kind p ∷ [])
  number : {p : List ℕ} (n : ℕ) → IsVaruint n p → IsPlain Number p []
  sized : {p : List ℕ} (xs : List ℕ) → HasSize xs p → IsPlain Sized p []

-- a container's payload: front (its size, its count and its type byte, as its form has them) and then xs, all that the size counts
-- after those, which is to be contents. A uniform array may end after a count of 0.
pub data Opens : Shape → List ℕ → List ℕ → Contents → Type 0 where
  fields : {xs : List ℕ} (size : List ℕ) → IsVaruint (length xs) size → Opens Fields size xs any_fields
  uniform : {xs : List ℕ} (size : List ℕ) (t : ℕ) → IsVaruint (length (t ∷ xs)) size → is_allowed t ≡ true → Opens UniformFields (size ++ t ∷ []) xs (rests t None)
  uniform_empty : (size : List ℕ) → IsVaruint 0 size → Opens UniformFields size [] no_fields
  array : {xs : List ℕ} (size count : List ℕ) (n : ℕ) → IsVaruint (length (count ++ xs)) size → IsVaruint n count → Opens Array (size ++ count) xs (counted n)
  uniform_array : {xs : List ℕ} (size count : List ℕ) (n t : ℕ) → IsVaruint (length (count ++ t ∷ xs)) size → IsVaruint n count → is_allowed t ≡ true
      → Opens UniformArray (size ++ (count ++ t ∷ [])) xs (rests t (Some n))
  uniform_array_empty : (size count : List ℕ) → IsVaruint (length count) size → IsVaruint 0 count → Opens UniformArray (size ++ count) [] no_fields

-- one field, with its type byte or without it (Some), or all the fields of a container
pub data Class : Type 0 where
  Field : (type_byte : Option ℕ) → Class
  Whole : (contents : Contents) → Class

-- the bytes of a class, with the links in them in order of occurrence
pub data Spells : Class → List ℕ → List Link → Type 0 where
  plain : {type_byte : Option ℕ} {t : ℕ} {links : List Link} (start p : List ℕ) → IsStart type_byte t start → IsPlain (shape (t % 0x80)) p links
      → Spells (Field type_byte) (start ++ p) links
  container : {type_byte : Option ℕ} {t : ℕ} {links : List Link} (start front xs : List ℕ) (contents : Contents) → IsStart type_byte t start
      → Opens (shape (t % 0x80)) front xs contents → Spells (Whole contents) xs links → Spells (Field type_byte) (start ++ (front ++ xs)) links
  none : {contents : Contents} → may_end contents.count ≡ true → Spells (Whole contents) [] []
  more : {contents : Contents} (f fs : List ℕ) (ls ms : List Link) → is_full contents.count ≡ false → Spells (Field contents.type_byte) f ls
      → Spells (Whole (fewer contents)) fs ms → Spells (Whole contents) (f ++ fs) (ls ++ ms)

-- the first field's code is an object's
abbrev pub starts_object : List ℕ → Bool
starts_object [] = false
starts_object (t ∷ bs) = (t % 0x80 == 0x02) || (t % 0x80 == 0x03)

-- an object, which is one field, with its links
pub record IsObject (bytes : List ℕ) (links : List Link) : Type 0 where
  pub code : starts_object bytes ≡ true
  pub field : Spells (Field None) bytes links

abbrev pub IsNoObject : List ℕ → Type 0
IsNoObject bytes = (links : List Link) → IsObject bytes links → ⊥

-- the links of an object; none of what is no object
abbrev pub HasLinks : List ℕ → List Link → Type 0
HasLinks bytes rows = ((links : List Link) → IsObject bytes links → rows ≡ links) × (IsNoObject bytes → rows ≡ [])
