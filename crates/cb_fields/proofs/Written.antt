-- What is written is an object, and tells the hashes.
use Rattle.std.proofs.Common.{◌≡◌, ◌==◌, false, ℕ, ◌-◌, ◌^◌, ◌<◌, ◌≤◌, List, [], ◌∷◌, ◌++◌, length, refl, sym, arith, length-append, append_assoc, Some, None}
use Rattle.std.proofs.lemmas.List.{append-nil}
use Rattle.std.proofs.lemmas.Bool.Decides.{nat_tests}
use Rattle.ddc_names.specs.declared.hash.IoHash.{IoHash}
use Rattle.cb_fields.specs.Varuint.{followers, marked, IsVaruint}
use Rattle.cb_fields.specs.Shape.{shape, is_allowed, rests, counted, any_fields}
use Rattle.cb_fields.specs.Language.{HasSize, typed, untyped, fixed, fields, array, uniform_array, Field, Whole, Spells, plain, container, none, more, IsObject}
use Rattle.cb_fields.specs.Needs.{minimal, with_size, hash_bytes, needs_field, needs_object, AreHashes}
use Rattle.cb_fields.proofs.Shortest.{minimal_spells}

-- a small number is its own byte
small_spells : (n : ℕ) → followers n ≡ 0 → marked n ≡ 0 → IsVaruint n (n ∷ [])
small_spells n f m = (sym f, rw m (omega arith))

five : IsVaruint 5 (5 ∷ [])
unfolding followers marked
five = small_spells 5 refl refl

one : IsVaruint 1 (1 ∷ [])
unfolding followers marked
one = small_spells 1 refl refl

zero_spells : IsVaruint 0 (0 ∷ [])
unfolding followers marked
zero_spells = small_spells 0 refl refl

name : List ℕ
name = 5 ∷ 0x6e ∷ 0x65 ∷ 0x65 ∷ 0x64 ∷ 0x73 ∷ []

is_name : (xs : List ℕ) × HasSize xs name
unfolding name
is_name = (0x6e ∷ 0x65 ∷ 0x65 ∷ 0x64 ∷ 0x73 ∷ [], record { size = 5 ∷ []; spells = five; is = refl })

empty_field : Spells (Field None) (needs_field []) []
unfolding shape name
empty_field = container (0x84 ∷ name) (1 ∷ 0 ∷ []) [] (counted 0) (typed {t = 0x84} name is_name) (array {xs = []} (1 ∷ []) (0 ∷ []) 0 one zero_spells) (none refl)

hash_field : (h : IoHash) → length h.0 ≡ 20 → Spells (Field (Some 0x10)) h.0 []
unfolding shape
hash_field h a = plain [] h.0 (untyped {t = 0x10} [] refl refl) (fixed a)

hash_fields : (hs : List IoHash) → AreHashes hs → Spells (Whole (record { type_byte = Some 0x10; count = Some (length hs) })) (hash_bytes hs) []
hash_fields [] a = none refl
hash_fields (h ∷ hs) a =
    let more_left : (length (h ∷ hs) == 0) ≡ false = grind (arith, nat_tests) in
    let one_less : length hs ≡ length (h ∷ hs) - 1 = omega arith in
    more h.0 (hash_bytes hs) [] [] more_left (hash_field h a.0) (rw one_less at (hash_fields hs a.1))

hashes_inside : (hs : List IoHash) → AreHashes hs → Spells (Whole (rests 0x10 (Some (length hs)))) (hash_bytes hs) []
unfolding rests
hashes_inside hs a = hash_fields hs a

hashes_field : (h : IoHash) (hs : List IoHash) → AreHashes (h ∷ hs) → length (needs_field (h ∷ hs)) < 2 ^ 64 → length (h ∷ hs) < 2 ^ 64 → Spells (Field None) (needs_field (h ∷ hs)) []
unfolding shape name is_allowed
hashes_field h hs a small few =
    let count : List ℕ = minimal (length (h ∷ hs)) in
    let inside : List ℕ = count ++ 0x10 ∷ hash_bytes (h ∷ hs) in
    let fits : length inside < 2 ^ 64 = omega (arith, small, length-append (minimal (length inside)) inside) in
    let size : List ℕ = minimal (length inside) in
    let s : Spells (Field None) ((0x85 ∷ name) ++ ((size ++ (count ++ 0x10 ∷ [])) ++ hash_bytes (h ∷ hs))) [] =
    container (0x85 ∷ name) (size ++ (count ++ 0x10 ∷ [])) (hash_bytes (h ∷ hs)) (rests 0x10 (Some (length (h ∷ hs)))) (typed {t = 0x85} name is_name)
    (uniform_array {xs = hash_bytes (h ∷ hs)} size count (length (h ∷ hs)) 0x10 (minimal_spells (length inside) fits) (minimal_spells (length (h ∷ hs)) few) refl) (hashes_inside (h ∷ hs) a) in
    let cut : (size ++ (count ++ 0x10 ∷ [])) ++ hash_bytes (h ∷ hs) ≡ size ++ (count ++ 0x10 ∷ hash_bytes (h ∷ hs)) = simp append_assoc in
    rw cut at s

top_object : (f : List ℕ) → length f < 2 ^ 64 → Spells (Field None) f [] → IsObject (0x02 ∷ with_size f) []
unfolding shape
top_object f small s =
    let one_field : Spells (Whole any_fields) f [] = (let m : Spells (Whole any_fields) (f ++ []) [] = more {contents = any_fields} f [] [] [] refl s (none refl) in rw append-nil at m) in
    record { code = refl; field = container (0x02 ∷ []) (minimal (length f)) f any_fields (typed {t = 0x02} [] refl) (fields {xs = f} (minimal (length f)) (minimal_spells (length f) small)) one_field }

pub hashes_append : (hs gs : List IoHash) → AreHashes hs → AreHashes gs → AreHashes (hs ++ gs)
hashes_append [] gs a b = b
hashes_append (h ∷ hs) gs a b = (a.0, hashes_append hs gs a.1 b)

few_hashes : (hs : List IoHash) → AreHashes hs → length hs ≤ length (hash_bytes hs)
few_hashes [] a = omega arith
few_hashes (h ∷ hs) a = rw length-append (omega (arith, a.0, few_hashes hs a.1))

pub needs_are_object : (hs : List IoHash) → AreHashes hs → length (needs_object hs) < 2 ^ 64 → IsObject (needs_object hs) []
needs_are_object [] a small = top_object (needs_field []) (omega arith) empty_field
needs_are_object (h ∷ hs) a small =
    let f : List ℕ = needs_field (h ∷ hs) in
    let fits : length f < 2 ^ 64 = omega (arith, small, length-append (minimal (length f)) f) in
    let inside : List ℕ = minimal (length (h ∷ hs)) ++ 0x10 ∷ hash_bytes (h ∷ hs) in
    let few : length (h ∷ hs) < 2 ^ 64 = omega (arith, fits, few_hashes (h ∷ hs) a, length-append (minimal (length inside)) inside, length-append (minimal (length (h ∷ hs))) (0x10 ∷ hash_bytes (h ∷ hs))) in
    top_object f fits (hashes_field h hs a fits few)
