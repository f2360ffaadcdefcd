-- The readers of parts undo the spellings of parts.
use Rattle.std.proofs.Common.{◌≡◌, ℕ, ◌^◌, ◌<◌, ◌≤◌, Bool, true, false, cond, ltb, leb, ◌&&◌, List, [], ◌∷◌, ◌++◌, length, take, drop, Option, Some, None, refl, sym, ap, subst, append_assoc, arith, inl, inr}
use Rattle.std.specs.List.{flat_map, AllByRecursion}
use Rattle.std.specs.Int.{w32, w64, from_le_bytes, to_le_bytes}
use Rattle.std.specs.Result.{result_ok}
use Rattle.std.proofs.lemmas.Bool.{cases_lt, and_parts, leb-true, le-leb, ltb-false, le-ltb}
use Rattle.std.proofs.lemmas.List.{take_at, drop_at, take-append-drop, length-append, length-take, get_or-take, get_or_past}
use Rattle.std.proofs.lemmas.Nat.{le_bytes_4, le_bytes_8, from_le_bytes-to_le_bytes_4, from_le_bytes-to_le_bytes_8}
use Rattle.std.proofs.lemmas.Option.{same_Some}
use Rattle.ddc_names.specs.Texts.{name_fault}
use Rattle.ddc_names.specs.Names.{checked, name_of}
use Rattle.ddc_names.specs.declared.hash.IoHash.{IoHash}
use Rattle.ddc_names.specs.declared.reference.RefKey.{RefKey}
use Rattle.ddc_names.specs.declared.reference.RefName.{RefName}
use Rattle.ddc_names.specs.declared.reference.RefSpot.{RefSpot}
use Rattle.cb_fields.specs.declared.links.Link.{Link}
use Rattle.cb_fields.specs.declared.links.LinkKind.{LinkKind}
use Rattle.cb_fields.specs.declared.links.LinkKind.TheVariants.{Object, Binary}
use Rattle.replication_log.specs.declared.event.EventOp.TheVariants.{Added, Deleted}
use Rattle.ddc_model.specs.declared.entry.Stored.{Stored}
use Rattle.ddc_entry.specs.Spelling.{four_bytes, eight_bytes, name, spot, ref_name, flag, kind_byte, link_bytes, stored_bytes, op_bytes, IsFour, IsEight, IsName, AreTwenty, IsCount, IsHash, IsSpot, IsRefName, IsLink, IsStored, IsOp}
use Rattle.ddc_entry.specs.inside.Reading.{◌>>=◌, both, made, tagged, none_at, given, counted_at, bytes_at, four_at, eight_at, count_at, sized_at, name_at, hash_at, key_at, spot_at, ref_name_at, flag_at, kind_at, link_at, stored_at, op_at}
use Rattle.ddc_entry.proofs.Readers.{IsBytes, Takes, Again, Undoes, bind_some, both_undo, made_undoes, recast, nothing_takes, tagged_takes, given_takes, made_takes, made_again, counted_undo}

-- ---- bytes

IsBytes-take : (n : ℕ) (bytes : List ℕ) → IsBytes bytes → IsBytes (take n bytes)
IsBytes-take n bytes small i =
    elim (cases_lt i n) [
      | inl lt ↦ rw (get_or-take n bytes i 0 lt) (small i)
      | inr le ↦ rw (get_or_past (take n bytes) i 0 (omega (arith, length-take n bytes))) (omega arith)
    ]

guarded : {A : Type 0} (b : Bool) (x y : A) → cond b None (Some x) ≡ Some y → (b ≡ false) × (x ≡ y)
guarded true x y e = absurd cc
guarded false x y e = (refl, cc)

bytes_take : (n : ℕ) (bytes front rest : List ℕ) → bytes_at n bytes ≡ Some (front, rest) → (bytes ≡ front ++ rest) × (length front ≡ n) × (front ≡ take n bytes)
unfolding bytes_at
bytes_take n bytes front rest e =
    let g = guarded (ltb (length bytes) n) (take n bytes, drop n bytes) (front, rest) e in
    let long : n ≤ length bytes = ltb-false _ _ g.0 in
    let count : length (take n bytes) ≡ n = omega (arith, length-take n bytes) in
    subst (λ (y : List ℕ × List ℕ). (bytes ≡ y.0 ++ y.1) × (length y.0 ≡ n) × (y.0 ≡ take n bytes)) g.1 (sym (take-append-drop n bytes), count, refl)

bytes_again : (n : ℕ) (front rest : List ℕ) → length front ≡ n → bytes_at n (front ++ rest) ≡ Some (front, rest)
unfolding bytes_at
bytes_again n front rest count =
    let long : ltb (length (front ++ rest)) n ≡ false = le-ltb _ _ (omega (arith, length-append front rest)) in
    rw (long, take_at front rest n count, drop_at front rest n count) refl

twenty_undo : Undoes (bytes_at 20) (λ bytes. bytes) AreTwenty
twenty_undo = record {
  takes = λ bytes front rest small e.
      let t = bytes_take 20 bytes front rest e in
      (t.0, record { count = t.1; small = subst (λ (f : List ℕ). IsBytes f) (sym t.2) (IsBytes-take 20 bytes small) });
  again = λ front rest fit. bytes_again 20 front rest fit.count;
}

-- ---- numbers

number_undoes : (n limit : ℕ) (read : List ℕ → ℕ) (spelled : ℕ → List ℕ)
    → ((k : ℕ) → length (spelled k) ≡ n) → ((bytes : List ℕ) → length bytes ≡ n → IsBytes bytes → spelled (read bytes) ≡ bytes)
    → ((k : ℕ) → k < limit → read (spelled k) ≡ k) → ((bytes : List ℕ) → IsBytes bytes → read bytes < limit)
    → Undoes (made read (bytes_at n)) spelled (λ k. k < limit)
number_undoes n limit read spelled count back again below = record {
  takes = λ bytes k rest small e.
      let a = bind_some (bytes_at n bytes) (λ a. Some (read a.0, a.1)) (k, rest) e in
      let t = bytes_take n bytes a.0.0 a.0.1 a.1 in
      let front : IsBytes a.0.0 = subst (λ (f : List ℕ). IsBytes f) (sym t.2) (IsBytes-take n bytes small) in
      let here : (bytes ≡ spelled (read a.0.0) ++ a.0.1) × (read a.0.0 < limit) = (rw (back a.0.0 t.1 front) t.0, below a.0.0 front) in
      subst (λ (y : ℕ × List ℕ). (bytes ≡ spelled y.0 ++ y.1) × (y.0 < limit)) (same_Some (read a.0.0, a.0.1) (k, rest) a.2) here;
  again = λ k rest fit. rw (bytes_again n (spelled k) rest (count k)) (ap (λ (t : ℕ). Some (t, rest)) (again k fit));
}

pub four_undo : Undoes four_at four_bytes IsFour
unfolding four_at
four_undo = number_undoes 4 (2 ^ 32) (from_le_bytes w32) (to_le_bytes w32) (λ k. refl) (λ bytes count small. le_bytes_4 bytes _ count small refl) (λ k lt. from_le_bytes-to_le_bytes_4 k lt) (λ bytes small. omega (arith, small 0, small 1, small 2, small 3))

pub eight_undo : Undoes eight_at eight_bytes IsEight
unfolding eight_at
eight_undo = number_undoes 8 (2 ^ 64) (from_le_bytes w64) (to_le_bytes w64) (λ k. refl) (λ bytes count small. le_bytes_8 bytes _ count small refl) (λ k lt. from_le_bytes-to_le_bytes_8 k lt) (λ bytes small. omega (arith, small 0, small 1, small 2, small 3, small 4, small 5, small 6, small 7))

-- ---- counts of 1 to 64

chosen_of : {A : Type 0} (b : Bool) (x y : A) → cond b (Some x) None ≡ Some y → (b ≡ true) × (x ≡ y)
chosen_of true x y e = (refl, cc)
chosen_of false x y e = absurd cc

count_takes : Takes count_at (λ n. n ∷ []) IsCount
unfolding count_at
count_takes [] n rest small e = absurd cc
count_takes (b ∷ bytes) n rest small e =
    let g = chosen_of (leb 1 b && leb b 64) (b, bytes) (n, rest) e in
    let within = and_parts (leb 1 b) (leb b 64) g.0 in
    subst (λ (y : ℕ × List ℕ). (b ∷ bytes ≡ y.0 ∷ y.1) × IsCount y.0) g.1 (refl, (leb-true 1 b within.0, leb-true b 64 within.1))

count_again : Again count_at (λ n. n ∷ []) IsCount
unfolding count_at
count_again n rest fit = rw (le-leb 1 n fit.0, le-leb n 64 fit.1) refl

pub count_undoes : Undoes count_at (λ n. n ∷ []) IsCount
count_undoes = record { takes = count_takes; again = count_again }

-- ---- names

-- a text that breaks the rule is no name
pub no_name : (fault : Option ℕ) (text : List ℕ) → (fault ≡ None → ⊥) → result_ok (checked fault text) ≡ None
no_name None text h = absurd (h refl)
no_name (Some at) text h = refl

is_checked : (fault : Option ℕ) (text found : List ℕ) → result_ok (checked fault text) ≡ Some found → (fault ≡ None) × (text ≡ found)
is_checked None text found e = (refl, cc)
is_checked (Some at) text found e = absurd cc

again_checked : (fault : Option ℕ) (text : List ℕ) → fault ≡ None → result_ok (checked fault text) ≡ Some text
again_checked None text e = refl
again_checked (Some at) text e = absurd cc

sized_takes : (bytes text rest : List ℕ) → sized_at bytes ≡ Some (text, rest) → bytes ≡ name text ++ rest
unfolding sized_at
sized_takes [] text rest e = absurd cc
sized_takes (n ∷ bytes) text rest e =
    let t = bytes_take n bytes text rest e in
    subst (λ (k : ℕ). n ∷ bytes ≡ k ∷ (text ++ rest)) (sym t.1) (ap (λ (b : List ℕ). n ∷ b) t.0)

pub name_undoes : Undoes name_at name IsName
unfolding name_at sized_at
name_undoes = record {
  takes = λ bytes found rest small e.
      let t = bind_some (sized_at bytes) (λ t. result_ok (name_of t.0) >>= λ n. Some (n, t.1)) (found, rest) e in
      let n = bind_some (result_ok (name_of t.0.0)) (λ n. Some (n, t.0.1)) (found, rest) t.2 in
      let is = is_checked (name_fault t.0.0) t.0.0 n.0 n.1 in
      let here : (bytes ≡ name n.0 ++ t.0.1) × IsName n.0 = subst (λ (k : List ℕ). (bytes ≡ name k ++ t.0.1) × IsName k) is.1 (sized_takes bytes t.0.0 t.0.1 t.1, is.0) in
      subst (λ (y : List ℕ × List ℕ). (bytes ≡ name y.0 ++ y.1) × IsName y.0) (same_Some (n.0, t.0.1) (found, rest) n.2) here;
  again = λ text rest fit.
      rw (bytes_again (length text) text rest refl, again_checked (name_fault text) text fit) refl;
}

-- ---- hashes, keys and the names of references

pub hash_undoes : Undoes hash_at (λ hash. hash.0) IsHash
unfolding hash_at
hash_undoes = made_undoes (bytes_at 20) (λ bytes. bytes) AreTwenty (λ (bytes : List ℕ). let hash : IoHash = record { 0 = bytes } in hash) (λ hash. hash.0) (λ _. refl) (λ _. refl) twenty_undo

key_undoes : Undoes key_at (λ key. key.0) (λ key. AreTwenty key.0)
unfolding key_at
key_undoes = made_undoes (bytes_at 20) (λ bytes. bytes) AreTwenty (λ (bytes : List ℕ). let key : RefKey = record { 0 = bytes } in key) (λ key. key.0) (λ _. refl) (λ _. refl) twenty_undo

pub spot_undoes : Undoes spot_at spot IsSpot
unfolding spot_at
spot_undoes = made_undoes (both name_at key_at) (λ x. name x.0 ++ x.1.0) (λ x. IsName x.0 × AreTwenty x.1.0) (λ (p : List ℕ × RefKey). let spot : RefSpot = record { bucket = p.0; key = p.1 } in spot) (λ s. (s.bucket, s.key)) (λ _. refl) (λ _. refl)
    (both_undo name_at key_at name (λ key. key.0) IsName (λ key. AreTwenty key.0) name_undoes key_undoes)

pub ref_name_undoes : Undoes ref_name_at ref_name IsRefName
unfolding ref_name_at
ref_name_undoes = made_undoes (both name_at spot_at) (λ x. name x.0 ++ spot x.1) (λ x. IsName x.0 × IsSpot x.1) (λ (p : List ℕ × RefSpot). let name : RefName = record { space = p.0; spot = p.1 } in name) (λ n. (n.space, n.spot)) (λ _. refl) (λ _. refl)
    (both_undo name_at spot_at name spot IsName IsSpot name_undoes spot_undoes)

-- ---- flags and kinds

flag_again : Again flag_at (λ yes. flag yes ∷ []) (λ yes. Unit {0})
unfolding flag_at
flag_again true rest fit = refl
flag_again false rest fit = refl

pub flag_undoes : Undoes flag_at (λ yes. flag yes ∷ []) (λ yes. Unit {0})
unfolding flag_at
flag_undoes = record {
  takes = tagged_takes 0 (given false) (tagged 1 (given true) none_at) (λ yes. flag yes ∷ []) (λ yes. Unit {0})
      (given_takes 0 false (λ yes. flag yes ∷ []) (λ yes. Unit {0}) refl tt)
      (tagged_takes 1 (given true) none_at (λ yes. flag yes ∷ []) (λ yes. Unit {0}) (given_takes 1 true (λ yes. flag yes ∷ []) (λ yes. Unit {0}) refl tt) (nothing_takes (λ yes. flag yes ∷ []) (λ yes. Unit {0})));
  again = flag_again;
}

kind_again : Again kind_at (λ kind. kind_byte kind ∷ []) (λ kind. Unit {0})
unfolding kind_at
kind_again Object rest fit = refl
kind_again Binary rest fit = refl

kind_undoes : Undoes kind_at (λ kind. kind_byte kind ∷ []) (λ kind. Unit {0})
unfolding kind_at
kind_undoes = record {
  takes = tagged_takes 0 (given Object) (tagged 1 (given Binary) none_at) (λ kind. kind_byte kind ∷ []) (λ kind. Unit {0})
      (given_takes 0 Object (λ kind. kind_byte kind ∷ []) (λ kind. Unit {0}) refl tt)
      (tagged_takes 1 (given Binary) none_at (λ kind. kind_byte kind ∷ []) (λ kind. Unit {0}) (given_takes 1 Binary (λ kind. kind_byte kind ∷ []) (λ kind. Unit {0}) refl tt) (nothing_takes (λ kind. kind_byte kind ∷ []) (λ kind. Unit {0})));
  again = kind_again;
}

-- ---- links and blobs

link_undoes : Undoes link_at link_bytes IsLink
unfolding link_at
link_undoes =
    recast link_at (λ to. (kind_byte to.kind ∷ []) ++ to.hash.0) link_bytes (λ to. Unit {0} × IsHash to.hash) IsLink (λ to. refl) (λ to h. h.1) (λ to h. (tt, h))
    (made_undoes (both kind_at hash_at) (λ x. (kind_byte x.0 ∷ []) ++ x.1.0) (λ x. Unit {0} × IsHash x.1) (λ (p : LinkKind × IoHash). let to : Link = record { kind = p.0; hash = p.1 } in to) (λ to. (to.kind, to.hash)) (λ _. refl) (λ _. refl)
    (both_undo kind_at hash_at (λ kind. kind_byte kind ∷ []) (λ hash. hash.0) (λ kind. Unit {0}) IsHash kind_undoes hash_undoes))

five_parts : (a b c d e : List ℕ) → a ++ (b ++ (c ++ (d ++ e))) ≡ (((a ++ b) ++ c) ++ d) ++ e
five_parts a b c d e = simp append_assoc

pub stored_undoes : Undoes stored_at stored_bytes IsStored
unfolding stored_at
stored_undoes =
    recast stored_at (λ blob. blob.hash.0 ++ (eight_bytes blob.len ++ (eight_bytes blob.start ++ (four_bytes (length blob.links) ++ flat_map link_bytes blob.links)))) stored_bytes
    (λ blob. IsHash blob.hash × (IsEight blob.len × (IsEight blob.start × (IsFour (length blob.links) × AllByRecursion IsLink blob.links)))) IsStored
    (λ blob. five_parts blob.hash.0 (eight_bytes blob.len) (eight_bytes blob.start) (four_bytes (length blob.links)) (flat_map link_bytes blob.links))
    (λ blob h. (h.0, h.1.0, h.1.1.0, h.1.1.1.0, h.1.1.1.1)) (λ blob h. (h.0, (h.1, (h.2, (h.3, h.4)))))
    (made_undoes (both hash_at (both eight_at (both eight_at (counted_at four_at link_at))))
    (λ x. x.0.0 ++ (eight_bytes x.1.0 ++ (eight_bytes x.1.1.0 ++ (four_bytes (length x.1.1.1) ++ flat_map link_bytes x.1.1.1))))
    (λ x. IsHash x.0 × (IsEight x.1.0 × (IsEight x.1.1.0 × (IsFour (length x.1.1.1) × AllByRecursion IsLink x.1.1.1))))
    (λ (p : IoHash × (ℕ × (ℕ × List Link))). let blob : Stored = record { hash = p.0; len = p.1.0; start = p.1.1.0; links = p.1.1.1 } in blob)
    (λ blob. (blob.hash, (blob.len, (blob.start, blob.links)))) (λ _. refl) (λ _. refl)
    (both_undo hash_at (both eight_at (both eight_at (counted_at four_at link_at))) (λ hash. hash.0) (λ x. eight_bytes x.0 ++ (eight_bytes x.1.0 ++ (four_bytes (length x.1.1) ++ flat_map link_bytes x.1.1))) IsHash (λ x. IsEight x.0 × (IsEight x.1.0 × (IsFour (length x.1.1) × AllByRecursion IsLink x.1.1))) hash_undoes
    (both_undo eight_at (both eight_at (counted_at four_at link_at)) eight_bytes (λ x. eight_bytes x.0 ++ (four_bytes (length x.1) ++ flat_map link_bytes x.1)) IsEight (λ x. IsEight x.0 × (IsFour (length x.1) × AllByRecursion IsLink x.1)) eight_undo
    (both_undo eight_at (counted_at four_at link_at) eight_bytes (λ x. four_bytes (length x) ++ flat_map link_bytes x) IsEight (λ x. IsFour (length x) × AllByRecursion IsLink x) eight_undo (counted_undo four_at four_bytes IsFour link_at link_bytes IsLink four_undo link_undoes)))))

-- ---- what happened to a reference

op_again : Again op_at op_bytes IsOp
unfolding op_at
op_again (Added object) rest fit = made_again hash_at (λ hash. hash.0) IsHash Added hash_undoes object rest fit
op_again Deleted rest fit = refl

pub op_undoes : Undoes op_at op_bytes IsOp
unfolding op_at
op_undoes = record {
  takes = tagged_takes 0 (made Added hash_at) (tagged 1 (given Deleted) none_at) op_bytes IsOp
      (made_takes 0 hash_at (λ hash. hash.0) IsHash Added op_bytes IsOp (λ object. refl) (λ object h. h) hash_undoes)
      (tagged_takes 1 (given Deleted) none_at op_bytes IsOp (given_takes 1 Deleted op_bytes IsOp refl tt) (nothing_takes op_bytes IsOp));
  again = op_again;
}
