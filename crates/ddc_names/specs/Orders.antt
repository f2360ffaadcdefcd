-- The orders of hashes, names, spots and reference names, by bytes, with their laws and codes.
use Rattle.std.specs.Prelude.{ℕ, List, refl}
use Rattle.std.proofs.Common.{ap}
use Rattle.std.specs.declared.cmp.Ordering.{Ordering}
use Rattle.std.specs.Ordering.{nat_cmp, ordering_then}
use Rattle.std.specs.Cmp.{IsTotalOrder}
use Rattle.std.specs.Cmp.Lexicographic.{slice_cmp, nat_list_cmp_total}
use Rattle.std.specs.Coded.{Coded, code_by, coded×, coded_ℕ, coded_list}
use Rattle.std.proofs.lemmas.Map.Lookups.{CmpEqualImpliesEq, exact_pairs, exact_bytes}
use Rattle.std.proofs.lemmas.Cmp.{on_total, then_total}
use Rattle.ddc_names.specs.declared.hash.IoHash.{IoHash}
use Rattle.ddc_names.specs.declared.reference.RefKey.{RefKey}
use Rattle.ddc_names.specs.declared.reference.RefSpot.{RefSpot}
use Rattle.ddc_names.specs.declared.reference.RefName.{RefName}

abbrev pub io_hash_cmp : IoHash → IoHash → Ordering
io_hash_cmp a b = slice_cmp nat_cmp a.0 b.0

-- of namespaces and of buckets, which are seen as their texts
abbrev pub name_cmp : List ℕ → List ℕ → Ordering
name_cmp = slice_cmp nat_cmp

abbrev pub key_cmp : RefKey → RefKey → Ordering
key_cmp a b = slice_cmp nat_cmp a.0 b.0

-- by bucket, and then by key
abbrev pub spot_cmp : RefSpot → RefSpot → Ordering
spot_cmp a b = ordering_then (name_cmp a.bucket b.bucket) (key_cmp a.key b.key)

-- by namespace, and then by spot
abbrev pub ref_name_cmp : RefName → RefName → Ordering
ref_name_cmp a b = ordering_then (name_cmp a.space b.space) (spot_cmp a.spot b.spot)

pub io_hash_exact : CmpEqualImpliesEq io_hash_cmp
io_hash_exact a b h = ap (λ (bytes : List ℕ). let hash : IoHash = record { 0 = bytes } in hash) (exact_bytes a.0 b.0 h)

pub name_exact : CmpEqualImpliesEq name_cmp
name_exact = exact_bytes

pub key_exact : CmpEqualImpliesEq key_cmp
key_exact a b h = ap (λ (bytes : List ℕ). let key : RefKey = record { 0 = bytes } in key) (exact_bytes a.0 b.0 h)

pub spot_exact : CmpEqualImpliesEq spot_cmp
spot_exact a b h = ap (λ (p : List ℕ × RefKey). let spot : RefSpot = record { bucket = p.0; key = p.1 } in spot) (exact_pairs name_cmp key_cmp name_exact key_exact (a.bucket, a.key) (b.bucket, b.key) h)

pub ref_name_exact : CmpEqualImpliesEq ref_name_cmp
ref_name_exact a b h = ap (λ (p : List ℕ × RefSpot). let name : RefName = record { space = p.0; spot = p.1 } in name) (exact_pairs name_cmp spot_cmp name_exact spot_exact (a.space, a.spot) (b.space, b.spot) h)

pub io_hash_total : IsTotalOrder io_hash_cmp
io_hash_total = on_total (λ (hash : IoHash). hash.0) nat_list_cmp_total

pub name_total : IsTotalOrder name_cmp
name_total = nat_list_cmp_total

pub key_total : IsTotalOrder key_cmp
key_total = on_total (λ (key : RefKey). key.0) nat_list_cmp_total

pub spot_total : IsTotalOrder spot_cmp
spot_total = then_total (on_total (λ (spot : RefSpot). spot.bucket) name_total) (on_total (λ (spot : RefSpot). spot.key) key_total)

pub ref_name_total : IsTotalOrder ref_name_cmp
ref_name_total = then_total (on_total (λ (name : RefName). name.space) name_total) (on_total (λ (name : RefName). name.spot) spot_total)

abbrev pub coded_io_hash : Coded IoHash
coded_io_hash = code_by (List ℕ) (coded_list coded_ℕ) (λ hash. hash.0) (λ bytes. record { 0 = bytes }) (λ _. refl)

abbrev pub coded_name : Coded (List ℕ)
coded_name = coded_list coded_ℕ

abbrev pub coded_key : Coded RefKey
coded_key = code_by (List ℕ) (coded_list coded_ℕ) (λ key. key.0) (λ bytes. record { 0 = bytes }) (λ _. refl)

abbrev pub coded_spot : Coded RefSpot
coded_spot = code_by (List ℕ × RefKey) (coded× coded_name coded_key) (λ spot. (spot.bucket, spot.key)) (λ p. record { bucket = p.0; key = p.1 }) (λ _. refl)

abbrev pub coded_ref_name : Coded RefName
coded_ref_name = code_by (List ℕ × RefSpot) (coded× coded_name coded_spot) (λ name. (name.space, name.spot)) (λ p. record { space = p.0; spot = p.1 }) (λ _. refl)
