-- The order of blobs, and the codes of what is kept.
use Rattle.std.specs.Prelude.{◌≡◌, ℕ, Bool, true, false, List, Option, refl}
use Rattle.std.proofs.Common.{ap}
use Rattle.std.specs.declared.cmp.Ordering.{Ordering}
use Rattle.std.specs.Ordering.{ordering_then}
use Rattle.std.specs.Cmp.{IsTotalOrder}
use Rattle.std.specs.Coded.{Coded, code_by, coded×, coded_ℕ, coded_bool, coded_list, coded_option}
use Rattle.std.proofs.lemmas.Map.Lookups.{CmpEqualImpliesEq, exact_pairs}
use Rattle.std.proofs.lemmas.Cmp.{on_total, then_total}
use Rattle.ddc_names.specs.declared.hash.IoHash.{IoHash}
use Rattle.ddc_names.specs.declared.reference.RefSpot.{RefSpot}
use Rattle.ddc_names.specs.Orders.{name_cmp, name_exact, name_total, coded_name, io_hash_cmp, io_hash_exact, io_hash_total, coded_io_hash, coded_spot}
use Rattle.cb_fields.specs.declared.links.Link.{Link}
use Rattle.cb_fields.specs.declared.links.LinkKind.{LinkKind}
use Rattle.cb_fields.specs.declared.links.LinkKind.TheVariants.{Object, Binary}
use Rattle.ddc_model.specs.declared.rows.Blob.{Blob}
use Rattle.ddc_model.specs.declared.rows.BlobName.{BlobName}
use Rattle.ddc_model.specs.declared.rows.Cursor.{Cursor}
use Rattle.ddc_model.specs.declared.rows.SpaceRow.{SpaceRow}

-- by namespace, and then by hash
abbrev pub blob_cmp : BlobName → BlobName → Ordering
blob_cmp a b = ordering_then (name_cmp a.space b.space) (io_hash_cmp a.hash b.hash)

pub blob_exact : CmpEqualImpliesEq blob_cmp
blob_exact a b h = ap (λ (p : List ℕ × IoHash). let name : BlobName = record { space = p.0; hash = p.1 } in name) (exact_pairs name_cmp io_hash_cmp name_exact io_hash_exact (a.space, a.hash) (b.space, b.hash) h)

pub blob_total : IsTotalOrder blob_cmp
blob_total = then_total (on_total (λ (name : BlobName). name.space) name_total) (on_total (λ (name : BlobName). name.hash) io_hash_total)

abbrev pub coded_blob_name : Coded BlobName
coded_blob_name = code_by (List ℕ × IoHash) (coded× coded_name coded_io_hash) (λ name. (name.space, name.hash)) (λ p. record { space = p.0; hash = p.1 }) (λ _. refl)

abbrev pub coded_space_row : Coded SpaceRow
coded_space_row = code_by (ℕ × ℕ) (coded× coded_ℕ coded_ℕ) (λ row. (row.ttl, row.pin)) (λ p. record { ttl = p.0; pin = p.1 }) (λ _. refl)

abbrev pub is_object_kind : LinkKind → Bool
is_object_kind Object = true
is_object_kind Binary = false

abbrev pub kind_of : Bool → LinkKind
kind_of true = Object
kind_of false = Binary

pub kind_back : (kind : LinkKind) → kind_of (is_object_kind kind) ≡ kind
kind_back Object = refl
kind_back Binary = refl

abbrev pub coded_link : Coded Link
coded_link = code_by (Bool × IoHash) (coded× coded_bool coded_io_hash) (λ link. (is_object_kind link.kind, link.hash)) (λ p. record { kind = kind_of p.0; hash = p.1 })
    (λ link. ap (λ (kind : LinkKind). let same : Link = record { kind = kind; hash = link.hash } in same) (kind_back link.kind))

abbrev pub coded_blob : Coded Blob
coded_blob = code_by ((ℕ × ℕ) × ((ℕ × ℕ) × List Link)) (coded× (coded× coded_ℕ coded_ℕ) (coded× (coded× coded_ℕ coded_ℕ) (coded_list coded_link)))
    (λ blob. ((blob.row.len, blob.row.at), ((blob.row.extent.start, blob.row.extent.units), blob.links)))
    (λ p. record { row = record { len = p.0.0; at = p.0.1; extent = record { start = p.1.0.0; units = p.1.0.1 } }; links = p.1.1 }) (λ _. refl)

abbrev pub coded_cursor : Coded Cursor
coded_cursor = code_by (Bool × (ℕ × (ℕ × Option RefSpot))) (coded× coded_bool (coded× coded_ℕ (coded× coded_ℕ (coded_option coded_spot)))) (λ c. (c.walking, (c.after, (c.top, c.from))))
    (λ p. record { walking = p.0; after = p.1.0; top = p.1.1.0; from = p.1.1.1 }) (λ _. refl)
