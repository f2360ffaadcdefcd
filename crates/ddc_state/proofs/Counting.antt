-- How many links all blobs have, where a blob is added, changed or taken out.
use Rattle.std.specs.Prelude.{◌≡◌, ℕ, ◌+◌, cond, List, [], ◌∷◌, length, None, Some, refl}
use Rattle.std.proofs.Common.{ap, sym, ◌∙◌, arith}
use Rattle.std.specs.declared.cmp.Ordering.{Ordering}
use Rattle.std.specs.declared.cmp.Ordering.TheVariants.{Less, Equal, Greater}
use Rattle.std.specs.Ordering.{is_eq}
use Rattle.std.specs.Cmp.{tied_itself}
use Rattle.std.specs.FinMap.{FinMap, get, insert, remove, entries, find, put, empty, get-entries, get-remove, entries-insert, len-entries, len-empty}
use Rattle.std.specs.FinMap.Entries.{by_order}
use Rattle.ddc_model.specs.declared.rows.Blob.{Blob}
use Rattle.ddc_model.specs.declared.rows.BlobName.{BlobName}
use Rattle.ddc_model.specs.Keys.{blob_cmp, blob_total, blob_exact}
use Rattle.ddc_model.specs.Counts.{links_of_all}
use Rattle.ddc_state.proofs.Given.{put_over, put_same}

abbrev Blobs : Type 0
Blobs = FinMap blob_cmp Blob

abbrev pub links_in_all : Blobs → ℕ
links_in_all m = links_of_all (entries m)

placed : (o : Ordering) (name : BlobName) (blob : Blob) (e : BlobName × Blob) (es others : List (BlobName × Blob)) → cond (is_eq o) (Some e.1) (find blob_cmp name es) ≡ None
    → (find blob_cmp name es ≡ None → links_of_all others ≡ length blob.links + links_of_all es)
    → links_of_all (by_order o ((name, blob) ∷ e ∷ es) ((e.0, blob) ∷ es) (e ∷ others)) ≡ length blob.links + links_of_all (e ∷ es)
placed Less name blob e es others none rest = refl
placed Equal name blob e es others none rest = absurd (cc)
placed Greater name blob e es others none rest = let h = rest none in omega arith

put_adds : (name : BlobName) (blob : Blob) (es : List (BlobName × Blob)) → find blob_cmp name es ≡ None → links_of_all (put blob_cmp name blob es) ≡ length blob.links + links_of_all es
put_adds name blob [] none = refl
put_adds name blob (e ∷ es) none = placed (blob_cmp name e.0) name blob e es (put blob_cmp name blob es) none (put_adds name blob es)

-- a blob that wasn't there adds its links
pub added : (m : Blobs) (name : BlobName) (blob : Blob) → get m name ≡ None → links_in_all (insert m name blob) ≡ length blob.links + links_in_all m
added m name blob none = ap links_of_all (entries-insert blob_total m name blob) ∙ put_adds name blob (entries m) (sym (get-entries m name) ∙ none)

gone : (m : Blobs) (name : BlobName) → get (remove m name) name ≡ None
gone m name = get-remove blob_total m name name ∙ ap (λ (o : Ordering). cond (is_eq o) None (get m name)) (tied_itself blob_total name)

-- a blob that is taken out takes its links along
pub taken : (m : Blobs) (name : BlobName) (blob : Blob) → get m name ≡ Some blob → length blob.links + links_in_all (remove m name) ≡ links_in_all m
taken m name blob some = sym (added (remove m name) name blob (gone m name)) ∙ ap links_in_all (sym (put_over blob_cmp blob_total blob_exact m name blob) ∙ put_same blob_cmp blob_total blob_exact m name blob some)

-- a blob that keeps its links keeps the sum
pub changed : (m : Blobs) (name : BlobName) (blob new : Blob) → get m name ≡ Some blob → new.links ≡ blob.links → links_in_all (insert m name new) ≡ links_in_all m
changed m name blob new some same =
    ap links_in_all (put_over blob_cmp blob_total blob_exact m name new) ∙ added (remove m name) name new (gone m name)
    ∙ ap (λ links. length links + links_in_all (remove m name)) same ∙ taken m name blob some

-- a new table has none
nothing_counted : (es : List (BlobName × Blob)) → length es ≡ 0 → links_of_all es ≡ 0
nothing_counted [] h = refl
nothing_counted (e ∷ es) h = absurd (omega arith)

pub empty_counted : links_in_all empty ≡ 0
empty_counted = nothing_counted (entries {R = blob_cmp} empty) (sym (len-entries {R = blob_cmp} empty) ∙ len-empty blob_cmp Blob)
