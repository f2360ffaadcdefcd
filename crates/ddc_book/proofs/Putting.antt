-- What putting an object and finalising a reference give.
use Rattle.std.specs.Prelude.{◌≡◌, ℕ, Bool, true, false, List, [], ◌∷◌, length, Option, None, Some, is_some, Result, Ok, Err, ◌⊎◌, max, nat_eq, if◌then◌else◌, option_map, cond, refl}
use Rattle.std.proofs.Common.{ap, sym, ◌∙◌, subst, inl, inr, arith}
use Rattle.std.proofs.lemmas.Bool.Decides.{nat_tests}
use Rattle.std.specs.FinMap.{get, insert, get-insert}
use Rattle.std.specs.BTreeMap.{is_at}
use Rattle.std.specs.Ordering.{is_eq, ordering_reverse, ordering_then}
use Rattle.std.specs.declared.cmp.Ordering.{Ordering}
use Rattle.std.specs.declared.cmp.Ordering.TheVariants.{Less, Equal, Greater}
use Rattle.std.specs.Cmp.{eq_by_cmp_equiv}
use Rattle.ddc_names.specs.declared.hash.IoHash.{IoHash}
use Rattle.ddc_names.specs.declared.reference.RefName.{RefName}
use Rattle.ddc_names.specs.Orders.{name_cmp, name_total, io_hash_cmp, io_hash_total}
use Rattle.cb_fields.specs.declared.links.Link.{Link}
use Rattle.ddc_model.specs.declared.rows.Blob.{Blob}
use Rattle.ddc_model.specs.declared.rows.BlobName.{BlobName}
use Rattle.ddc_model.specs.declared.entry.Stored.{Stored}
use Rattle.ddc_model.specs.declared.entry.Entry.{Entry}
use Rattle.ddc_model.specs.declared.entry.Entry.TheVariants.{Put, Finalise}
use Rattle.ddc_model.specs.declared.fault.StoreFault.{StoreFault}
use Rattle.ddc_model.specs.declared.fault.StoreFault.TheVariants.{UnknownSpace}
use Rattle.ddc_model.specs.Keys.{blob_cmp, blob_total, blob_exact}
use Rattle.ddc_model.specs.State.{State, blob_name, blob_at, has_blob, has_space}
use Rattle.ddc_model.specs.Entries.{with_put_root, blob_of, pinned}
use Rattle.ddc_model.specs.Content.{Content, content_hash}
use Rattle.ddc_model.specs.Closure.{Links, links_in, with_links, AreNeeds}
use Rattle.ddc_model.specs.Counts.{added, full}
use Rattle.ddc_model.specs.Sound.{Cache}
use Rattle.ddc_model.specs.Commands.{changed, hour_of, stored_content, needs_none, fresh_where, fresh_root, with_object, put_entry, put_fault, PutWhere, PutAs, is_done, FinaliseWhere, FinaliseAs}
use Rattle.ddc_model.proofs.Maps.{get_here, get_away, same_or_not}
use Rattle.ddc_book.specs.inside.Making.{full_by}

pub no_needs : (needs : List IoHash) → nat_eq (length needs) 0 ≡ needs_none needs
no_needs [] = grind (arith, nat_tests)
no_needs (x ∷ xs) = grind (arith, nat_tests)

is_none : (needs : List IoHash) → length needs ≡ 0 → needs_none needs ≡ true
is_none [] e = refl
is_none (x ∷ xs) e = absurd (omega arith)

-- ---- the links with the object of a put

abbrev links_of : Option Blob → Option (List Link)
links_of found = option_map (λ (blob : Blob). blob.links) found

same_name : (space : List ℕ) → name_cmp space space ≡ Equal
same_name space = by_cases (name_cmp space space) (name_total.antisymm space space) where
  by_cases : (o : Ordering) → o ≡ ordering_reverse o → o ≡ Equal
  by_cases Less e = absurd (cc)
  by_cases Equal e = refl
  by_cases Greater e = absurd (cc)

module _ (s : State) (space : List ℕ) (hash : IoHash) (blob : Blob) where
  added_links : (other : IoHash) → links_of (get (insert s.blobs (blob_name space hash) blob) (blob_name space other)) ≡ with_links (links_in s space) hash blob.links other
  added_links other =
      let test : is_eq (blob_cmp (blob_name space other) (blob_name space hash)) ≡ is_at (io_hash_cmp hash) other = ap (λ (o : Ordering). is_eq (ordering_then o (io_hash_cmp other hash))) (same_name space) ∙ (eq_by_cmp_equiv io_hash_total).symm other hash in
      ap links_of (get-insert blob_total s.blobs (blob_name space hash) blob (blob_name space other)) ∙ ap (λ (b : Bool). links_of (cond b (Some blob) (get s.blobs (blob_name space other)))) test ∙ branch (is_at (io_hash_cmp hash) other) where
        branch : (b : Bool) → links_of (cond b (Some blob) (get s.blobs (blob_name space other))) ≡ (if b then Some blob.links else links_in s space other)
        branch true = refl
        branch false = refl

  same_links : (found : Blob) → get s.blobs (blob_name space hash) ≡ Some found → found.links ≡ blob.links → (other : IoHash) → links_of (get (insert s.blobs (blob_name space hash) blob) (blob_name space other)) ≡ links_in s space other
  same_links found is same other = split (same_or_not blob_total blob_exact (blob_name space other) (blob_name space hash)) where
    split : (blob_name space other ≡ blob_name space hash) ⊎ (blob_name space other ≡ blob_name space hash → ⊥) → links_of (get (insert s.blobs (blob_name space hash) blob) (blob_name space other)) ≡ links_in s space other
    split (inl here) =
        ap (λ (n : BlobName). links_of (get (insert s.blobs (blob_name space hash) blob) n)) here
        ∙ ap links_of (get_here blob_total blob_exact s.blobs (blob_name space hash) blob)
        ∙ ap Some (sym same)
        ∙ sym (ap (λ (n : BlobName). links_of (get s.blobs n)) here ∙ ap links_of is)
    split (inr away) = ap links_of (get_away blob_total blob_exact s.blobs (blob_name space hash) blob (blob_name space other) away)

module _ (s : State) (name : RefName) (content : Content) (hour : ℕ) where
  abbrev root : IoHash
  root = content_hash content.bytes

  pub new_links : blob_at s name.space (content_hash content.bytes) ≡ None → links_in (with_object s name content hour) name.space ≡ with_links (links_in s name.space) (content_hash content.bytes) content.links
  new_links absent =
      ap (λ (found : Option Blob). links_in (with_put_root s name.space root (fresh_where s found content) (hour_of s hour)) name.space) absent
      ∙ (λ i other. added_links s name.space root (blob_of (stored_content s content) (hour_of s hour)) other i)

  pub known_links : has_blob s name.space (content_hash content.bytes) ≡ true → links_in (with_object s name content hour) name.space ≡ links_in s name.space
  known_links there = by_cases (blob_at s name.space root) refl there where
    by_cases : (found : Option Blob) → blob_at s name.space root ≡ found → is_some found ≡ true → links_in (with_object s name content hour) name.space ≡ links_in s name.space
    by_cases None is some = absurd (cc)
    by_cases (Some found) is some =
        ap (λ (o : Option Blob). links_in (with_put_root s name.space root (fresh_where s o content) (hour_of s hour)) name.space) is
        ∙ ap (λ (o : Option Blob). links_in (record s { blobs = pinned s.blobs (blob_name name.space root) (hour_of s hour) o }) name.space) is
        ∙ (λ i other. same_links s name.space root (record found { row = record found.row { at = max found.row.at (hour_of s hour) } }) found is refl other i)

  pub fresh_known : has_blob s name.space (content_hash content.bytes) ≡ true → None ≡ fresh_root s name content
  fresh_known there = by_cases (blob_at s name.space root) there where
    by_cases : (found : Option Blob) → is_some found ≡ true → None ≡ fresh_where s found content
    by_cases None some = absurd (cc)
    by_cases (Some found) some = refl

  pub fresh_new : blob_at s name.space (content_hash content.bytes) ≡ None → Some (stored_content s content) ≡ fresh_root s name content
  fresh_new absent = sym (ap (λ (found : Option Blob). fresh_where s found content) absent)

  pub put_unknown : has_space s name.space ≡ false → PutAs s name content hour (Err UnknownSpace) None
  put_unknown unknown =
      subst (λ (there : Bool). PutWhere (if there then full s (put_entry s name content [] hour) else Some UnknownSpace) s name content hour (Err UnknownSpace) None) (sym unknown) (refl, refl)

  faults : has_space s name.space ≡ true → (fresh : Option Stored) → fresh ≡ fresh_root s name content → (fault : Option StoreFault) → full_by s 0 fresh (added (is_some (get s.slots name))) ≡ fault
      → put_fault s name content hour ≡ fault
  faults known fresh is fault room =
      (λ i. if known i then full s (put_entry s name content [] hour) else Some UnknownSpace)
      ∙ ap (λ (f : Option Stored). full_by s 0 f (added (is_some (get s.slots name)))) (sym is) ∙ room

  pub put_is_full : has_space s name.space ≡ true → (fresh : Option Stored) → fresh ≡ fresh_root s name content → (fault : StoreFault) → full_by s 0 fresh (added (is_some (get s.slots name))) ≡ Some fault
      → PutAs s name content hour (Err fault) None
  put_is_full known fresh is fault room = subst (λ (f : Option StoreFault). PutWhere f s name content hour (Err fault) None) (sym (faults known fresh is (Some fault) room)) (refl, refl)

  pub put_makes : has_space s name.space ≡ true → (fresh : Option Stored) → fresh ≡ fresh_root s name content → full_by s 0 fresh (added (is_some (get s.slots name))) ≡ None
      → (needs : List IoHash) → AreNeeds (links_in (with_object s name content hour) name.space) (content_hash content.bytes) needs
      → PutAs s name content hour (Ok needs) (Some (put_entry s name content needs hour))
  put_makes known fresh is room needs are =
      subst (λ (f : Option StoreFault). PutWhere f s name content hour (Ok needs) (Some (put_entry s name content needs hour))) (sym (faults known fresh is None room))
      (needs, are, refl, refl)

  -- the entry of a put, by its parts
  pub entry_is : (entry : Entry) (hash : IoHash) (fresh : Option Stored) (needs : List IoHash) → entry ≡ Put name hash fresh (needs_none needs) (hour_of s hour) → hash ≡ content_hash content.bytes → fresh ≡ fresh_root s name content
      → entry ≡ put_entry s name content needs hour
  entry_is entry hash fresh needs e same is = e ∙ (λ i. Put name (same i) (is i) (needs_none needs) (hour_of s hour))

-- what a put of an object that is there gives
pub known_put : (cache : Cache) (name : RefName) (content : Content) (hour : ℕ) → has_space cache.index name.space ≡ true → has_blob cache.index name.space (content_hash content.bytes) ≡ true
    → (refs : ℕ) → refs ≡ added (is_some (get cache.index.slots name)) → None ≡ full_by cache.index 0 None refs → (needs : List IoHash) (hash : IoHash) → hash ≡ content_hash content.bytes
    → AreNeeds (links_in cache.index name.space) hash needs → (entry : Entry) → entry ≡ Put name hash None (needs_none needs) (hour_of cache.index hour) → PutAs cache.index name content hour (Ok needs) (Some entry)
known_put cache name content hour known there refs more room needs hash same are entry made =
    let fresh = fresh_known cache.index name content hour there in
    subst (λ (e : Entry). PutAs cache.index name content hour (Ok needs) (Some e)) (sym (entry_is cache.index name content hour entry hash None needs made same fresh))
    (put_makes cache.index name content hour known None fresh (ap (full_by cache.index 0 None) (sym more) ∙ sym room) needs
    (subst (λ (links : Links). AreNeeds links (content_hash content.bytes) needs) (sym (known_links cache.index name content hour there)) (subst (λ (h : IoHash). AreNeeds (links_in cache.index name.space) h needs) same are)))

-- what a put of an object that isn't there gives
pub new_put : (cache : Cache) (name : RefName) (content : Content) (hour : ℕ) → has_space cache.index name.space ≡ true → blob_at cache.index name.space (content_hash content.bytes) ≡ None
    → (stored_as : Stored) → stored_as ≡ stored_content cache.index content → (refs : ℕ) → refs ≡ added (is_some (get cache.index.slots name)) → None ≡ full_by cache.index 0 (Some stored_as) refs
    → (needs : List IoHash) (hash : IoHash) → hash ≡ content_hash content.bytes → (links : List Link) → links ≡ content.links
    → AreNeeds (with_links (links_in cache.index name.space) hash links) hash needs → (entry : Entry) → entry ≡ Put name hash (Some stored_as) (needs_none needs) (hour_of cache.index hour) → PutAs cache.index name content hour (Ok needs) (Some entry)
new_put cache name content hour known absent stored_as is refs more room needs hash same links found are entry made =
    let fresh = ap Some is ∙ fresh_new cache.index name content hour absent in
    subst (λ (e : Entry). PutAs cache.index name content hour (Ok needs) (Some e)) (sym (entry_is cache.index name content hour entry hash (Some stored_as) needs made same fresh))
    (put_makes cache.index name content hour known (Some stored_as) fresh (ap (full_by cache.index 0 (Some stored_as)) (sym more) ∙ sym room) needs
    (subst (λ (l : Links). AreNeeds l (content_hash content.bytes) needs) (sym (new_links cache.index name content hour absent))
    (subst (λ (l : List Link). AreNeeds (with_links (links_in cache.index name.space) (content_hash content.bytes) l) (content_hash content.bytes) needs) found
    (subst (λ (h : IoHash). AreNeeds (with_links (links_in cache.index name.space) h links) h needs) same are))))

-- the bytes of the command don't matter to an entry that adds no blob
pub known_alike : (cache : Cache) (bytes others : List ℕ) (name : RefName) (hash : IoHash) (whole : Bool) (now : ℕ) (entry : Entry) → entry ≡ Put name hash None whole now → changed cache bytes (Some entry) ≡ changed cache others (Some entry)
known_alike cache bytes others name hash whole now entry is = ap (λ (e : Entry). changed cache bytes (Some e)) is ∙ sym (ap (λ (e : Entry). changed cache others (Some e)) is)

-- ---- finalising

module _ (s : State) (name : RefName) (hash : IoHash) (hour : ℕ) where
  pub finalise_refused : (fault : StoreFault) → is_done s name hash ≡ Err fault → FinaliseAs s name hash hour (Err fault) None
  finalise_refused fault is = subst (λ (known : Result Bool StoreFault). FinaliseWhere known s name hash hour (Err fault) None) (sym is) (refl, refl)

  pub finalise_again : is_done s name hash ≡ Ok true → FinaliseAs s name hash hour (Ok []) None
  finalise_again is = subst (λ (known : Result Bool StoreFault). FinaliseWhere known s name hash hour (Ok []) None) (sym is) (refl, refl)

  pub finalise_makes : is_done s name hash ≡ Ok false → (needs : List IoHash) → AreNeeds (links_in s name.space) hash needs → length needs ≡ 0 → (now : ℕ) → now ≡ hour_of s hour
      → FinaliseAs s name hash hour (Ok needs) (Some (Finalise name hash now))
  finalise_makes is needs are none now later =
      subst (λ (known : Result Bool StoreFault). FinaliseWhere known s name hash hour (Ok needs) (Some (Finalise name hash now))) (sym is)
      (needs, are, refl, (λ i. Some (Finalise name hash (later i))) ∙ sym (λ i. if is_none needs none i then Some (Finalise name hash (hour_of s hour)) else None))

  is_some_need : (needs : List IoHash) → (length needs ≡ 0 → ⊥) → needs_none needs ≡ false
  is_some_need [] some = absurd (some refl)
  is_some_need (x ∷ xs) some = refl

  pub finalise_waits : is_done s name hash ≡ Ok false → (needs : List IoHash) → AreNeeds (links_in s name.space) hash needs → (length needs ≡ 0 → ⊥) → FinaliseAs s name hash hour (Ok needs) None
  finalise_waits is needs are some =
      subst (λ (known : Result Bool StoreFault). FinaliseWhere known s name hash hour (Ok needs) None) (sym is)
      (needs, are, refl, sym (λ i. if is_some_need needs some i then Some (Finalise name hash (hour_of s hour)) else None))
