-- What maps by hash in a map by namespace read and write, as one map by the names of blobs.
use Rattle.std.specs.Prelude.{◌≡◌, ℕ, Bool, true, false, cond, not, List, [], ◌∷◌, Option, None, Some, is_some, refl}
use Rattle.std.proofs.Common.{ap, sym, ◌∙◌}
use Rattle.std.specs.declared.cmp.Ordering.{Ordering}
use Rattle.std.specs.declared.cmp.Ordering.TheVariants.{Less, Equal, Greater}
use Rattle.std.specs.Ordering.{eq_by_cmp, is_eq, ordering_then}
use Rattle.std.specs.Cmp.{eq_by_cmp_equiv}
use Rattle.std.specs.Map.{lookup}
use Rattle.std.specs.BTreeMap.{BTreeMap, is_at, WritesThrough}
use Rattle.std.specs.FinMap.{FinMap, get, insert, remove, len, get-empty, get-insert, get-remove, get-retain_keys, same_map}
use Rattle.ddc_names.specs.declared.hash.IoHash.{IoHash}
use Rattle.ddc_names.specs.Orders.{name_cmp, name_exact, name_total, io_hash_cmp, io_hash_total}
use Rattle.ddc_model.specs.declared.rows.BlobName.{BlobName}
use Rattle.ddc_model.specs.Keys.{blob_cmp, blob_exact, blob_total}
use Rattle.ddc_model.specs.State.{blob_name}
use Rattle.ddc_state.specs.Nested.{with_space, in_spaces}
use Rattle.ddc_state.proofs.Given.{len_given}
use Rattle.ddc_state.proofs.Rows.{set_none}

module _ {V : Type 0} where
  turned : (b : Bool) (o : Option V) → cond (not b) o None ≡ cond b None o
  turned true o = refl
  turned false o = refl

  placed : (o p : Ordering) (v : V) (inside before : Option V) → cond (is_eq (ordering_then o p)) (Some v) (cond (is_eq o) inside before) ≡ cond (is_eq o) (cond (is_eq p) (Some v) inside) before
  placed Less p v inside before = refl
  placed Equal p v inside before = refl
  placed Greater p v inside before = refl

  get-with_space : (space : List ℕ) (es : List (IoHash × V)) (m : FinMap blob_cmp V) (q : BlobName)
      → get (with_space space es m) q ≡ cond (eq_by_cmp name_cmp q.space space) (lookup (is_at (io_hash_cmp q.hash)) es) (get m q)
  get-with_space space [] m q =
      get-retain_keys m (λ name. not (eq_by_cmp name_cmp name.space space)) q (λ x tied. ap (λ (name : BlobName). not (eq_by_cmp name_cmp name.space space)) (sym (blob_exact q x tied)))
      ∙ turned (eq_by_cmp name_cmp q.space space) (get m q)
  get-with_space space (e ∷ es) m q =
      get-insert blob_total (with_space space es m) (blob_name space e.0) e.1 q
      ∙ ap (cond (eq_by_cmp blob_cmp q (blob_name space e.0)) (Some e.1)) (get-with_space space es m q)
      ∙ placed (name_cmp q.space space) (io_hash_cmp q.hash e.0) e.1 (lookup (is_at (io_hash_cmp q.hash)) es) (get m q)

  -- the value at a hash of the map of a namespace
  abbrev pub found : Option (BTreeMap IoHash V) → IoHash → Option V
  found None hash = None
  found (Some blobs) hash = lookup (is_at (io_hash_cmp hash)) blobs.entries

  either : (b : Bool) (blobs : BTreeMap IoHash V) (others : Option (BTreeMap IoHash V)) (hash : IoHash) → cond b (found (Some blobs) hash) (found others hash) ≡ found (cond b (Some blobs) others) hash
  either true blobs others hash = refl
  either false blobs others hash = refl

  -- a blob is looked up by its namespace, and then by its hash
  pub read : (es : List (List ℕ × BTreeMap IoHash V)) (q : BlobName) → get (in_spaces es) q ≡ found (lookup (is_at (name_cmp q.space)) es) q.hash
  read [] q = get-empty blob_cmp q
  read (e ∷ es) q =
      get-with_space e.0 e.1.entries (in_spaces es) q ∙ ap (cond (eq_by_cmp name_cmp q.space e.0) (found (Some e.1) q.hash)) (read es q)
      ∙ either (eq_by_cmp name_cmp q.space e.0) e.1 (lookup (is_at (name_cmp q.space)) es) q.hash

  -- the maps are the same but for that of one namespace
  abbrev pub Renews : List (List ℕ × BTreeMap IoHash V) → List (List ℕ × BTreeMap IoHash V) → List ℕ → BTreeMap IoHash V → Type 0
  Renews es fs space blobs = (q : List ℕ) → lookup (is_at (name_cmp q)) fs ≡ cond (is_at (name_cmp space) q) (Some blobs) (lookup (is_at (name_cmp q)) es)

  -- that map has something else at one hash
  abbrev pub Rewrites : Option (BTreeMap IoHash V) → BTreeMap IoHash V → IoHash → Option V → Type 0
  Rewrites before blobs hash w = (q : IoHash) → lookup (is_at (io_hash_cmp q)) blobs.entries ≡ cond (is_at (io_hash_cmp hash) q) w (found before q)

  read_renewed : (es fs : List (List ℕ × BTreeMap IoHash V)) (space : List ℕ) (blobs : BTreeMap IoHash V) → Renews es fs space blobs
      → (q : BlobName) → get (in_spaces fs) q ≡ cond (eq_by_cmp name_cmp q.space space) (found (Some blobs) q.hash) (get (in_spaces es) q)
  read_renewed es fs space blobs renews q =
      read fs q ∙ ap (λ o. found o q.hash) (renews q.space ∙ ap (λ b. cond b (Some blobs) (lookup (is_at (name_cmp q.space)) es)) ((eq_by_cmp_equiv name_total).symm space q.space))
      ∙ sym (either (eq_by_cmp name_cmp q.space space) blobs (lookup (is_at (name_cmp q.space)) es) q.hash)
      ∙ ap (cond (eq_by_cmp name_cmp q.space space) (found (Some blobs) q.hash)) (sym (read es q))

  there : (o p : Ordering) (now w before : Option V) → (o ≡ Equal → now ≡ cond (is_eq p) w before) → cond (is_eq o) now before ≡ cond (is_eq (ordering_then o p)) w before
  there Less p now w before h = refl
  there Equal p now w before h = h refl
  there Greater p now w before h = refl

  read_rewritten : (es fs : List (List ℕ × BTreeMap IoHash V)) (name : BlobName) (blobs : BTreeMap IoHash V) (w : Option V)
      → Renews es fs name.space blobs → Rewrites (lookup (is_at (name_cmp name.space)) es) blobs name.hash w
      → (q : BlobName) → get (in_spaces fs) q ≡ cond (eq_by_cmp blob_cmp q name) w (get (in_spaces es) q)
  read_rewritten es fs name blobs w renews rewrites q =
      read_renewed es fs name.space blobs renews q
      ∙ there (name_cmp q.space name.space) (io_hash_cmp q.hash name.hash) (found (Some blobs) q.hash) w (get (in_spaces es) q) (λ tied.
      rewrites q.hash ∙ ap (λ b. cond b w (found (lookup (is_at (name_cmp name.space)) es) q.hash)) ((eq_by_cmp_equiv io_hash_total).symm name.hash q.hash)
      ∙ ap (λ (space : List ℕ). cond (eq_by_cmp io_hash_cmp q.hash name.hash) w (found (lookup (is_at (name_cmp space)) es) q.hash)) (sym (name_exact q.space name.space tied))
      ∙ ap (cond (eq_by_cmp io_hash_cmp q.hash name.hash) w) (sym (read es q)))

  -- what is found where a namespace has this map, and where it has none
  pub read_in : (es : List (List ℕ × BTreeMap IoHash V)) (name : BlobName) (blobs : BTreeMap IoHash V) → Some blobs ≡ lookup (is_at (name_cmp name.space)) es → lookup (is_at (io_hash_cmp name.hash)) blobs.entries ≡ get (in_spaces es) name
  read_in es name blobs was = ap (λ o. found o name.hash) was ∙ sym (read es name)

  pub read_none : (es : List (List ℕ × BTreeMap IoHash V)) (name : BlobName) → None ≡ lookup (is_at (name_cmp name.space)) es → None ≡ get (in_spaces es) name
  read_none es name was = ap (λ o. found o name.hash) was ∙ sym (read es name)

  given : (es fs : List (List ℕ × BTreeMap IoHash V)) (name : BlobName) (blobs : BTreeMap IoHash V) (v : V)
      → Renews es fs name.space blobs → Rewrites (lookup (is_at (name_cmp name.space)) es) blobs name.hash (Some v) → in_spaces fs ≡ insert (in_spaces es) name v
  given es fs name blobs v renews rewrites = same_map blob_total blob_exact _ _ (λ q. read_rewritten es fs name blobs (Some v) renews rewrites q ∙ sym (get-insert blob_total (in_spaces es) name v q))

  -- a namespace's first value is put in
  pub given_first : (es fs : List (List ℕ × BTreeMap IoHash V)) (name : BlobName) (none blobs : BTreeMap IoHash V) (v : V)
      → Renews es fs name.space blobs → None ≡ lookup (is_at (name_cmp name.space)) es → none.entries ≡ [] → Rewrites (Some none) blobs name.hash (Some v) → in_spaces fs ≡ insert (in_spaces es) name v
  given_first es fs name none blobs v renews was empty rewrites = given es fs name blobs v renews (λ q.
      rewrites q ∙ ap (cond (is_at (io_hash_cmp name.hash) q) (Some v)) (ap (lookup (is_at (io_hash_cmp q))) empty ∙ ap (λ o. found o q) was))

  unmoved : (o : Ordering) (now before : Option V) → (o ≡ Equal → now ≡ before) → cond (is_eq o) now before ≡ before
  unmoved Less now before h = refl
  unmoved Equal now before h = h refl
  unmoved Greater now before h = refl

  -- the map of a namespace is written to, where it has one
  module _ (m n : BTreeMap (List ℕ) (BTreeMap IoHash V)) (name : BlobName) (old new : BTreeMap IoHash V) (was : Some old ≡ lookup (is_at (name_cmp name.space)) m.entries)
      (through : WritesThrough name_cmp (name_cmp name.space) m new n) where
    renews : Renews m.entries n.entries name.space new
    renews = (through.3 (ap is_some (sym was))).0

    rewritten : (w : Option V) → Rewrites (Some old) new name.hash w → Rewrites (lookup (is_at (name_cmp name.space)) m.entries) new name.hash w
    rewritten w rewrites q = rewrites q ∙ ap (λ o. cond (is_at (io_hash_cmp name.hash) q) w (found o q)) was

    pub given_in : (v : V) → Rewrites (Some old) new name.hash (Some v) → in_spaces n.entries ≡ insert (in_spaces m.entries) name v
    given_in v rewrites = given m.entries n.entries name new v renews (rewritten (Some v) rewrites)

    pub taken_in : Rewrites (Some old) new name.hash None → in_spaces n.entries ≡ remove (in_spaces m.entries) name
    taken_in rewrites = same_map blob_total blob_exact _ _ (λ q.
        read_rewritten m.entries n.entries name new None renews (rewritten None rewrites) q ∙ sym (get-remove blob_total (in_spaces m.entries) name q))

    pub kept_in : new.entries ≡ old.entries → in_spaces n.entries ≡ in_spaces m.entries
    kept_in same = same_map blob_total blob_exact _ _ (λ q.
        read_renewed m.entries n.entries name.space new renews q
        ∙ unmoved (name_cmp q.space name.space) (found (Some new) q.hash) (get (in_spaces m.entries) q) (λ tied.
        ap (lookup (is_at (io_hash_cmp q.hash))) same ∙ ap (λ o. found o q.hash) was
        ∙ ap (λ (at : List ℕ). found (lookup (is_at (name_cmp at)) m.entries) q.hash) (sym (name_exact q.space name.space tied)) ∙ sym (read m.entries q)))

    module _ (w : V) (writes : WritesThrough io_hash_cmp (io_hash_cmp name.hash) old w new) where
      pub written : (v : V) → Some v ≡ lookup (is_at (io_hash_cmp name.hash)) old.entries → in_spaces n.entries ≡ insert (in_spaces m.entries) name w
      written v some = given_in w (writes.3 (ap is_some (sym some))).0

      len_written_at : (o : Option V) → o ≡ lookup (is_at (io_hash_cmp name.hash)) old.entries → len (in_spaces n.entries) ≡ len (in_spaces m.entries)
      len_written_at None none = ap len (kept_in (writes.0 ∙ set_none (is_at (io_hash_cmp name.hash)) old.entries w none))
      len_written_at (Some v) some = ap len (written v some) ∙ len_given blob_cmp blob_total (in_spaces m.entries) name w true (ap is_some (some ∙ read_in m.entries name old was))

      pub len_written : len (in_spaces n.entries) ≡ len (in_spaces m.entries)
      len_written = len_written_at (lookup (is_at (io_hash_cmp name.hash)) old.entries) refl
