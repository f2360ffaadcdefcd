-- What meeting nodes keeps.
use Rattle.std.specs.Prelude.{◌≡◌, ℕ, ◌+◌, ◌<◌, ◌≤◌, Bool, true, false, cond, List, [], ◌∷◌, ◌++◌, Option, None, Some, is_some, option_map, ◌⊎◌, length, refl, slice_index_or}
use Rattle.std.proofs.Common.{ap, sym, ◌∙◌, subst, inl, inr, arith}
use Rattle.std.specs.FinMap.{find}
use Rattle.std.specs.BTreeMap.{is_at}
use Rattle.std.specs.declared.cmp.Ordering.{Ordering}
use Rattle.std.specs.declared.cmp.Ordering.TheVariants.{Less, Equal, Greater}
use Rattle.std.specs.Ordering.{is_eq}
use Rattle.std.specs.Cmp.{eq_by_cmp_equiv}
use Rattle.ddc_names.specs.declared.hash.IoHash.{IoHash}
use Rattle.ddc_names.specs.Orders.{io_hash_cmp, io_hash_exact, io_hash_total, name_cmp, name_total}
use Rattle.cb_fields.specs.declared.links.Link.{Link}
use Rattle.cb_fields.specs.declared.links.LinkKind.{LinkKind}
use Rattle.cb_fields.specs.declared.links.LinkKind.TheVariants.{Object, Binary}
use Rattle.ddc_model.specs.declared.rows.Blob.{Blob}
use Rattle.ddc_model.specs.declared.rows.BlobName.{BlobName}
use Rattle.ddc_model.specs.declared.rows.BlobRow.{BlobRow}
use Rattle.ddc_model.specs.Keys.{blob_cmp, blob_exact}
use Rattle.ddc_model.specs.State.{blob_name}
use Rattle.ddc_model.specs.Closure.{Links, object, IsReached}
use Rattle.needs_resolver.specs.Walking.{Met, InWork, IsReachedFrom, IsCovered, IsKnown, IsWalk, IsMet, AreMet, one_unmet, unmet}
use borrow.Author.Count.{below_more}

abbrev Test : Type 0
Test = IoHash → Bool

pub covered_kept : (base : Links) (seen absent seen' absent' : Test) (node : Link) → ((h : IoHash) → seen h ≡ true → seen' h ≡ true) → ((h : IoHash) → absent h ≡ true → absent' h ≡ true) → IsCovered base seen absent node → IsCovered base seen' absent' node
covered_kept base seen absent seen' absent' node s a c = elim c [ inl x ↦ inl (a node.hash x) | inr p ↦ elim p [ inl x ↦ inr (inl (s node.hash x)) | inr q ↦ inr (inr q) ] ]

was_not : (b b' : Bool) → (b ≡ true → b' ≡ true) → b' ≡ false → b ≡ false
was_not true b' f e = let g : b' ≡ true = f refl in absurd (cc)
was_not false b' f e = refl

-- ---- meeting one node keeps what is known, and the walk

pub met_known : (base links : Links) (node : Link) (old new : Met) → IsMet base node old new → IsKnown base links old.seen old.work → IsKnown base links new.seen new.work
met_known base links node old new met known = record {
  present = λ h t. elim (met.seen_new h t) [
    | inl x ↦ known.present h x
    | inr p ↦ split h (old.seen h) refl p.2
  ];
  others = λ h f. known.others h (was_not (old.seen h) (new.seen h) (met.seen_kept h) f);
  unread = λ h i. elim (met.work_new h i) [ inl x ↦ known.unread h x | inr p ↦ known.others h p.1 ];
} where
  split : (h : IoHash) (b : Bool) → old.seen h ≡ b → is_some (base h) ≡ true → is_some (links h) ≡ true
  split h true e there = known.present h e
  split h false e there = ap is_some (known.others h e) ∙ there

pub met_kept : (base links : Links) (roots : Test) (node : Link) (held : IoHash) (old new : Met)
    → IsReachedFrom links roots node → IsMet base node old new → IsKnown base links old.seen old.work → IsWalk base links roots old.seen old.absent (held ∷ old.work) → IsWalk base links roots new.seen new.absent (held ∷ new.work)
met_kept base links roots node held old new reached met known walk = record {
  seen_reached = λ h t. elim (met.seen_new h t) [ inl x ↦ walk.seen_reached h x | inr p ↦ subst (IsReachedFrom links roots) (sym p.0) reached ];
  absent_missing = λ h t. elim (met.absent_new h t) [
    | inl x ↦ walk.absent_missing h x
    | inr p ↦ (reached.0, reached.1, (known.others h p.1 ∙ p.2, node.kind, subst (λ (g : IoHash). IsReached links reached.0 (record { kind = node.kind; hash = g })) (sym p.0) reached.2))
  ];
  ahead_seen = λ h t. elim t [
    | inl x ↦ met.seen_kept h (walk.ahead_seen h (inl x))
    | inr y ↦ elim (met.work_new h y) [ inl z ↦ met.seen_kept h (walk.ahead_seen h (inr z)) | inr z ↦ z.0 ]
  ];
  read = λ h t. elim (met.seen_new h t) [
    | inl x ↦ elim (walk.read h x) [
      | inl y ↦ inl (elim y [ inl z ↦ inl z | inr z ↦ inr (met.work_kept h z) ])
      | inr r ↦ inr (λ found e m c. covered_kept base old.seen old.absent new.seen new.absent m met.seen_kept met.absent_kept (r found e m c))
    ]
    | inr p ↦ inl (inr p.1)
  ];
}

-- ---- meeting a list of nodes

pub none_met : (base : Links) (found : List Link) (met : Met) → AreMet base found 0 met met
none_met base found met = record {
  known = λ links k. k;
  kept = λ links roots held k r w. w;
  covered = λ k d lt. absurd (omega arith);
  still = λ l c. c;
}

pub one_more : (base : Links) (found : List Link) (i : ℕ) (node : Link) (old now new : Met) → i < length found → ((d : Link) → slice_index_or found i d ≡ node)
    → AreMet base found i old now → IsMet base node now new → AreMet base found (i + 1) old new
one_more base found i node old now new lt is before met = record {
  known = λ links k. met_known base links node now new met (before.known links k);
  kept = λ links roots held k r walk. met_kept base links roots node held now new (r node (i, lt, is node)) met (before.known links k) (before.kept links roots held k r walk);
  covered = λ k d below. below_more (λ j. (x : Link) → IsCovered base new.seen new.absent (slice_index_or found j x)) i
      (λ j lower x. covered_kept base now.seen now.absent new.seen new.absent (slice_index_or found j x) met.seen_kept met.absent_kept (before.covered j x lower))
      (λ x. subst (IsCovered base new.seen new.absent) (sym (is x)) met.covered) k below d;
  still = λ m c. covered_kept base now.seen now.absent new.seen new.absent m met.seen_kept met.absent_kept (before.still m c);
}

-- ---- the last of the work list is held next

pub in_pop : (work : List IoHash) (held h : IoHash) → InWork (work ++ held ∷ []) h → InWork (held ∷ work) h
in_pop [] held h i = i
in_pop (x ∷ xs) held h i = elim i [ inl a ↦ inr (inl a) | inr b ↦ elim (in_pop xs held h b) [ inl c ↦ inl c | inr d ↦ inr (inr d) ] ]

pub in_push : (work : List IoHash) (held h : IoHash) → InWork (held ∷ work) h → InWork (work ++ held ∷ []) h
in_push [] held h i = i
in_push (x ∷ xs) held h i = elim i [ inl a ↦ inr (in_push xs held h (inl a)) | inr b ↦ elim b [ inl c ↦ inl c | inr d ↦ inr (in_push xs held h (inr d)) ] ]

-- ---- a set with a hash more

abbrev pub is_with : Test → IoHash → Test → Type 0
is_with seen h seen' = (q : IoHash) → seen' q ≡ cond (is_at (io_hash_cmp h) q) true (seen q)

tied_equal : (o : Ordering) → is_eq o ≡ true → o ≡ Equal
tied_equal Less e = absurd (cc)
tied_equal Equal e = refl
tied_equal Greater e = absurd (cc)

pub tied_same : (a b : IoHash) → is_at (io_hash_cmp a) b ≡ true → a ≡ b
tied_same a b t = io_hash_exact a b (tied_equal _ t)

pub tied_itself : (h : IoHash) → is_at (io_hash_cmp h) h ≡ true
tied_itself h = (eq_by_cmp_equiv io_hash_total).refl h

tied_name : (space : List ℕ) → name_cmp space space ≡ Equal
tied_name space = tied_equal _ ((eq_by_cmp_equiv name_total).refl space)

pub with_itself : (seen seen' : Test) (h : IoHash) → is_with seen h seen' → seen' h ≡ true
with_itself seen seen' h w = w h ∙ ap (λ b. cond b true (seen h)) (tied_itself h)

with_kept : (seen seen' : Test) (h : IoHash) → is_with seen h seen' → (q : IoHash) → seen q ≡ true → seen' q ≡ true
with_kept seen seen' h w q t = w q ∙ ap (cond (is_at (io_hash_cmp h) q) true) t ∙ either (is_at (io_hash_cmp h) q) where
  either : (b : Bool) → cond b true true ≡ true
  either true = refl
  either false = refl

pub with_new : (seen seen' : Test) (h : IoHash) → is_with seen h seen' → (q : IoHash) → seen' q ≡ true → (seen q ≡ true) ⊎ (h ≡ q)
with_new seen seen' h w q t = split (is_at (io_hash_cmp h) q) refl (sym (w q) ∙ t) where
  split : (b : Bool) → is_at (io_hash_cmp h) q ≡ b → cond b true (seen q) ≡ true → (seen q ≡ true) ⊎ (h ≡ q)
  split true e k = inr (tied_same h q e)
  split false e k = inl k

-- ---- how many stored blobs aren't met

one_kept : (o : Ordering) (b s t : Bool) → t ≡ cond b true s → one_unmet o t ≤ one_unmet o s
one_kept Less b s t k = omega arith
one_kept Equal true true t k = rw k (omega arith)
one_kept Equal true false t k = rw k (omega arith)
one_kept Equal false true t k = rw k (omega arith)
one_kept Equal false false t k = rw k (omega arith)
one_kept Greater b s t k = omega arith

unmet_kept : (es : List (BlobName × Blob)) (space : List ℕ) (h : IoHash) (seen seen' : Test) → is_with seen h seen' → unmet space seen' es ≤ unmet space seen es
unmet_kept [] space h seen seen' w = omega arith
unmet_kept (e ∷ es) space h seen seen' w =
    let here : one_unmet (name_cmp space e.0.space) (seen' e.0.hash) ≤ one_unmet (name_cmp space e.0.space) (seen e.0.hash) = one_kept (name_cmp space e.0.space) (is_at (io_hash_cmp h) e.0.hash) (seen e.0.hash) (seen' e.0.hash) (w e.0.hash) in
    let rest : unmet space seen' es ≤ unmet space seen es = unmet_kept es space h seen seen' w in
    omega arith

here_less : (o : Ordering) (t u : Bool) (n m : ℕ) → o ≡ Equal → t ≡ true → u ≡ false → n ≤ m → (one_unmet o t + n) + 1 ≤ one_unmet o u + m
here_less o t u n m eo et eu l = rw eo (rw et (rw eu (omega arith)))

one_less : (x y n m : ℕ) → x ≤ y → n + 1 ≤ m → (x + n) + 1 ≤ y + m
one_less x y n m l r = omega arith

-- a stored blob of a hash that is met for the first time
pub unmet_less : (es : List (BlobName × Blob)) (space : List ℕ) (h : IoHash) (seen seen' : Test) → is_with seen h seen' → seen h ≡ false → is_some (find blob_cmp (blob_name space h) es) ≡ true → unmet space seen' es + 1 ≤ unmet space seen es
unmet_less [] space h seen seen' w new there = absurd (cc)
unmet_less (e ∷ es) space h seen seen' w new there = split (is_at (blob_cmp (blob_name space h)) e.0) refl (unmet_less es space h seen seen' w new) where
  split : (b : Bool) → is_at (blob_cmp (blob_name space h)) e.0 ≡ b → (is_some (find blob_cmp (blob_name space h) es) ≡ true → unmet space seen' es + 1 ≤ unmet space seen es) → unmet space seen' (e ∷ es) + 1 ≤ unmet space seen (e ∷ es)
  split true t rest =
      let name : blob_name space h ≡ e.0 = blob_exact (blob_name space h) e.0 (tied_equal _ t) in
      let hash : h ≡ e.0.hash = ap (λ (n : BlobName). n.hash) name in
      here_less (name_cmp space e.0.space) (seen' e.0.hash) (seen e.0.hash) _ _ (subst (λ (n : BlobName). name_cmp space n.space ≡ Equal) name (tied_name space)) (subst (λ (g : IoHash). seen' g ≡ true) hash (with_itself seen seen' h w)) (subst (λ (g : IoHash). seen g ≡ false) hash new) (unmet_kept es space h seen seen' w)
  split false f rest = one_less _ _ _ _ (one_kept (name_cmp space e.0.space) (is_at (io_hash_cmp h) e.0.hash) (seen e.0.hash) (seen' e.0.hash) (w e.0.hash))
      (rest (subst (λ (b : Bool). is_some (cond b (Some e.1) (find blob_cmp (blob_name space h) es)) ≡ true) f there))

-- ---- what a row tells of the links beside it

pub no_links : (o : Option Blob) → None ≡ option_map (λ blob. blob.row) o → option_map (λ blob. blob.links) o ≡ None
no_links None e = refl
no_links (Some blob) e = absurd (cc)

pub has_links : (o : Option Blob) (row : BlobRow) → Some row ≡ option_map (λ blob. blob.row) o → is_some (option_map (λ blob. blob.links) o) ≡ true
has_links None row e = absurd (cc)
has_links (Some blob) row e = refl

pub is_there : (o : Option Blob) (row : BlobRow) → Some row ≡ option_map (λ blob. blob.row) o → is_some o ≡ true
is_there None row e = absurd (cc)
is_there (Some blob) row e = refl

-- ---- the four ways to meet a node

-- an object that was met before
pub meets_seen : (base : Links) (node : Link) (met : Met) → met.seen node.hash ≡ true → IsMet base node met met
meets_seen base node met t = record {
  covered = inr (inl t);
  seen_kept = λ h t. t;
  absent_kept = λ h t. t;
  seen_new = λ h t. inl t;
  absent_new = λ h t. inl t;
  work_kept = λ h t. t;
  work_new = λ h t. inl t;
}

-- an absent hash
pub meets_absent : (base : Links) (node : Link) (met : Met) (absent : Test) → met.seen node.hash ≡ false → base node.hash ≡ None → is_with met.absent node.hash absent → IsMet base node met (record met { absent = absent })
meets_absent base node met absent f none w = record {
  covered = inl (with_itself met.absent absent node.hash w);
  seen_kept = λ h t. t;
  absent_kept = with_kept met.absent absent node.hash w;
  seen_new = λ h t. inl t;
  absent_new = λ h t. elim (with_new met.absent absent node.hash w h t) [
    | inl x ↦ inl x
    | inr e ↦ inr (sym e, subst (λ (g : IoHash). met.seen g ≡ false) e f, subst (λ (g : IoHash). base g ≡ None) e none)
  ];
  work_kept = λ h t. t;
  work_new = λ h t. inl t;
}

-- a stored blob that is no object
pub meets_binary : (base : Links) (node : Link) (met : Met) → is_some (base node.hash) ≡ true → node.kind ≡ Binary → IsMet base node met met
meets_binary base node met there kind = record {
  covered = inr (inr (kind, there));
  seen_kept = λ h t. t;
  absent_kept = λ h t. t;
  seen_new = λ h t. inl t;
  absent_new = λ h t. inl t;
  work_kept = λ h t. t;
  work_new = λ h t. inl t;
}

object_is : (node : Link) → node.kind ≡ Object → object node.hash ≡ node
object_is node k = ap (λ (x : LinkKind). let r : Link = record { kind = x; hash = node.hash } in r) (sym k)

-- a stored object that is met for the first time
pub meets_object : (base : Links) (node : Link) (met : Met) (seen : Test) → met.seen node.hash ≡ false → is_some (base node.hash) ≡ true → node.kind ≡ Object → is_with met.seen node.hash seen
    → IsMet base node met (record met { seen = seen; work = met.work ++ node.hash ∷ [] })
meets_object base node met seen f there kind w = record {
  covered = inr (inl (with_itself met.seen seen node.hash w));
  seen_kept = with_kept met.seen seen node.hash w;
  absent_kept = λ h t. t;
  seen_new = λ h t. elim (with_new met.seen seen node.hash w h t) [
    | inl x ↦ inl x
    | inr e ↦ inr (ap object (sym e) ∙ object_is node kind, in_push met.work node.hash h (inl e), subst (λ (g : IoHash). is_some (base g) ≡ true) e there)
  ];
  absent_new = λ h t. inl t;
  work_kept = λ h t. in_push met.work node.hash h (inr t);
  work_new = λ h t. elim (in_pop met.work node.hash h t) [
    | inl e ↦ inr (subst (λ (g : IoHash). seen g ≡ true) e (with_itself met.seen seen node.hash w), subst (λ (g : IoHash). met.seen g ≡ false) e f)
    | inr x ↦ inl x
  ];
}
