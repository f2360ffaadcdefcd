-- What reading objects keeps, how a walk begins, and what its end says.
use Rattle.std.specs.Prelude.{◌≡◌, ℕ, zero, suc, Bool, true, false, List, [], ◌∷◌, ◌++◌, ◌+◌, ◌≤◌, ◌||◌, cond, Option, None, Some, is_some, length, refl, if◌then◌else◌}
use Rattle.std.proofs.Common.{ap, sym, ◌∙◌, subst, inl, inr, arith}
use Rattle.std.specs.List.{Contains}
use Rattle.std.specs.FinMap.{entries, len, len-entries}
use Rattle.std.specs.Cmp.{eq_by_cmp_equiv}
use Rattle.std.specs.List.Sorted.{IsStrictlySortedBy}
use Rattle.std.specs.BTreeMap.{is_at}
use Rattle.std.specs.Option.{unwrap_or}
use Rattle.ddc_names.specs.declared.hash.IoHash.{IoHash}
use Rattle.std.specs.declared.cmp.Ordering.{Ordering}
use Rattle.std.specs.declared.cmp.Ordering.TheVariants.{Less, Equal, Greater}
use Rattle.ddc_names.specs.Orders.{io_hash_cmp, io_hash_total, name_cmp}
use Rattle.cb_fields.specs.declared.links.Link.{Link}
use Rattle.cb_fields.specs.declared.links.LinkKind.{LinkKind}
use Rattle.cb_fields.specs.declared.links.LinkKind.TheVariants.{Object, Binary}
use Rattle.ddc_model.specs.declared.rows.Blob.{Blob}
use Rattle.ddc_model.specs.declared.rows.BlobName.{BlobName}
use Rattle.ddc_model.specs.State.{State}
use Rattle.ddc_model.specs.Closure.{Links, with_links, object, LeadsTo, LeadsToIn, IsMissing, IsWhole, has_hash, AreNeeds}
use Rattle.needs_resolver.specs.Walking.{Met, InWork, IsReachedFrom, IsMissingFrom, IsCovered, AreLinksCovered, IsKnown, IsWalk, IsMet, AreMet, IsObjectRead, AreRead, IsIdle, or_root, one_unmet, unmet, most_reads}
use Rattle.needs_resolver.proofs.Meeting.{covered_kept, in_pop, in_push, tied_itself, tied_same}

abbrev Test : Type 0
Test = IoHash → Bool

some_same : {X : Type 0} (o : Option X) (x y : X) → o ≡ Some x → o ≡ Some y → x ≡ y
some_same o x y e f = cc

no_some_none : {X : Type 0} (o : Option X) (x : X) → o ≡ None → o ≡ Some x → ⊥
no_some_none o x e f = cc

is_none : {X : Type 0} (o : Option X) → is_some o ≡ true → o ≡ None → ⊥
is_none o t e = let f : is_some o ≡ false = ap is_some e in cc

-- the held object's links are all covered, so it is held no longer
let_go : (base links : Links) (roots : Test) (held : IoHash) (seen absent : Test) (ahead : List IoHash) → AreLinksCovered base links seen absent held → IsWalk base links roots seen absent (held ∷ ahead) → IsWalk base links roots seen absent ahead
let_go base links roots held seen absent ahead done walk = record {
  seen_reached = walk.seen_reached;
  absent_missing = walk.absent_missing;
  ahead_seen = λ h t. walk.ahead_seen h (inr t);
  read = λ h t. elim (walk.read h t) [
    | inl y ↦ elim y [ inl z ↦ inr (subst (AreLinksCovered base links seen absent) z done) | inr z ↦ inl z ]
    | inr r ↦ inr r
  ];
}

-- once its links are met, the held object is read
pub held_read : (base links : Links) (roots : Test) (held : IoHash) (found : List Link) (old new : Met)
    → links held ≡ Some found → IsKnown base links old.seen old.work → IsWalk base links roots old.seen old.absent (held ∷ old.work) → AreMet base found (length found) old new → IsWalk base links roots new.seen new.absent new.work
held_read base links roots held found old new there known walk met =
    let reached : IsReachedFrom links roots (object held) = walk.seen_reached held (walk.ahead_seen held (inl refl)) in
    let_go base links roots held new.seen new.absent new.work
    (λ others e node c. let same : others ≡ found = some_same _ _ _ e there in let d : Contains found node = subst (λ (xs : List Link). Contains xs node) same c in
    subst (IsCovered base new.seen new.absent) d.2 (met.covered d.0 node d.1))
    (met.kept links roots held known (λ node c. (reached.0, reached.1, (suc reached.2.0, (object held, reached.2.1, (refl, found, there, c))))) walk)

-- a stored object whose links were met
pub read_present : (base : Links) (held : IoHash) (found : List Link) (old new : Met) → base held ≡ Some found → AreMet base found (length found) old new → IsObjectRead base held old new
read_present base held found old new there met = record {
  known = met.known;
  kept = λ links roots known same walk. held_read base links roots held found old new (same ∙ there) known walk met;
  still = met.still;
}

nothing_in : (node : Link) → Contains [] node → ⊥
nothing_in node c = absurd (omega (arith, c.1))

-- a blob that isn't there has no links
pub read_absent : (base : Links) (held : IoHash) (old new : Met) → base held ≡ None → AreMet base [] 0 old new → IsObjectRead base held old new
read_absent base held old new none met = record {
  known = met.known;
  kept = λ links roots known same walk. let_go base links roots held new.seen new.absent new.work (λ others e node c. absurd (no_some_none _ _ (same ∙ none) e))
      (met.kept links roots held known (λ node c. absurd (nothing_in node c)) walk);
  still = met.still;
}

-- the links that an index gives out for a blob
pub read_any : (base : Links) (held : IoHash) (old new : Met) → AreMet base (unwrap_or (base held) []) (length (unwrap_or (base held) [])) old new → IsObjectRead base held old new
read_any base held old new met = split (base held) refl met where
  split : (o : Option (List Link)) → base held ≡ o → AreMet base (unwrap_or o []) (length (unwrap_or o [])) old new → IsObjectRead base held old new
  split (Some found) e m = read_present base held found old new e m
  split None e m = read_absent base held old new e m

-- ---- the loop

pub none_read : (base : Links) (met : Met) → AreRead base met met
none_read base met = record {
  known = λ links k. k;
  kept = λ links roots k walk. walk;
  still = λ node c. c;
}

popped_known : (base links : Links) (seen : Test) (work : List IoHash) (held : IoHash) → IsKnown base links seen (work ++ held ∷ []) → IsKnown base links seen work
popped_known base links seen work held k = record {
  present = k.present;
  others = k.others;
  unread = λ h i. k.unread h (in_push work held h (inr i));
}

popped : (base links : Links) (roots : Test) (held : IoHash) (seen absent : Test) (work : List IoHash) → IsWalk base links roots seen absent (work ++ held ∷ []) → IsWalk base links roots seen absent (held ∷ work)
popped base links roots held seen absent work walk = record {
  seen_reached = walk.seen_reached;
  absent_missing = walk.absent_missing;
  ahead_seen = λ h t. walk.ahead_seen h (in_push work held h t);
  read = λ h t. elim (walk.read h t) [ inl y ↦ inl (in_pop work held h y) | inr r ↦ inr r ];
}

-- one object more is taken from the end of the work list and read
pub read_more : (base : Links) (held : IoHash) (old now left new : Met) → now.seen ≡ left.seen → now.absent ≡ left.absent → now.work ≡ left.work ++ held ∷ []
    → AreRead base old now → IsObjectRead base held left new → AreRead base old new
read_more base held old now left new es ea ew before read = record {
  known = λ links k. read.known links (known_left links k);
  kept = λ links roots k walk. read.kept links roots (known_left links k) ((known_now links k).unread held (in_push left.work held held (inl refl)))
      (popped base links roots held left.seen left.absent left.work
      (subst (IsWalk base links roots left.seen left.absent) ew (subst (λ (a : Test). IsWalk base links roots left.seen a now.work) ea (subst (λ (s : Test). IsWalk base links roots s now.absent now.work) es (before.kept links roots k walk)))));
  still = λ node c. read.still node (subst (λ (a : Test). IsCovered base left.seen a node) ea (subst (λ (s : Test). IsCovered base s now.absent node) es (before.still node c)));
} where
  known_now : (links : Links) → IsKnown base links old.seen old.work → IsKnown base links left.seen (left.work ++ held ∷ [])
  known_now links k = subst (IsKnown base links left.seen) ew (subst (λ (s : Test). IsKnown base links s now.work) es (before.known links k))

  known_left : (links : Links) → IsKnown base links old.seen old.work → IsKnown base links left.seen left.work
  known_left links k = popped_known base links left.seen left.work held (known_now links k)

-- ---- how a walk begins

pub no_keys : (keys : List IoHash) (h : IoHash) → keys ≡ [] → has_hash keys h ≡ false
no_keys keys h e = ap (λ (ks : List IoHash). has_hash ks h) e

pub one_key : (keys : List IoHash) (root h : IoHash) → keys ≡ root ∷ [] → has_hash keys h ≡ is_at (io_hash_cmp root) h
one_key keys root h e = ap (λ (ks : List IoHash). has_hash ks h) e ∙ alone (is_at (io_hash_cmp h) root) ∙ (eq_by_cmp_equiv io_hash_total).symm h root where
  alone : (b : Bool) → (b || false) ≡ b
  alone true = refl
  alone false = refl

-- a walk that has met nothing can begin at any root
pub nothing_met : (base : Links) (met : Met) → ((h : IoHash) → met.seen h ≡ false) → ((h : IoHash) → met.absent h ≡ false) → met.work ≡ [] → IsIdle base met
nothing_met base met none clear empty = record {
  none_ahead = empty;
  none_absent = clear;
  present = λ h t. absurd (let e : met.seen h ≡ false = none h in cc);
  read = λ h t. absurd (let e : met.seen h ≡ false = none h in cc);
}

-- where the root is met as any node is
module _ (base : Links) (root : IoHash) (old new : Met) (idle : IsIdle base old) (met : IsMet base (object root) old new) where
  pub begins_known : IsKnown base base new.seen new.work
  begins_known = record {
    present = λ h t. elim (met.seen_new h t) [ inl x ↦ idle.present h x | inr p ↦ p.2 ];
    others = λ h f. refl;
    unread = λ h i. refl;
  }

  is_root : or_root old.seen root root ≡ true
  is_root = ap (λ (b : Bool). cond b true (old.seen root)) (tied_itself root)

  was_met : (h : IoHash) → old.seen h ≡ true → or_root old.seen root h ≡ true
  was_met h t = ap (λ (b : Bool). cond (is_at (io_hash_cmp root) h) true b) t ∙ either (is_at (io_hash_cmp root) h) where
    either : (b : Bool) → cond b true true ≡ true
    either true = refl
    either false = refl

  pub begins_walk : IsWalk base base (or_root old.seen root) new.seen new.absent new.work
  begins_walk = record {
    seen_reached = λ h t. elim (met.seen_new h t) [ inl x ↦ (h, was_met h x, (0, refl)) | inr p ↦ (root, is_root, (0, sym p.0)) ];
    absent_missing = λ h t. elim (met.absent_new h t) [
      | inl x ↦ absurd (let e : old.absent h ≡ false = idle.none_absent h in cc)
      | inr p ↦ (root, is_root, (p.2, Object, (0, ap object (sym p.0))))
    ];
    ahead_seen = λ h t. elim (met.work_new h t) [ inl x ↦ absurd (subst (λ (xs : List IoHash). InWork xs h) idle.none_ahead x) | inr y ↦ y.0 ];
    read = λ h t. elim (met.seen_new h t) [
      | inl x ↦ inr (λ found e node c. covered_kept base old.seen old.absent new.seen new.absent node met.seen_kept met.absent_kept (idle.read h x found e node c))
      | inr p ↦ inl p.1
    ];
  }

-- where the root has links that aren't stored
module _ (base : Links) (root : IoHash) (fresh : List Link) (old : Met) (only : (h : IoHash) → old.seen h ≡ is_at (io_hash_cmp root) h) (none : (h : IoHash) → old.absent h ≡ false) (empty : old.work ≡ []) where
  abbrev links : Links
  links = with_links base root fresh

  pub fresh_known : IsKnown base links old.seen old.work
  fresh_known = record {
    present = λ h t. at_root h (sym (only h) ∙ t);
    others = λ h f. elsewhere h (sym (only h) ∙ f);
    unread = λ h i. absurd (subst (λ (xs : List IoHash). InWork xs h) empty i);
  } where
    at_root : (h : IoHash) → is_at (io_hash_cmp root) h ≡ true → is_some (links h) ≡ true
    at_root h t = ap (λ (b : Bool). is_some (if b then Some fresh else base h)) t

    elsewhere : (h : IoHash) → is_at (io_hash_cmp root) h ≡ false → links h ≡ base h
    elsewhere h f = ap (λ (b : Bool). if b then Some fresh else base h) f

  fresh_begins : IsWalk base links (is_at (io_hash_cmp root)) old.seen old.absent (root ∷ old.work)
  fresh_begins = record {
    seen_reached = λ h t. (root, tied_itself root, (0, ap object (is_root h t)));
    absent_missing = λ h t. absurd (let e : old.absent h ≡ false = none h in cc);
    ahead_seen = λ h t. elim t [ inl e ↦ only h ∙ subst (λ (g : IoHash). is_at (io_hash_cmp root) g ≡ true) e (tied_itself root) | inr i ↦ absurd (subst (λ (xs : List IoHash). InWork xs h) empty i) ];
    read = λ h t. inl (inl (is_root h t));
  } where
    is_root : (h : IoHash) → old.seen h ≡ true → root ≡ h
    is_root h t = tied_same root h (sym (only h) ∙ t)

  pub fresh_walk : (new : Met) → AreMet base fresh (length fresh) old new → IsWalk base links (is_at (io_hash_cmp root)) new.seen new.absent new.work
  fresh_walk new met = held_read base links (is_at (io_hash_cmp root)) root fresh old new (ap (λ (b : Bool). if b then Some fresh else base root) (tied_itself root)) fresh_known fresh_begins met

  pub root_covered : IsCovered base old.seen old.absent (object root)
  root_covered = inr (inl (only root ∙ tied_itself root))

-- ---- what the end says

module _ (base links : Links) (roots : Test) (root : IoHash) (end : Met) (known : IsKnown base links end.seen []) (walk : IsWalk base links roots end.seen end.absent []) (start : IsCovered base end.seen end.absent (object root)) where
  -- each reached node is covered
  all_covered : (n : ℕ) (node : Link) → LeadsToIn links (object root) node n → IsCovered base end.seen end.absent node
  all_covered zero node w = subst (IsCovered base end.seen end.absent) w start
  all_covered (suc n) node w =
      let before : Link = w.0 in
      let leads : LeadsTo links before node = w.2 in
      elim (all_covered n before w.1) [
        | inl x ↦ absurd (no_some_none (links before.hash) leads.1 ((walk.absent_missing before.hash x).2.0) leads.2)
        | inr p ↦ elim p [
          | inl t ↦ elim (walk.read before.hash t) [ inl i ↦ absurd i | inr r ↦ r leads.1 leads.2 node leads.3 ]
          | inr q ↦ absurd (not_both before.kind q.0 leads.0)
        ]
      ] where
        not_both : (kind : LinkKind) → kind ≡ Binary → kind ≡ Object → ⊥
        not_both kind b o = let e : Binary ≡ Object = sym b ∙ o in cc

  present_stays : (h : IoHash) (b : Bool) → end.seen h ≡ b → is_some (base h) ≡ true → links h ≡ None → ⊥
  present_stays h true e there none = is_none (links h) (known.present h e) none
  present_stays h false e there none = is_none (base h) there (sym (known.others h e) ∙ none)

  pub missing_noted : (h : IoHash) → IsMissing links root h → end.absent h ≡ true
  missing_noted h missing = elim (all_covered missing.2.0 (record { kind = missing.1; hash = h }) missing.2.1) [
    | inl x ↦ x
    | inr p ↦ elim p [
      | inl t ↦ absurd (is_none (links h) (known.present h t) missing.0)
      | inr q ↦ absurd (present_stays h (end.seen h) refl q.1 missing.0)
    ]
  ]

  -- a finished walk has noted exactly what is missing
  pub walk_ends : (needs : List IoHash) → ((h : IoHash) → IsMissingFrom links roots h → IsMissing links root h) → ((h : IoHash) → end.absent h ≡ has_hash needs h) → IsStrictlySortedBy io_hash_cmp needs → AreNeeds links root needs
  walk_ends needs from is sorted = record {
    ascending = sorted;
    exactly = λ h. ((λ t. from h (walk.absent_missing h (is h ∙ t))), (λ m. sym (is h) ∙ missing_noted h m));
  }

-- a walk that has read all says what is missing
pub all_read : (base links : Links) (roots : Test) (root : IoHash) (begun ended : Met) (needs : List IoHash)
    → IsKnown base links begun.seen begun.work → IsWalk base links roots begun.seen begun.absent begun.work → IsCovered base begun.seen begun.absent (object root) → ((h : IoHash) → IsMissingFrom links roots h → IsMissing links root h)
    → AreRead base begun ended → ended.work ≡ [] → ((h : IoHash) → ended.absent h ≡ has_hash needs h) → IsStrictlySortedBy io_hash_cmp needs → AreNeeds links root needs
all_read base links roots root begun ended needs known walk start from read done is sorted =
    walk_ends base links roots root ended (subst (IsKnown base links ended.seen) done (read.known links known)) (subst (IsWalk base links roots ended.seen ended.absent) done (read.kept links roots known walk)) (read.still (object root) start) needs from is sorted

pub from_root : (links : Links) (root h : IoHash) → IsMissingFrom links (is_at (io_hash_cmp root)) h → IsMissing links root h
from_root links root h m = subst (λ (r : IoHash). IsMissing links r h) (sym (tied_same root m.0 m.1)) m.2

-- ---- a walk that goes on from another root

idle_known : (base : Links) (met : Met) → IsIdle base met → IsKnown base base met.seen []
idle_known base met idle = record {
  present = idle.present;
  others = λ h f. refl;
  unread = λ h i. refl;
}

idle_walk : (base : Links) (met : Met) → IsIdle base met → IsWalk base base met.seen met.seen met.absent []
idle_walk base met idle = record {
  seen_reached = λ h t. (h, t, (0, refl));
  absent_missing = λ h t. absurd (let e : met.absent h ≡ false = idle.none_absent h in cc);
  ahead_seen = λ h t. absurd t;
  read = λ h t. inr (idle.read h t);
}

-- nothing is missing of the objects that were met
met_whole : (base : Links) (met : Met) (root : IoHash) → IsIdle base met → met.seen root ≡ true → IsWhole base root
met_whole base met root idle t h missing =
    let noted : met.absent h ≡ true = missing_noted base base met.seen root met (idle_known base met idle) (idle_walk base met idle) (inr (inl t)) h missing in
    let clear : met.absent h ≡ false = idle.none_absent h in
    absurd (cc)

-- so what is missing now is missing of the new root
pub from_new : (base : Links) (root : IoHash) (old : Met) → IsIdle base old → (h : IoHash) → IsMissingFrom base (or_root old.seen root) h → IsMissing base root h
from_new base root old idle h m = split (is_at (io_hash_cmp root) m.0) refl m.1 where
  split : (b : Bool) → is_at (io_hash_cmp root) m.0 ≡ b → cond b true (old.seen m.0) ≡ true → IsMissing base root h
  split true t k = subst (λ (r : IoHash). IsMissing base r h) (sym (tied_same root m.0 t)) m.2
  split false f k = absurd (met_whole base old m.0 idle k h m.2)

-- what the walk from another root tells
module _ (base : Links) (root : IoHash) (old begun ended : Met) (idle : IsIdle base old) (met : IsMet base (object root) old begun) (read : AreRead base begun ended) (done : ended.work ≡ []) where
  end_known : IsKnown base base ended.seen []
  end_known = subst (IsKnown base base ended.seen) done (read.known base (begins_known base root old begun idle met))

  end_walk : IsWalk base base (or_root old.seen root) ended.seen ended.absent []
  end_walk = subst (IsWalk base base (or_root old.seen root) ended.seen ended.absent) done (read.kept base (or_root old.seen root) (begins_known base root old begun idle met) (begins_walk base root old begun idle met))

  -- where an absent hash was met, the root lacks it
  pub lacks_it : (h : IoHash) → ended.absent h ≡ true → IsWhole base root → ⊥
  lacks_it h t whole = whole h (from_new base root old idle h (end_walk.absent_missing h t))

  -- where none was met, the root's closure is whole
  pub whole_then : ((h : IoHash) → ended.absent h ≡ false) → IsWhole base root
  whole_then none h missing =
      let noted : ended.absent h ≡ true = missing_noted base base (or_root old.seen root) root ended end_known end_walk (read.still (object root) met.covered) h missing in
      let clear : ended.absent h ≡ false = none h in
      absurd (cc)

  -- and the walk can go on
  pub idle_then : ((h : IoHash) → ended.absent h ≡ false) → IsIdle base ended
  idle_then none = record {
    none_ahead = done;
    none_absent = none;
    present = end_known.present;
    read = λ h t. elim (end_walk.read h t) [ inl i ↦ absurd i | inr r ↦ r ];
  }

-- how many objects a walk reads that has none to read yet
pub at_most_one : (o : Ordering) (b : Bool) → one_unmet o b ≤ 1
at_most_one Less b = omega arith
at_most_one Equal true = omega arith
at_most_one Equal false = omega arith
at_most_one Greater b = omega arith

most_unmet : (space : List ℕ) (seen : Test) (es : List (BlobName × Blob)) → unmet space seen es ≤ length es
most_unmet space seen [] = omega arith
most_unmet space seen (e ∷ es) =
    let here : one_unmet (name_cmp space e.0.space) (seen e.0.hash) ≤ 1 = at_most_one (name_cmp space e.0.space) (seen e.0.hash) in
    let rest : unmet space seen es ≤ length es = most_unmet space seen es in
    omega arith

pub most_at_first : (state : State) (space : List ℕ) (met : Met) → met.work ≡ [] → most_reads state space met ≤ len state.blobs
most_at_first state space met none =
    let unread : length met.work ≡ 0 = ap (λ (xs : List IoHash). length xs) none in
    let most : unmet space met.seen (entries state.blobs) ≤ length (entries state.blobs) = most_unmet space met.seen (entries state.blobs) in
    let blobs : len state.blobs ≡ length (entries state.blobs) = len-entries state.blobs in
    omega arith

-- how many objects are read from the beginning of a walk on
pub reads_at_most : (state : State) (space : List ℕ) (old begun : Met) (before after : ℕ) → old.work ≡ [] → most_reads state space begun ≤ most_reads state space old → after ≤ before + most_reads state space begun → after ≤ before + len state.blobs
reads_at_most state space old begun before after none less counted = let first : most_reads state space old ≤ len state.blobs = most_at_first state space old none in omega arith
