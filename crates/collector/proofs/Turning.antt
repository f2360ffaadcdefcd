-- That shading and taking nodes keep what is safe and the cover.
use Rattle.std.specs.Prelude.{◌≡◌, ℕ, zero, suc, ◌+◌, ◌<◌, ◌≤◌, Bool, true, false, ◌||◌, cond, List, [], length, Option, None, Some, is_some, slice_index_or, refl, ◌⊎◌}
use Rattle.std.proofs.Common.{ap, sym, ◌∙◌, subst, inl, inr, arith}
use Rattle.std.specs.List.{Contains}
use Rattle.std.specs.Option.{unwrap_or}
use Rattle.std.proofs.lemmas.Bool.{cases_lt}
use Rattle.ddc_names.specs.declared.hash.IoHash.{IoHash}
use Rattle.cb_fields.specs.declared.links.Link.{Link}
use Rattle.cb_fields.specs.declared.links.LinkKind.TheVariants.{Object, Binary}
use Rattle.ddc_model.specs.State.{State, has_blob}
use Rattle.ddc_model.specs.Closure.{Links, links_in, object, LeadsTo}
use Rattle.collector.specs.declared.nodes.NodeMark.{NodeMark}
use Rattle.collector.specs.Marks.{Marks, number_in, knows, is_marked, is_grey, is_safe}
use Rattle.collector.specs.Roots.{IsRootNode}
use Rattle.collector.specs.Cover.{Covers, AllKnown, IsShaded, StaysCovered, StaysCoveredIn}
use Rattle.collector.specs.Turns.{IsTaken, AreTaken}
use Rattle.collector.specs.inside.Steps.{IsEntered, IsGreyed, IsPicked, AreMetBy, AreSafeTo, TakesOne}
use Rattle.collector.proofs.Lists.{same_node}

-- ---- what is safe stays safe

abbrev pub is_seen : Marks → Link → Bool
is_seen c node = is_marked c node || is_grey c node

-- what is marked or grey stays so
abbrev pub Keeps : Marks → Marks → Type 0
Keeps a b = (node : Link) → is_seen a node ≡ true → is_seen b node ≡ true

or_left : (a b : Bool) → a ≡ true → (a || b) ≡ true
or_left true b e = refl
or_left false b e = absurd (cc)

or_right : (a b : Bool) → b ≡ true → (a || b) ≡ true
or_right true b e = refl
or_right false b e = e

or_cases : (a b : Bool) → (a || b) ≡ true → (a ≡ true) ⊎ (b ≡ true)
or_cases true b e = inl refl
or_cases false b e = inr e

pub safe_still : (a b : Marks) → Keeps a b → (node : Link) → is_safe a node ≡ true → is_safe b node ≡ true
safe_still a b keeps node e = split (or_cases (is_seen a node) (is_seen a (object node.hash)) e) where
  split : (is_seen a node ≡ true) ⊎ (is_seen a (object node.hash) ≡ true) → is_safe b node ≡ true
  split (inl own) = or_left (is_seen b node) (is_seen b (object node.hash)) (keeps node own)
  split (inr obj) = or_right (is_seen b node) (is_seen b (object node.hash)) (keeps (object node.hash) obj)

-- what isn't safe wasn't
pub unsafe_before : (a b : Marks) → Keeps a b → (node : Link) → is_safe b node ≡ false → is_safe a node ≡ false
unsafe_before a b keeps node f = split (is_safe a node) refl where
  split : (t : Bool) → is_safe a node ≡ t → t ≡ false
  split true e = let now : is_safe b node ≡ true = safe_still a b keeps node e in absurd (cc)
  split false e = refl

marked_is_safe : (c : Marks) (node : Link) → is_marked c node ≡ true → is_safe c node ≡ true
marked_is_safe c node e = or_left (is_seen c node) (is_seen c (object node.hash)) (or_left (is_marked c node) (is_grey c node) e)

pub grey_is_safe : (c : Marks) (node : Link) → is_grey c node ≡ true → is_safe c node ≡ true
grey_is_safe c node e = or_left (is_seen c node) (is_seen c (object node.hash)) (or_right (is_marked c node) (is_grey c node) e)

-- marks stay, and what is grey stays grey
keeps_by : (a b : Marks) → ((n : Link) → is_marked b n ≡ is_marked a n) → ((n : Link) → is_grey a n ≡ true → is_grey b n ≡ true) → Keeps a b
keeps_by a b marked grey node e = split (or_cases (is_marked a node) (is_grey a node) e) where
  split : (is_marked a node ≡ true) ⊎ (is_grey a node ≡ true) → is_seen b node ≡ true
  split (inl m) = or_left (is_marked b node) (is_grey b node) (marked node ∙ m)
  split (inr g) = or_right (is_marked b node) (is_grey b node) (grey node g)

-- ---- shading

shaded_grey : (a b : Marks) (node : Link) → is_grey b node ≡ true → ((o : Link) → (o ≡ node → ⊥) → is_grey b o ≡ is_grey a o) → (o : Link) → is_grey a o ≡ true → is_grey b o ≡ true
shaded_grey a b node here others o e = split (same_node o node) where
  split : (o ≡ node) ⊎ (o ≡ node → ⊥) → is_grey b o ≡ true
  split (inl s) = ap (is_grey b) s ∙ here
  split (inr d) = others o d ∙ e

pub shaded_from : (a m b : Marks) (node : Link) → IsEntered a node.hash m → IsGreyed m node b → IsShaded a node b
shaded_from a m b node e g = record {
  space = g.space ∙ e.space;
  hour = g.hour ∙ e.hour;
  known = λ h. ((λ t. (e.known h).0 (sym (same h) ∙ t)), (λ s. same h ∙ (e.known h).1 s));
  marked = λ o. g.marked o ∙ ap (λ (k : NodeMark). k.marked) (e.marks o);
  grey = g.grey;
  others = λ o d. g.others o d ∙ ap (λ (k : NodeMark). k.grey) (e.marks o);
  room = ap (λ (n : ℕ). n + cond (knows a node.hash) 0 1) g.spare ∙ e.room;
  ended = g.ended;
} where
  same : (h : IoHash) → knows b h ≡ knows m h
  same h = ap (λ (xs : List IoHash). is_some (number_in xs h)) g.hashes

pub shaded_covers : (a b : Marks) (node : Link) → IsShaded a node b → StaysCovered a b
shaded_covers a b node sh s leased covers = record {
  roots = λ root r here. safe_still a b keeps root
      (covers.roots root (subst (λ (sp : List ℕ). IsRootNode s sp leased a.hour root) sh.space (subst (λ (h : ℕ). IsRootNode s b.space leased h root) sh.hour r)) (there root here));
  links = λ from to marked white leads here. safe_still a b keeps to
      (covers.links from to (sym (sh.marked from) ∙ marked) (was_white from white) (subst (λ (sp : List ℕ). LeadsTo (links_in s sp) from to) sh.space leads) (there to here));
} where
  keeps : Keeps a b
  keeps = keeps_by a b sh.marked (shaded_grey a b node sh.grey sh.others)

  there : (n : Link) → has_blob s b.space n.hash ≡ true → has_blob s a.space n.hash ≡ true
  there n here = subst (λ (sp : List ℕ). has_blob s sp n.hash ≡ true) sh.space here

  was_white : (n : Link) → is_grey b n ≡ false → is_grey a n ≡ false
  was_white n f = split (same_node n node) where
    split : (n ≡ node) ⊎ (n ≡ node → ⊥) → is_grey a n ≡ false
    split (inl same) = let now : is_grey b n ≡ true = ap (is_grey b) same ∙ sh.grey in absurd (cc)
    split (inr d) = sym (sh.others n d) ∙ f

-- ---- meeting nodes

pub met_by : (a b : Marks) (node : Link) → IsGreyed a node b → is_safe a node ≡ false → AreMetBy (λ (o : Link). o ≡ node) a b
met_by a b node g unsafe = record {
  space = g.space;
  hour = g.hour;
  hashes = g.hashes;
  spare = g.spare;
  ended = λ e. g.ended;
  marked = g.marked;
  grey_still = shaded_grey a b node g.grey g.others;
  grey_new = new;
} where
  new : (o : Link) → is_grey b o ≡ true → (is_grey a o ≡ true) ⊎ ((o ≡ node) × (is_safe a o ≡ false))
  new o e = split (same_node o node) where
    split : (o ≡ node) ⊎ (o ≡ node → ⊥) → (is_grey a o ≡ true) ⊎ ((o ≡ node) × (is_safe a o ≡ false))
    split (inl s) = inr (s, ap (is_safe a) s ∙ unsafe)
    split (inr d) = inl (sym (g.others o d) ∙ e)

pub none_met : (some : Link → Type 0) (a b : Marks) → b ≡ a → AreMetBy some a b
none_met some a b same = subst (AreMetBy some a) (sym same) (record {
  space = refl;
  hour = refl;
  hashes = refl;
  spare = refl;
  ended = λ e. e;
  marked = λ o. refl;
  grey_still = λ o e. e;
  grey_new = λ o e. inl e;
})

met_keeps : (some : Link → Type 0) (a b : Marks) → AreMetBy some a b → Keeps a b
met_keeps some a b m = keeps_by a b m.marked m.grey_still

pub met_then : (some : Link → Type 0) (item : Link) (a b c : Marks) → AreMetBy some a b → AreMetBy (λ (o : Link). o ≡ item) b c → some item → AreMetBy some a c
met_then some item a b c m n is = record {
  space = n.space ∙ m.space;
  hour = n.hour ∙ m.hour;
  hashes = n.hashes ∙ m.hashes;
  spare = n.spare ∙ m.spare;
  ended = λ e. n.ended (m.ended e);
  marked = λ o. n.marked o ∙ m.marked o;
  grey_still = λ o e. n.grey_still o (m.grey_still o e);
  grey_new = λ o e. either o (n.grey_new o e);
} where
  either : (o : Link) → (is_grey b o ≡ true) ⊎ ((o ≡ item) × (is_safe b o ≡ false)) → (is_grey a o ≡ true) ⊎ (some o × (is_safe a o ≡ false))
  either o (inl e) = m.grey_new o e
  either o (inr p) = inr (subst some (sym p.0) is, unsafe_before a b (met_keeps some a b m) o p.1)

pub safe_more : (links : List Link) (i : ℕ) (item : Link) (b c : Marks) → i < length links → ((d : Link) → slice_index_or links i d ≡ item) → AreSafeTo i links b → AreMetBy (λ (o : Link). o ≡ item) b c → (knows b item.hash ≡ true → is_safe c item ≡ true) → AreSafeTo (i + 1) links c
safe_more links i item b c lt is before n safe k d below = split (cases_lt k i) where
  known_before : (h : IoHash) → knows c h ≡ true → knows b h ≡ true
  known_before h t = sym (ap (λ (xs : List IoHash). is_some (number_in xs h)) n.hashes) ∙ t

  last : (o : Link) → o ≡ item → knows c o.hash ≡ true → is_safe c o ≡ true
  last o e t = ap (is_safe c) e ∙ safe (subst (λ (x : Link). knows b x.hash ≡ true) e (known_before o.hash t))

  split : (k < i) ⊎ (i ≤ k) → knows c (let link : Link = slice_index_or links k d in link.hash) ≡ true → is_safe c (slice_index_or links k d) ≡ true
  split (inl early) = λ t. safe_still b c (met_keeps (λ (o : Link). o ≡ item) b c n) (slice_index_or links k d) (before k d early (known_before (let link : Link = slice_index_or links k d in link.hash) t))
  split (inr late) = last (slice_index_or links k d) (let same : k ≡ i = omega arith in ap (λ (j : ℕ). slice_index_or links j d) same ∙ is d)

-- ---- following an object

-- the links that were lent are those of the object
lent : (o : Option (List Link)) (found : List Link) (x : Link) → found ≡ unwrap_or o [] → Contains found x → (all : List Link) × (o ≡ Some all) × Contains all x
lent None found x e has = let none : Contains [] x = subst (λ (xs : List Link). Contains xs x) e has in absurd (omega (arith, none.1))
lent (Some all) found x e has = (all, refl, subst (λ (xs : List Link). Contains xs x) e has)

found_all : (o : Option (List Link)) (found all : List Link) → found ≡ unwrap_or o [] → o ≡ Some all → found ≡ all
found_all o found all e is = e ∙ ap (λ (p : Option (List Link)). unwrap_or p []) is

pub follows_met : (links : Links) (node : Link) (found : List Link) (a b : Marks) → node.kind ≡ Object → found ≡ unwrap_or (links node.hash) [] → AreMetBy (Contains found) a b → AreMetBy (LeadsTo links node) a b
follows_met links node found a b kind e m = record {
  space = m.space;
  hour = m.hour;
  hashes = m.hashes;
  spare = m.spare;
  ended = m.ended;
  marked = m.marked;
  grey_still = m.grey_still;
  grey_new = λ o g. either o (m.grey_new o g);
} where
  either : (o : Link) → (is_grey a o ≡ true) ⊎ (Contains found o × (is_safe a o ≡ false)) → (is_grey a o ≡ true) ⊎ (LeadsTo links node o × (is_safe a o ≡ false))
  either o (inl g) = inl g
  either o (inr p) = let l = lent (links node.hash) found o e p.0 in inr ((kind, l.0, l.1, l.2), p.1)

pub follows_safe : (links : Links) (node : Link) (found : List Link) (a b : Marks) → found ≡ unwrap_or (links node.hash) [] → b.hashes ≡ a.hashes → AreSafeTo (length found) found b
    → (o : Link) → LeadsTo links node o → knows a o.hash ≡ true → is_safe b o ≡ true
follows_safe links node found a b e same safe o leads t =
    let has : Contains found o = subst (λ (xs : List Link). Contains xs o) (sym (found_all (links node.hash) found leads.1 e leads.2)) leads.3 in
    let known : knows b o.hash ≡ true = ap (λ (xs : List IoHash). is_some (number_in xs o.hash)) same ∙ t in
    let at : knows b (let link : Link = slice_index_or found has.0 o in link.hash) ≡ true = ap (λ (x : Link). knows b x.hash) has.2 ∙ known in
    sym (ap (is_safe b) has.2) ∙ safe has.0 o has.1 at

not_both_kinds : (node other : Link) (links : Links) → node.kind ≡ Binary → LeadsTo links node other → ⊥
not_both_kinds node other links b leads = let e : Binary ≡ Object = sym b ∙ leads.0 in cc

pub binary_leads_nowhere : (links : Links) (node : Link) (a : Marks) → node.kind ≡ Binary → (o : Link) → LeadsTo links node o → knows a o.hash ≡ true → is_safe a o ≡ true
binary_leads_nowhere links node a b o leads t = absurd (not_both_kinds node o links b leads)

-- ---- taking a node

picked_keeps : (a m : Marks) (node : Link) → IsPicked a node m → Keeps a m
picked_keeps a m node p n e = split (same_node n node) where
  split : (n ≡ node) ⊎ (n ≡ node → ⊥) → is_seen m n ≡ true
  split (inl s) = or_left (is_marked m n) (is_grey m n) (ap (is_marked m) s ∙ p.marked_now)
  split (inr d) = ap (λ (b : Bool). b || is_grey m n) (p.marked n d) ∙ ap (λ (b : Bool). is_marked a n || b) (p.grey n d) ∙ e

pub taken_from : (links : Links) (a m b : Marks) (node : Link) → IsPicked a node m → AreMetBy (LeadsTo links node) m b → ((o : Link) → LeadsTo links node o → knows m o.hash ≡ true → is_safe b o ≡ true) → IsTaken links a node b
taken_from links a m b node p met safe = record {
  same = record {
    space = met.space ∙ p.same.space;
    hour = met.hour ∙ p.same.hour;
    hashes = met.hashes ∙ p.same.hashes;
    spare = met.spare ∙ p.same.spare;
    ended = met.ended p.going ∙ sym p.going ∙ p.same.ended;
  };
  was_grey = p.was_grey;
  marked_now = met.marked node ∙ p.marked_now;
  marked = λ o d. met.marked o ∙ p.marked o d;
  grey_no_more = no_more (is_grey b node) refl;
  grey_still = λ o d e. met.grey_still o (p.grey o d ∙ e);
  grey_new = λ o e. either o (met.grey_new o e);
  met = λ o leads t. safe o leads (ap (λ (xs : List IoHash). is_some (number_in xs o.hash)) p.same.hashes ∙ t);
} where
  here_safe : is_safe m node ≡ true
  here_safe = marked_is_safe m node p.marked_now

  not_here : (is_grey m node ≡ true) ⊎ (LeadsTo links node node × (is_safe m node ≡ false)) → ⊥
  not_here (inl g) = let f : is_grey m node ≡ false = p.grey_no_more in cc
  not_here (inr q) = let t : is_safe m node ≡ true = here_safe in let f : is_safe m node ≡ false = q.1 in cc

  no_more : (t : Bool) → is_grey b node ≡ t → t ≡ false
  no_more true e = absurd (not_here (met.grey_new node e))
  no_more false e = refl

  either : (o : Link) → (is_grey m o ≡ true) ⊎ (LeadsTo links node o × (is_safe m o ≡ false)) → (is_grey a o ≡ true) ⊎ (LeadsTo links node o × (is_safe a o ≡ false))
  either o (inr q) = inr (q.0, unsafe_before a m (picked_keeps a m node p) o q.1)
  either o (inl g) = split (same_node o node) where
    split : (o ≡ node) ⊎ (o ≡ node → ⊥) → (is_grey a o ≡ true) ⊎ (LeadsTo links node o × (is_safe a o ≡ false))
    split (inl s) = let t : is_grey m node ≡ true = sym (ap (is_grey m) s) ∙ g in let f : is_grey m node ≡ false = p.grey_no_more in absurd (cc)
    split (inr d) = inl (sym (p.grey o d) ∙ g)

-- ---- a turn keeps the cover

taken_keeps : (links : Links) (a b : Marks) (node : Link) → IsTaken links a node b → Keeps a b
taken_keeps links a b node k n e = split (same_node n node) where
  split : (n ≡ node) ⊎ (n ≡ node → ⊥) → is_seen b n ≡ true
  split (inl s) = or_left (is_marked b n) (is_grey b n) (ap (is_marked b) s ∙ k.marked_now)
  split (inr d) = cases (or_cases (is_marked a n) (is_grey a n) e) where
    cases : (is_marked a n ≡ true) ⊎ (is_grey a n ≡ true) → is_seen b n ≡ true
    cases (inl m) = or_left (is_marked b n) (is_grey b n) (k.marked n d ∙ m)
    cases (inr g) = or_right (is_marked b n) (is_grey b n) (k.grey_still n d g)

one_covers : (s : State) (a b : Marks) (node : Link) (leased : List IoHash) → AllKnown s a → IsTaken (links_in s a.space) a node b → Covers s leased a → Covers s leased b
one_covers s a b node leased known k covers = record {
  roots = λ root r here. safe_still a b keeps root
      (covers.roots root (subst (λ (sp : List ℕ). IsRootNode s sp leased a.hour root) k.same.space (subst (λ (h : ℕ). IsRootNode s b.space leased h root) k.same.hour r)) (there root here));
  links = λ from to marked white leads here. split from to marked white (subst (λ (sp : List ℕ). LeadsTo (links_in s sp) from to) k.same.space leads) (there to here) (same_node from node);
} where
  keeps : Keeps a b
  keeps = taken_keeps (links_in s a.space) a b node k

  there : (n : Link) → has_blob s b.space n.hash ≡ true → has_blob s a.space n.hash ≡ true
  there n here = subst (λ (sp : List ℕ). has_blob s sp n.hash ≡ true) k.same.space here

  was_white : (n : Link) → (n ≡ node → ⊥) → is_grey b n ≡ false → (t : Bool) → is_grey a n ≡ t → t ≡ false
  was_white n d f true e = let g : is_grey b n ≡ true = k.grey_still n d e in absurd (cc)
  was_white n d f false e = refl

  split : (from to : Link) → is_marked b from ≡ true → is_grey b from ≡ false → LeadsTo (links_in s a.space) from to → has_blob s a.space to.hash ≡ true → (from ≡ node) ⊎ (from ≡ node → ⊥) → is_safe b to ≡ true
  split from to marked white leads here (inl e) = k.met to (subst (λ (n : Link). LeadsTo (links_in s a.space) n to) e leads) (known to.hash here)
  split from to marked white leads here (inr d) = safe_still a b keeps to (covers.links from to (sym (k.marked from d) ∙ marked) (was_white from d white (is_grey a from) refl) leads here)

still_known : (s : State) (links : Links) (a b : Marks) (node : Link) → IsTaken links a node b → AllKnown s a → AllKnown s b
still_known s links a b node k known h here =
    ap (λ (xs : List IoHash). is_some (number_in xs h)) k.same.hashes ∙ known h (subst (λ (sp : List ℕ). has_blob s sp h ≡ true) k.same.space here)

pub taken_space : (links : Links) (a : Marks) (n : ℕ) (b : Marks) → AreTaken links a n b → b.space ≡ a.space
taken_space links a zero b t = ap (λ (m : Marks). m.space) (sym t)
taken_space links a (suc n) b t = let k : IsTaken links t.0 t.1 b = t.3 in k.same.space ∙ taken_space links a n t.0 t.2

all_known : (s : State) (links : Links) (a : Marks) (n : ℕ) (b : Marks) → AreTaken links a n b → AllKnown s a → AllKnown s b
all_known s links a zero b t known = subst (AllKnown s) t known
all_known s links a (suc n) b t known = still_known s links t.0 b t.1 t.3 (all_known s links a n t.0 t.2 known)

pub taken_covers : (s : State) (a : Marks) → AllKnown s a → (n : ℕ) (b : Marks) → AreTaken (links_in s a.space) a n b → StaysCoveredIn s a b
taken_covers s a known zero b t leased covers = subst (Covers s leased) t covers
taken_covers s a known (suc n) b t leased covers =
    let between : Marks = t.0 in
    one_covers s between b t.1 leased (all_known s (links_in s a.space) a n between t.2 known)
    (subst (λ (sp : List ℕ). IsTaken (links_in s sp) between t.1 b) (sym (taken_space (links_in s a.space) a n between t.2)) t.3)
    (taken_covers s a known n between t.2 leased covers)

-- ---- one node more is taken

pub taken_more : (links other : Links) (a b c : Marks) (n : ℕ) → other ≡ links → AreTaken links a n b → TakesOne other b true c → AreTaken links a (n + 1) c
taken_more links other a b c n same before one =
    let e : suc n ≡ n + 1 = omega arith in
    subst (λ (m : ℕ). AreTaken links a m c) e (step (subst (λ (l : Links). TakesOne l b true c) same one)) where
      step : TakesOne links b true c → AreTaken links a (suc n) c
      step k = (b, k.0, before, k.1)
