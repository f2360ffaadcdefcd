-- Each step of a desk keeps its rule.
use Rattle.std.proofs.Common.{◌≡◌, ◌≢◌, ℕ, zero, suc, ◌+◌, ◌-◌, ◌%◌, ◌^◌, ◌<◌, eqb, List, [], ◌∷◌, set, Bool, true, false, true≢false, if◌then◌else◌, Option, Some, None, refl, sym, ap, ◌∙◌, subst, ⊎_elim, arith, eq-eqb, ne_eqb}
use Rattle.std.specs.Prelude.{slice_index}
use mathlib.Core.Option.{some, none, some-injective, some-ne-none}
use mathlib.Core.List.{IsPrefix}
use native.Mathlib.Decide.{ℕ_discrete}
use base.Growing.{prefix_refl, prefix_trans}
use prog.Atomic.{either}
use lib.ListN.{get_elem?}
use Rattle.atomic_table.specs.Table.{State, Me, step, Act, keeps, takes, gives, stepped, carried_after, Valid, Allows, Splits, Joins, opening, rest}
use Rattle.atomic_table.proofs.Lists.{at_set, at_snoc, set_again, exchanged}
use Rattle.ddc_desk.specs.declared.rule.Known.{Known}
use Rattle.ddc_desk.specs.declared.rule.Role.{Role}
use Rattle.ddc_desk.specs.declared.rule.Role.TheVariants.{Idle, Waits, In}
use Rattle.ddc_desk.specs.Fronts.{longer}
use Rattle.ddc_desk.specs.inside.Steps.{idle, waiting, inside, beside, Standing, HasRole, IsSo, IsKept, Draws, Looks, Serves, Compares}
use Rattle.ddc_desk.proofs.Prefixes.{prefix_nil, longer_begins}

off : {X : Type 0} → true ≡ false → X
off e = absurd (true≢false e)

-- what is so of a seat's new view and of all other seats is so of each
each_set : {W : Type 0} (P : ℕ → W → Type 0) (views : List W) (by : ℕ) (w : W) → ((j : ℕ) (u : W) → j ≢ by → get_elem? views j ≡ some u → P j u) → P by w
    → (j : ℕ) (u : W) → get_elem? (set views by w) j ≡ some u → P j u
each_set {W = W} P views by w others mine j u e =
    ⊎_elim
    (λ (x : (j ≡ by) × (w ≡ u)). subst (λ (y : ℕ × W). P y.0 y.1) (λ i. (sym x.0 i, x.1 i)) mine)
    (λ (x : (j ≢ by) × (get_elem? views j ≡ some u)). others j u x.0 x.1)
    (at_set views by j w u e)

-- the ticket n has the owner j
abbrev put : (ℕ → ℕ) → ℕ → ℕ → ℕ → ℕ
put owner n j m = if eqb m n then j else owner m

put_here : (owner : ℕ → ℕ) (n j : ℕ) → put owner n j n ≡ j
put_here owner n j = ap (λ b. if b then j else owner n) (eq-eqb n n refl)

put_else : (owner : ℕ → ℕ) (n j m : ℕ) → m ≢ n → put owner n j m ≡ owner m
put_else owner n j m ne = ap (λ b. if b then j else owner m) (ne_eqb m n ne)

-- ---- the desk after each step, and the seats that don't step

module _ {I : Type 0} where
  -- once the seat `by` has drawn the next ticket
  abbrev with_ticket : Standing I → ℕ → Standing I
  with_ticket d by = record { ticket = d.ticket + 1; serving = d.serving; owner = put d.owner d.ticket by; busy = d.busy; published = d.published }

  -- once a turn has begun
  abbrev in_turn : Standing I → Standing I
  in_turn d = record { ticket = d.ticket; serving = d.serving; owner = d.owner; busy = true; published = d.published }

  -- once it has ended with this list
  abbrev after_turn : Standing I → List I → Standing I
  after_turn d new = record { ticket = d.ticket; serving = d.serving + 1; owner = d.owner; busy = false; published = new }

  others_drawn : (d : Standing I) (by j : ℕ) (front : List I) (r : Role) → HasRole d j front r → HasRole (with_ticket d by) j front r
  others_drawn d by j front Idle k = tt
  others_drawn d by j front (Waits n) k = (k.0, let p = k.1 in omega arith, put_else d.owner d.ticket by n (λ e. let p = k.1 in absurd (omega arith)) ∙ k.2, k.3)
  others_drawn d by j front (In n) k = (k.0, let p = k.1 in omega arith, put_else d.owner d.ticket by n (λ e. let p = k.1 in absurd (omega arith)) ∙ k.2, k.3, k.4)

  others_entered : (d : Standing I) (j : ℕ) (front : List I) (r : Role) → d.busy ≡ false → d.owner d.serving ≢ j → HasRole d j front r → HasRole (in_turn d) j front r
  others_entered d j front Idle free apart k = tt
  others_entered d j front (Waits n) free apart k = (k.0, k.1, k.2, λ e. absurd (apart (ap d.owner (sym e) ∙ k.2)))
  others_entered d j front (In n) free apart k = off (sym k.4 ∙ free)

  others_left : (d : Standing I) (new : List I) (j : ℕ) (front : List I) (r : Role) → d.busy ≡ true → d.owner d.serving ≢ j → HasRole d j front r → HasRole (after_turn d new) j front r
  others_left d new j front Idle busy apart k = tt
  others_left d new j front (Waits n) busy apart k = (let le = k.0 in let ne : n ≢ d.serving = (λ e. off (sym busy ∙ k.3 e)) in omega arith, k.1, k.2, λ e. refl)
  others_left d new j front (In n) busy apart k = absurd (apart (ap d.owner (sym k.0) ∙ k.2))

-- ---- a list of one slot that was taken

module _ {T : Type 0} where
  abbrev value_or : T → Option T → T
  value_or d (Some x) = x
  value_or d None = d

  abbrev taken : T → List (ℕ × Option T) → T
  taken d [] = d
  taken d (p ∷ ps) = value_or d p.1

pub one_taken : {S W : Type 0} (m : Me S W) (v : W) (k : ℕ) (y : S) → m ≡ (v, (k, y) ∷ []) → m.1 ≡ (k, y) ∷ rest m.1
one_taken m v k y e = subst (λ m'. m'.1 ≡ (k, y) ∷ rest m'.1) (sym e) refl

-- ---- the steps

module _ {T I : Type 0} (list : T → List I) where
  abbrev Rule : State (Option T) (Known I) → Type 0
  Rule = IsKept list

  word_0 : (s : State (Option T) (Known I)) (h : Rule s) → slice_index s.words 0 ≡ h.desk.ticket
  word_0 s h = ap (λ (ws : List ℕ). slice_index ws 0) h.words_are

  word_1 : (s : State (Option T) (Known I)) (h : Rule s) → slice_index s.words 1 ≡ h.desk.serving
  word_1 s h = ap (λ (ws : List ℕ). slice_index ws 1) h.words_are

  -- the rule holds of a new desk
  pub begins : (x : T) → Rule (opening (0 ∷ 0 ∷ []) (Some x ∷ []) (idle (list x)))
  begins x = record {
    desk = new;
    words_are = refl;
    ordered = omega arith;
    small = omega arith;
    drawn = λ e. off (sym e);
    at_home = λ e. (x, refl, refl);
    away = λ e. off (sym e);
    each = one;
  }
    where
      new : Standing I
      new = record { ticket = 0; serving = 0; owner = λ n. 0; busy = false; published = list x }

      one : (j : ℕ) (v : Known I) → get_elem? (idle (list x) ∷ []) j ≡ some v → IsSo new j v
      one zero v e = subst (IsSo new 0) (some-injective _ _ e) (prefix_refl (list x), prefix_nil (list x), tt)
      one (suc j) v e = absurd (some-ne-none v (sym e))

  -- a seat has a new view, and the table stays as it is
  changes : (s : State (Option T) (Known I)) (h : Rule s) (words : List ℕ) (by : ℕ) (w : Known I) → words ≡ s.words → IsSo h.desk by w
      → Rule record { words = words; homes = s.homes; views = set s.views by w }
  changes s h words by w same mine = record {
    desk = h.desk;
    words_are = same ∙ h.words_are;
    ordered = h.ordered;
    small = h.small;
    drawn = h.drawn;
    at_home = h.at_home;
    away = h.away;
    each = each_set (IsSo h.desk) s.views by w (λ j u apart e. h.each j u e) mine;
  }

  -- the next ticket is drawn
  draw_hit : (s : State (Option T) (Known I)) (h : Rule s) (by : ℕ) (v : Known I) (c : List (ℕ × Option T)) (n : ℕ) → get_elem? s.views by ≡ some v
      → h.desk.ticket ≡ n → n < 2 ^ 64 - 1 → Rule (stepped s 0 (n + 1) by c (waiting n v.front) keeps)
  draw_hit s h by v c n at is fits = record {
    desk = with_ticket h.desk by;
    words_are = ap (λ (ws : List ℕ). set ws 0 (n + 1)) h.words_are ∙ ap (λ (k : ℕ). (k + 1) ∷ h.desk.serving ∷ []) (sym is);
    ordered = let o = h.ordered in omega arith;
    small = omega arith;
    drawn = λ e. let b = h.drawn e in omega arith;
    at_home = h.at_home;
    away = h.away;
    each = each_set (IsSo (with_ticket h.desk by)) s.views by (waiting n v.front)
        (λ j u apart e. let k = h.each j u e in (k.0, k.1, others_drawn h.desk by j u.front u.role k.2)) (
          (h.each by v at).0,
          prefix_nil h.desk.published,
          subst (λ m. HasRole (with_ticket h.desk by) by v.front (Waits m)) is
              (h.ordered, omega arith, put_here h.desk.owner h.desk.ticket by, λ e. free_now h.desk.busy e h.drawn),
        );
  }
    where
      free_now : (b : Bool) → h.desk.ticket ≡ h.desk.serving → (b ≡ true → h.desk.serving < h.desk.ticket) → b ≡ false
      free_now false e drawn = refl
      free_now true e drawn = let l = drawn refl in absurd (omega arith)

  draws : (slots by n : ℕ) (v : Known I) → v ≡ idle v.front → n < 2 ^ 64 - 1
      → Allows Rule slots by (v, []) 0 (λ k. either (eqb k n) (n + 1) k) (Draws (step slots 0 n (n + 1) none) (v, []))
  draws slots by n v rests small s h len at bound =
      let k = slice_index s.words 0 in
      exchanged k n (n + 1) (λ x. (w : Known I) × (a : Act (Option T)) × Valid s.homes [] a × Rule (stepped s 0 x by [] w a) × Draws (step slots 0 n (n + 1) none) (v, []) k (w, carried_after [] a))
      (λ is. (waiting n v.front, keeps, tt, draw_hit s h by v [] n at (sym (word_0 s h) ∙ is) small, ((λ e. ap (λ m. (waiting m v.front, [])) (sym is)), (λ ne. absurd (ne is)))))
      (λ ne. (v, keeps, tt, changes s h (set s.words 0 k) by v (ap (λ (ws : List ℕ). set ws 0 (slice_index ws 0)) h.words_are ∙ sym h.words_are) (h.each by v at), ((λ e. absurd (ne e)), (λ e. refl))))

  pub draws_as : (slots by n : ℕ) (m : Me (Option T) (Known I)) (front : List I) → m ≡ (idle front, []) → n < 2 ^ 64 - 1
      → Allows Rule slots by m 0 (λ k. either (eqb k n) (n + 1) k) (Draws (step slots 0 n (n + 1) none) m)
  draws_as slots by n m front is small = subst (λ m'. Allows Rule slots by m' 0 (λ k. either (eqb k n) (n + 1) k) (Draws (step slots 0 n (n + 1) none) m')) (sym is) (draws slots by n (idle front) refl small)

  -- it is the seat's turn, and it takes the slot
  look_hit : (s : State (Option T) (Known I)) (h : Rule s) (by n : ℕ) (v : Known I) (words : List ℕ) → get_elem? s.views by ≡ some v → v.role ≡ Waits n
      → words ≡ s.words → h.desk.serving ≡ n → (x : T) × (s.homes ≡ some (Some x) ∷ []) × Rule record { words = words; homes = set s.homes 0 none; views = set s.views by (inside n (list x)) } × IsPrefix v.front (list x)
  look_hit s h by n v words at is same here =
      let mine = h.each by v at in
      let k = subst (HasRole h.desk by v.front) is mine.2 in
      let free = k.3 (sym here) in
      let home = h.at_home free in
      let others : (j : ℕ) (u : Known I) → j ≢ by → get_elem? s.views j ≡ some u → IsSo (in_turn h.desk) j u =
      (λ j u apart e. let f = h.each j u e in
      (f.0, f.1, others_entered h.desk j u.front u.role free (λ o. apart (sym o ∙ ap h.desk.owner here ∙ k.2)) f.2)) in (
        home.0,
        home.1,
        record {
          desk = in_turn h.desk;
          words_are = same ∙ h.words_are;
          ordered = h.ordered;
          small = h.small;
          drawn = λ e. subst (λ m. m < h.desk.ticket) (sym here) k.1;
          at_home = λ e. off e;
          away = λ e. ap (λ hs. set hs 0 none) home.1;
          each = each_set (IsSo (in_turn h.desk)) s.views by (inside n (list home.0)) others
              (subst (λ l. IsPrefix l h.desk.published) (sym home.2) (prefix_refl h.desk.published), prefix_nil h.desk.published, (sym here, k.1, k.2, home.2, refl));
        },
        subst (IsPrefix v.front) (sym home.2) mine.0,
      )

  looks : (slots by n : ℕ) (v : Known I) → v.role ≡ Waits n → Allows Rule slots by (v, []) 1 (λ k. k) (Looks list (step slots 1 0 0 none) (v, []))
  looks slots by n v is s h len at bound = go (ℕ_discrete (slice_index s.words 1) n)
    where
      kept : set s.words 1 (slice_index s.words 1) ≡ s.words
      kept = ap (λ (ws : List ℕ). set ws 1 (slice_index ws 1)) h.words_are ∙ sym h.words_are

      same_ticket : (m : ℕ) → v.role ≡ Waits m → n ≡ m
      same_ticket m e = cc (is, e)

      go : Dec (slice_index s.words 1 ≡ n) → (w : Known I) × (a : Act (Option T)) × Valid s.homes [] a × Rule (stepped s 1 (slice_index s.words 1) by [] w a) × Looks list (step slots 1 0 0 none) (v, []) (slice_index s.words 1) (w, carried_after [] a)
      go (yes e) = let hit = look_hit s h by n v (set s.words 1 (slice_index s.words 1)) at is kept (sym (word_1 s h) ∙ e) in (
        inside n (list hit.0),
        takes 0 (Some hit.0),
        ap (λ hs. get_elem? hs 0) hit.1,
        hit.2,
        λ m r. ((λ f. (hit.0, ap (λ i. (inside i (list hit.0), (0, Some hit.0) ∷ [])) (same_ticket m r), hit.3)), (λ ne. absurd (ne (e ∙ same_ticket m r)))),
      )
      go (no ne) = (
        v,
        keeps,
        tt,
        changes s h (set s.words 1 (slice_index s.words 1)) by v kept (h.each by v at),
        λ m r. ((λ f. absurd (ne (f ∙ sym (same_ticket m r)))), (λ f. refl)),
      )

  pub looks_as : (slots by n : ℕ) (m : Me (Option T) (Known I)) (front : List I) → m ≡ (waiting n front, []) → Allows Rule slots by m 1 (λ k. k) (Looks list (step slots 1 0 0 none) m)
  looks_as slots by n m front is = subst (λ m'. Allows Rule slots by m' 1 (λ k. k) (Looks list (step slots 1 0 0 none) m')) (sym is) (looks slots by n (waiting n front) refl)

  -- the seat gives the value back, and the next ticket is served
  gives_back : (s : State (Option T) (Known I)) (h : Rule s) (by n : ℕ) (front : List I) (x : T) → get_elem? s.views by ≡ some (inside n front) → IsPrefix front (list x)
      → Rule record { words = set s.words 1 ((h.desk.serving + 1) % 2 ^ 64); homes = set s.homes 0 (some (Some x)); views = set s.views by (idle (list x)) }
  gives_back s h by n front x at grown =
      let mine = h.each by (inside n front) at in
      let k = mine.2 in
      let more : IsPrefix h.desk.published (list x) = subst (λ l. IsPrefix l (list x)) k.3 grown in
      let mine_is : h.desk.owner h.desk.serving ≡ by = ap h.desk.owner (sym k.0) ∙ k.2 in
      let less : h.desk.serving < h.desk.ticket = h.drawn k.4 in
      let small = h.small in
      let room : (h.desk.serving + 1) % 2 ^ 64 ≡ h.desk.serving + 1 = omega arith in
      let others : (j : ℕ) (u : Known I) → j ≢ by → get_elem? s.views j ≡ some u → IsSo (after_turn h.desk (list x)) j u =
      (λ j u apart e. let f = h.each j u e in (
        prefix_trans u.front h.desk.published (list x) f.0 more,
        prefix_trans u.other h.desk.published (list x) f.1 more,
        others_left h.desk (list x) j u.front u.role k.4 (λ o. apart (sym o ∙ mine_is)) f.2,
      )) in
      record {
        desk = after_turn h.desk (list x);
        words_are = ap (λ (ws : List ℕ). set ws 1 ((h.desk.serving + 1) % 2 ^ 64)) h.words_are ∙ ap (λ (m : ℕ). h.desk.ticket ∷ m ∷ []) room;
        ordered = omega arith;
        small = h.small;
        drawn = λ e. off (sym e);
        at_home = λ e. (x, ap (λ hs. set hs 0 (some (Some x))) (h.away k.4), refl);
        away = λ e. off (sym e);
        each = each_set (IsSo (after_turn h.desk (list x))) s.views by (idle (list x)) others (prefix_refl (list x), prefix_nil (list x), tt);
      }

  serves : (slots by n : ℕ) (front : List I) (x : T) → IsPrefix front (list x)
      → Allows Rule slots by (inside n front, (0, Some x) ∷ []) 1 (λ k. (k + 1) % 2 ^ 64) (Serves list (step slots 1 1 0 none) (inside n front, (0, Some x) ∷ []))
  serves slots by n front x grown s h len at bound = (
    idle (list x),
    gives,
    tt,
    subst (λ m. Rule record { words = set s.words 1 ((m + 1) % 2 ^ 64); homes = set s.homes 0 (some (Some x)); views = set s.views by (idle (list x)) }) (sym (word_1 s h)) (gives_back s h by n front x at grown),
    λ y e. ap (λ z. (idle (list z), [])) (ap (taken x) e),
  )

  -- m is a seat in its turn that has put the value x into its slot
  pub serves_given : (slots by n : ℕ) (m a : Me (Option T) (Known I)) (front : List I) (x : T) → m ≡ (a.0, (0, Some x) ∷ rest a.1) → a ≡ (inside n front, (0, None) ∷ []) → IsPrefix front (list x)
      → Allows Rule slots by m 1 (λ k. (k + 1) % 2 ^ 64) (Serves list (step slots 1 1 0 none) m)
  serves_given slots by n m a front x is was grown =
      let given : m ≡ (inside n front, (0, Some x) ∷ []) = is ∙ (λ i. ((was i).0, (0, Some x) ∷ rest (was i).1)) in
      subst (λ m'. Allows Rule slots by m' 1 (λ k. (k + 1) % 2 ^ 64) (Serves list (step slots 1 1 0 none) m')) (sym given) (serves slots by n front x grown)

  -- ---- two seats of one, and one of two

  pub splits : (by : ℕ) (v : Known I) → Splits Rule by v v (idle v.front)
  splits by v s h at = record {
    desk = h.desk;
    words_are = h.words_are;
    ordered = h.ordered;
    small = h.small;
    drawn = h.drawn;
    at_home = h.at_home;
    away = h.away;
    each = λ j u e. ⊎_elim
        (λ was. h.each j u (subst (λ l. get_elem? l j ≡ some u) (set_again s.views by v at) was))
        (λ (same : idle v.front ≡ u). subst (IsSo h.desk j) same ((h.each by v at).0, prefix_nil h.desk.published, tt))
        (at_snoc (set s.views by v) (idle v.front) u j e);
  }

  pub joins : (by : ℕ) (v : Known I) (other : ℕ) (w : Known I) → Joins Rule by v other w (beside v w) (idle [])
  unfolding changes
  joins by v other w s h at apart there =
      let mine = h.each by v at in
      let theirs = ⊎_elim (λ (t : (other ≡ by) × (beside v w ≡ w)). absurd (apart t.0)) (λ (t : (other ≢ by) × (get_elem? s.views other ≡ some w)). h.each other w t.1) (at_set s.views by other (beside v w) w there) in
      let first = changes s h s.words by (beside v w) refl (mine.0, theirs.0, mine.2) in
      changes record { words = s.words; homes = s.homes; views = set s.views by (beside v w) } first s.words other (idle []) refl (prefix_nil h.desk.published, prefix_nil h.desk.published, tt)

  compares : (slots by : ℕ) (front other : List I) (c : List (ℕ × Option T))
      → Allows Rule slots by (beside (idle front) (idle other), c) 0 (λ k. k) (Compares (step slots 0 0 0 none) (beside (idle front) (idle other), c))
  compares slots by front other c s h len at bound =
      let mine = h.each by (beside (idle front) (idle other)) at in
      let all = longer_begins front other h.desk.published mine.0 mine.1 in (
        idle (longer front other),
        keeps,
        tt,
        changes s h (set s.words 0 (slice_index s.words 0)) by (idle (longer front other)) (ap (λ (ws : List ℕ). set ws 0 (slice_index ws 0)) h.words_are ∙ sym h.words_are) (all.0, prefix_nil h.desk.published, tt),
        (refl, all.1, all.2),
      )

  -- m is a seat to which another one was joined
  pub compares_joined : (slots by : ℕ) (m a b : Me (Option T) (Known I)) (front other : List I) → m ≡ (beside a.0 b.0, a.1) → a ≡ (idle front, []) → b ≡ (idle other, [])
      → Allows Rule slots by m 0 (λ k. k) (Compares (step slots 0 0 0 none) m)
  compares_joined slots by m a b front other is first second =
      let joined : m ≡ (beside (idle front) (idle other), []) = is ∙ (λ i. (beside (first i).0 (second i).0, (first i).1)) in
      subst (λ m'. Allows Rule slots by m' 0 (λ k. k) (Compares (step slots 0 0 0 none) m')) (sym joined) (compares slots by front other [])
