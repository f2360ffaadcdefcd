-- What is written through a reference into an ordered map, as a finite map.
use Rattle.std.specs.Prelude.{◌≡◌, Bool, true, false, cond, List, [], ◌∷◌, length, Option, None, Some, is_some, refl}
use Rattle.std.proofs.Common.{ap, sym, ◌∙◌, subst, arith}
use Rattle.std.specs.declared.cmp.Ordering.{Ordering}
use Rattle.std.specs.Cmp.{IsTotalOrder}
use Rattle.std.specs.Map.{lookup, set_value}
use Rattle.std.specs.BTreeMap.{BTreeMap, is_at, WritesThrough}
use Rattle.std.specs.FinMap.{from_entries, insert, len}
use Rattle.std.proofs.lemmas.Map.Lookups.{CmpEqualImpliesEq}
use Rattle.ddc_state.proofs.Given.{one_given, count_given}

module _ {K X : Type 0} where
  unwritten : (b : Bool) (e : K × X) (es others : List (K × X)) (o : Option X) (w : X) → None ≡ cond b (Some e.1) o → (None ≡ o → others ≡ es) → cond b ((e.0, w) ∷ es) (e ∷ others) ≡ e ∷ es
  unwritten true e es others o w none rest = absurd (cc)
  unwritten false e es others o w none rest = ap (λ (es : List (K × X)). e ∷ es) (rest none)

  -- nothing is written at a key that isn't there
  pub set_none : (test : K → Bool) (es : List (K × X)) (w : X) → None ≡ lookup test es → set_value test es w ≡ es
  set_none test [] w none = refl
  set_none test (e ∷ es) w none = unwritten (test e.0) e es (set_value test es w) (lookup test es) w none (set_none test es w)

module _ {K X : Type 0} (R : K → K → Ordering) (total : IsTotalOrder R) (exact : CmpEqualImpliesEq R) (m n : BTreeMap K X) (k : K) (w : X) (writes : WritesThrough R (R k) m w n) where
  pub row_written : (v : X) → Some v ≡ lookup (is_at (R k)) m.entries → from_entries {R = R} n.entries ≡ insert (from_entries m.entries) k w
  row_written v some = one_given R total exact m.entries n.entries k w (writes.3 (ap is_some (sym some))).0

  -- the entries stay one for each key
  pub row_counted : len (from_entries {R = R} m.entries) ≡ length m.entries → len (from_entries {R = R} n.entries) ≡ length n.entries
  row_counted count = split (lookup (is_at (R k)) m.entries) refl where
    split : (o : Option X) → o ≡ lookup (is_at (R k)) m.entries → len (from_entries {R = R} n.entries) ≡ length n.entries
    split None none = subst (λ (es : List (K × X)). len (from_entries {R = R} es) ≡ length es) (sym (writes.0 ∙ set_none (is_at (R k)) m.entries w none)) count
    split (Some v) some = count_given R total m.entries n.entries k w (Some v) (row_written v some) some (writes.2 ∙ omega arith) count
