use Rattle.std.proofs.Common.{◌≡◌, ◌<◌, ◌≤◌, ◌-◌, ◌+◌, ◌^◌, ℕ, length, Some, refl, sym, ap, subst, ◌∙◌, arith}
use Rattle.std.specs.Ordering.{nat_cmp}
use Rattle.std.specs.FinMap.{find}
use Rattle.blob_store.specs.inside.Areas.{extents_in, middle_unit, IsPlaced}
use Rattle.blob_store.specs.inside.Runs.{AreInOrder, without}
use Rattle.blob_store.proofs.Runs.{in_order_weaker}
use Rattle.blob_store.proofs.Edits.{found_within, without_leaves}
use Rattle.blob_store.proofs.Parts.{parts_in}
use Rattle.blob_store.proofs.Placed.{in_order_of, changing, TakenOut, found_right, found_left, taken_right, taken_left, taken_here}
use Rattle.blob_store.proofs.area.Area.+remove.Goals as goal
use Rattle.blob_store.proofs.area.Area.+remove.Goals.{then-middle-extent, else-middle-extent+then-extent-middle, else-middle-extent+else-extent-middle}

pub middle_of-middle-requires : goal.middle_of-middle-requires
middle_of-middle-requires t c =
    let ends = found_within c.args.extent.start c.args.extent.units c.args.low c.args.high (extents_in c.args.self.now) (in_order_of c.args.low c.args.high c.args.self.now c.requires.placed) c.requires.there in
    omega (arith, ends.0, ends.1, ends.2)

pub remove-requires : goal.remove-requires
remove-requires t c =
    let v = c.deref_mut-parted.result.now in
    let o = changing c.args.low c.args.high c.args.self.now _ v _ c.in-Parted.is c.deref_mut-parted.ensures.value refl (λ p. p) (λ s. s) c.requires.placed c.requires.spanned in
    let m : c.middle_of-middle.result ≡ middle_unit c.args.low c.args.high = c.middle_of-middle.ensures in
    let at : c.args.high - c.args.low ≡ t = c.decreases in
    let there : find nat_cmp c.args.extent.start (parts_in v) ≡ Some c.args.extent.units = sym (ap (find nat_cmp c.args.extent.start) o.full) ∙ c.requires.there in
    let ends = found_within c.args.extent.start c.args.extent.units c.args.low c.args.high (parts_in v) o.placed.0 there in
    let smaller : c.args.high - (c.middle_of-middle.result + 1) < t = omega (arith, m, at, ends.0, ends.1, ends.2) in
    let placed : IsPlaced (c.middle_of-middle.result + 1) c.args.high v.right = subst (λ (n : ℕ). IsPlaced (n + 1) c.args.high v.right) (sym m) o.placed.5 in
    let found = found_right c.args.low c.args.high c.args.extent.start c.args.extent.units v o.placed there (omega (arith, m, c.if-middle-extent.true)) in
    (smaller, (placed, (o.spans.2, (found, c.requires.bound))))

pub remove-requires-then-extent-middle : goal.remove-requires-then-extent-middle
remove-requires-then-extent-middle t c =
    let v = c.deref_mut-parted.result.now in
    let o = changing c.args.low c.args.high c.args.self.now _ v _ c.in-Parted.is c.deref_mut-parted.ensures.value refl (λ p. p) (λ s. s) c.requires.placed c.requires.spanned in
    let m : c.middle_of-middle.result ≡ middle_unit c.args.low c.args.high = c.middle_of-middle.ensures in
    let at : c.args.high - c.args.low ≡ t = c.decreases in
    let there : find nat_cmp c.args.extent.start (parts_in v) ≡ Some c.args.extent.units = sym (ap (find nat_cmp c.args.extent.start) o.full) ∙ c.requires.there in
    let ends = found_within c.args.extent.start c.args.extent.units c.args.low c.args.high (parts_in v) o.placed.0 there in
    let smaller : c.middle_of-middle.result - c.args.low < t = omega (arith, m, at, ends.0, ends.1, ends.2) in
    let placed : IsPlaced c.args.low c.middle_of-middle.result v.left = subst (λ (n : ℕ). IsPlaced c.args.low n v.left) (sym m) o.placed.4 in
    let found = found_left c.args.low c.args.high c.args.extent.start c.args.extent.units v o.placed there (omega (arith, m, c.if-extent-middle.true)) in
    (smaller, (placed, (o.spans.1, (found, omega (arith, m, c.requires.bound, ends.0, ends.1, ends.2)))))

pub span_of_parts-parted-requires-clause-some : goal.span_of_parts-parted-requires-clause-some
span_of_parts-parted-requires-clause-some t c =
    let v = c.deref_mut-parted.result.now in
    let new = c.if-middle-extent.parted in
    let o = changing c.args.low c.args.high c.args.self.now _ v _ c.in-Parted.is c.deref_mut-parted.ensures.value refl (λ p. p) (λ s. s) c.requires.placed c.requires.spanned in
    let m : c.middle_of-middle.result ≡ middle_unit c.args.low c.args.high = c.middle_of-middle.ensures in
    let there : find nat_cmp c.args.extent.start (parts_in v) ≡ Some c.args.extent.units = sym (ap (find nat_cmp c.args.extent.start) o.full) ∙ c.requires.there in
    let taken : TakenOut c.args.low c.args.high c.args.extent.start v new = elim c.if-middle-extent.branch [
      | then-middle-extent w ↦ taken_right c.args.low c.args.high c.args.extent.start c.args.extent.units v o.placed there (omega (arith, m, w.if-middle-extent.true)) new w.remove.new.self w.parted-is w.remove.ensures.gone
          (subst (λ (n : ℕ). IsPlaced (n + 1) c.args.high w.remove.new.self) m w.remove.ensures.placed)
      | else-middle-extent+then-extent-middle w ↦ taken_left c.args.low c.args.high c.args.extent.start c.args.extent.units v o.placed there (omega (arith, m, w.if-extent-middle.true)) new w.remove-then-extent-middle.new.self w.parted-is w.remove-then-extent-middle.ensures.gone
          (subst (λ (n : ℕ). IsPlaced c.args.low n w.remove-then-extent-middle.new.self) m w.remove-then-extent-middle.ensures.placed)
      | else-middle-extent+else-extent-middle w ↦ taken_here c.args.low c.args.high c.args.extent.start c.args.extent.units v o.placed there (omega (arith, m, w.if-middle-extent.false)) (omega (arith, m, w.if-extent-middle.false)) new w.parted-is
    ] in
    subst (λ es. 1 ≤ length es) (sym taken.list) (without_leaves c.args.extent.start c.args.low c.args.high (parts_in v) o.placed.0 o.spans.3)

pub span_of_parts-parted-requires-clause-ordered : goal.span_of_parts-parted-requires-clause-ordered
span_of_parts-parted-requires-clause-ordered t c =
    let v = c.deref_mut-parted.result.now in
    let new = c.if-middle-extent.parted in
    let o = changing c.args.low c.args.high c.args.self.now _ v _ c.in-Parted.is c.deref_mut-parted.ensures.value refl (λ p. p) (λ s. s) c.requires.placed c.requires.spanned in
    let m : c.middle_of-middle.result ≡ middle_unit c.args.low c.args.high = c.middle_of-middle.ensures in
    let there : find nat_cmp c.args.extent.start (parts_in v) ≡ Some c.args.extent.units = sym (ap (find nat_cmp c.args.extent.start) o.full) ∙ c.requires.there in
    let taken : TakenOut c.args.low c.args.high c.args.extent.start v new = elim c.if-middle-extent.branch [
      | then-middle-extent w ↦ taken_right c.args.low c.args.high c.args.extent.start c.args.extent.units v o.placed there (omega (arith, m, w.if-middle-extent.true)) new w.remove.new.self w.parted-is w.remove.ensures.gone
          (subst (λ (n : ℕ). IsPlaced (n + 1) c.args.high w.remove.new.self) m w.remove.ensures.placed)
      | else-middle-extent+then-extent-middle w ↦ taken_left c.args.low c.args.high c.args.extent.start c.args.extent.units v o.placed there (omega (arith, m, w.if-extent-middle.true)) new w.remove-then-extent-middle.new.self w.parted-is w.remove-then-extent-middle.ensures.gone
          (subst (λ (n : ℕ). IsPlaced c.args.low n w.remove-then-extent-middle.new.self) m w.remove-then-extent-middle.ensures.placed)
      | else-middle-extent+else-extent-middle w ↦ taken_here c.args.low c.args.high c.args.extent.start c.args.extent.units v o.placed there (omega (arith, m, w.if-middle-extent.false)) (omega (arith, m, w.if-extent-middle.false)) new w.parted-is
    ] in
    in_order_weaker c.args.low c.args.high 0 (2 ^ 51) (parts_in new) (omega arith) c.requires.bound taken.placed.0

pub returns-in-Some-clause-gone : goal.returns-in-Some-clause-gone
returns-in-Some-clause-gone t c =
    let v = c.deref_mut-parted.result.now in
    let new = c.if-middle-extent.parted in
    let o = changing c.args.low c.args.high c.args.self.now _ v _ c.in-Parted.is c.deref_mut-parted.ensures.value refl (λ p. p) (λ s. s) c.requires.placed c.requires.spanned in
    let m : c.middle_of-middle.result ≡ middle_unit c.args.low c.args.high = c.middle_of-middle.ensures in
    let there : find nat_cmp c.args.extent.start (parts_in v) ≡ Some c.args.extent.units = sym (ap (find nat_cmp c.args.extent.start) o.full) ∙ c.requires.there in
    let taken : TakenOut c.args.low c.args.high c.args.extent.start v new = elim c.if-middle-extent.branch [
      | then-middle-extent w ↦ taken_right c.args.low c.args.high c.args.extent.start c.args.extent.units v o.placed there (omega (arith, m, w.if-middle-extent.true)) new w.remove.new.self w.parted-is w.remove.ensures.gone
          (subst (λ (n : ℕ). IsPlaced (n + 1) c.args.high w.remove.new.self) m w.remove.ensures.placed)
      | else-middle-extent+then-extent-middle w ↦ taken_left c.args.low c.args.high c.args.extent.start c.args.extent.units v o.placed there (omega (arith, m, w.if-extent-middle.true)) new w.remove-then-extent-middle.new.self w.parted-is w.remove-then-extent-middle.ensures.gone
          (subst (λ (n : ℕ). IsPlaced c.args.low n w.remove-then-extent-middle.new.self) m w.remove-then-extent-middle.ensures.placed)
      | else-middle-extent+else-extent-middle w ↦ taken_here c.args.low c.args.high c.args.extent.start c.args.extent.units v o.placed there (omega (arith, m, w.if-middle-extent.false)) (omega (arith, m, w.if-extent-middle.false)) new w.parted-is
    ] in
    c.of.ensures.one ∙ sym c.in-Some.ensures.one ∙ taken.list ∙ sym (ap (without c.args.extent.start) o.full)

pub returns-in-Some-clause-placed : goal.returns-in-Some-clause-placed
returns-in-Some-clause-placed t c =
    let v = c.deref_mut-parted.result.now in
    let new = c.if-middle-extent.parted in
    let o = changing c.args.low c.args.high c.args.self.now _ v _ c.in-Parted.is c.deref_mut-parted.ensures.value refl (λ p. p) (λ s. s) c.requires.placed c.requires.spanned in
    let m : c.middle_of-middle.result ≡ middle_unit c.args.low c.args.high = c.middle_of-middle.ensures in
    let there : find nat_cmp c.args.extent.start (parts_in v) ≡ Some c.args.extent.units = sym (ap (find nat_cmp c.args.extent.start) o.full) ∙ c.requires.there in
    let taken : TakenOut c.args.low c.args.high c.args.extent.start v new = elim c.if-middle-extent.branch [
      | then-middle-extent w ↦ taken_right c.args.low c.args.high c.args.extent.start c.args.extent.units v o.placed there (omega (arith, m, w.if-middle-extent.true)) new w.remove.new.self w.parted-is w.remove.ensures.gone
          (subst (λ (n : ℕ). IsPlaced (n + 1) c.args.high w.remove.new.self) m w.remove.ensures.placed)
      | else-middle-extent+then-extent-middle w ↦ taken_left c.args.low c.args.high c.args.extent.start c.args.extent.units v o.placed there (omega (arith, m, w.if-extent-middle.true)) new w.remove-then-extent-middle.new.self w.parted-is w.remove-then-extent-middle.ensures.gone
          (subst (λ (n : ℕ). IsPlaced c.args.low n w.remove-then-extent-middle.new.self) m w.remove-then-extent-middle.ensures.placed)
      | else-middle-extent+else-extent-middle w ↦ taken_here c.args.low c.args.high c.args.extent.start c.args.extent.units v o.placed there (omega (arith, m, w.if-middle-extent.false)) (omega (arith, m, w.if-extent-middle.false)) new w.parted-is
    ] in
    let only = subst (AreInOrder c.args.low c.args.high) c.in-Some.ensures.one taken.placed.0 in
    c.of.ensures.placed c.args.low c.args.high (record { above = only.0; some = only.1; below = only.2 })

pub returns-clause-gone : goal.returns-clause-gone
returns-clause-gone t c =
    let v = c.deref_mut-parted.result.now in
    let new = c.if-middle-extent.parted in
    let o = changing c.args.low c.args.high c.args.self.now _ v _ c.in-Parted.is c.deref_mut-parted.ensures.value refl (λ p. p) (λ s. s) c.requires.placed c.requires.spanned in
    let m : c.middle_of-middle.result ≡ middle_unit c.args.low c.args.high = c.middle_of-middle.ensures in
    let there : find nat_cmp c.args.extent.start (parts_in v) ≡ Some c.args.extent.units = sym (ap (find nat_cmp c.args.extent.start) o.full) ∙ c.requires.there in
    let taken : TakenOut c.args.low c.args.high c.args.extent.start v new = elim c.if-middle-extent.branch [
      | then-middle-extent w ↦ taken_right c.args.low c.args.high c.args.extent.start c.args.extent.units v o.placed there (omega (arith, m, w.if-middle-extent.true)) new w.remove.new.self w.parted-is w.remove.ensures.gone
          (subst (λ (n : ℕ). IsPlaced (n + 1) c.args.high w.remove.new.self) m w.remove.ensures.placed)
      | else-middle-extent+then-extent-middle w ↦ taken_left c.args.low c.args.high c.args.extent.start c.args.extent.units v o.placed there (omega (arith, m, w.if-extent-middle.true)) new w.remove-then-extent-middle.new.self w.parted-is w.remove-then-extent-middle.ensures.gone
          (subst (λ (n : ℕ). IsPlaced c.args.low n w.remove-then-extent-middle.new.self) m w.remove-then-extent-middle.ensures.placed)
      | else-middle-extent+else-extent-middle w ↦ taken_here c.args.low c.args.high c.args.extent.start c.args.extent.units v o.placed there (omega (arith, m, w.if-middle-extent.false)) (omega (arith, m, w.if-extent-middle.false)) new w.parted-is
    ] in
    taken.list ∙ sym (ap (without c.args.extent.start) o.full)

pub returns-clause-placed : goal.returns-clause-placed
returns-clause-placed t c =
    let v = c.deref_mut-parted.result.now in
    let new = c.if-middle-extent.parted in
    let o = changing c.args.low c.args.high c.args.self.now _ v _ c.in-Parted.is c.deref_mut-parted.ensures.value refl (λ p. p) (λ s. s) c.requires.placed c.requires.spanned in
    let m : c.middle_of-middle.result ≡ middle_unit c.args.low c.args.high = c.middle_of-middle.ensures in
    let there : find nat_cmp c.args.extent.start (parts_in v) ≡ Some c.args.extent.units = sym (ap (find nat_cmp c.args.extent.start) o.full) ∙ c.requires.there in
    let taken : TakenOut c.args.low c.args.high c.args.extent.start v new = elim c.if-middle-extent.branch [
      | then-middle-extent w ↦ taken_right c.args.low c.args.high c.args.extent.start c.args.extent.units v o.placed there (omega (arith, m, w.if-middle-extent.true)) new w.remove.new.self w.parted-is w.remove.ensures.gone
          (subst (λ (n : ℕ). IsPlaced (n + 1) c.args.high w.remove.new.self) m w.remove.ensures.placed)
      | else-middle-extent+then-extent-middle w ↦ taken_left c.args.low c.args.high c.args.extent.start c.args.extent.units v o.placed there (omega (arith, m, w.if-extent-middle.true)) new w.remove-then-extent-middle.new.self w.parted-is w.remove-then-extent-middle.ensures.gone
          (subst (λ (n : ℕ). IsPlaced c.args.low n w.remove-then-extent-middle.new.self) m w.remove-then-extent-middle.ensures.placed)
      | else-middle-extent+else-extent-middle w ↦ taken_here c.args.low c.args.high c.args.extent.start c.args.extent.units v o.placed there (omega (arith, m, w.if-middle-extent.false)) (omega (arith, m, w.if-extent-middle.false)) new w.parted-is
    ] in
    taken.placed
