use Rattle.std.proofs.Common.{◌≡◌, ◌<◌, ◌≤◌, ◌-◌, ◌+◌, ◌++◌, ◌^◌, ℕ, length, refl, sym, ap, subst, ◌∙◌, arith}
use Rattle.std.specs.Ordering.{nat_cmp}
use Rattle.std.specs.FinMap.{put}
use Rattle.blob_store.specs.inside.Areas.{extents_in, listed_held, middle_unit, IsPlaced, AreSpanned}
use Rattle.blob_store.specs.declared.area.PartedArea.{PartedArea}
use Rattle.blob_store.proofs.Edits.{put_no_fewer}
use Rattle.blob_store.specs.inside.Runs.{MissesAll, LiesWithin}
use Rattle.blob_store.proofs.Runs.{misses_front, misses_back, in_order_weaker}
use Rattle.blob_store.proofs.Parts.{parts_in}
use Rattle.blob_store.proofs.Placed.{changing, PutIn, put_right, put_left, put_here}
use Rattle.blob_store.proofs.area.Area.+insert.Goals as goal
use Rattle.blob_store.proofs.area.Area.+insert.Goals.{then-middle-extent+in_ok-insert-in-Parted, else-middle-extent+then-extent-middle+in_ok-insert-in-Parted-2, else-middle-extent+else-extent-middle}

pub insert-requires : goal.insert-requires
insert-requires t c =
    let v = c.deref_mut-parted.result.now in
    let o = changing c.args.low c.args.high c.args.self.now _ v _ c.in-Parted.is c.deref_mut-parted.ensures.value refl (λ p. p) (λ s. s) c.requires.placed c.requires.spanned in
    let m : c.middle_of-middle.result ≡ middle_unit c.args.low c.args.high = c.middle_of-middle.ensures in
    let at : c.args.high - c.args.low ≡ t = c.decreases in
    let w = c.requires.within in
    let smaller : c.args.high - (c.middle_of-middle.result + 1) < t = omega (arith, m, at, w.above, w.below, w.some) in
    let placed : IsPlaced (c.middle_of-middle.result + 1) c.args.high v.right = subst (λ (n : ℕ). IsPlaced (n + 1) c.args.high v.right) (sym m) o.placed.5 in
    let within : LiesWithin (c.middle_of-middle.result + 1) c.args.high c.args.extent = record { above = omega (arith, c.if-middle-extent.true); some = w.some; below = w.below } in
    let free = misses_back c.args.extent (listed_held v.held) (extents_in v.right) (misses_back c.args.extent (extents_in v.left) (listed_held v.held ++ extents_in v.right) (subst (MissesAll c.args.extent) o.full c.requires.free)) in
    (smaller, (placed, (o.spans.2, (within, (free, c.requires.bound)))))

pub insert-requires-then-extent-middle : goal.insert-requires-then-extent-middle
insert-requires-then-extent-middle t c =
    let v = c.deref_mut-parted.result.now in
    let o = changing c.args.low c.args.high c.args.self.now _ v _ c.in-Parted.is c.deref_mut-parted.ensures.value refl (λ p. p) (λ s. s) c.requires.placed c.requires.spanned in
    let m : c.middle_of-middle.result ≡ middle_unit c.args.low c.args.high = c.middle_of-middle.ensures in
    let at : c.args.high - c.args.low ≡ t = c.decreases in
    let w = c.requires.within in
    let smaller : c.middle_of-middle.result - c.args.low < t = omega (arith, m, at, w.above, w.below, w.some) in
    let placed : IsPlaced c.args.low c.middle_of-middle.result v.left = subst (λ (n : ℕ). IsPlaced c.args.low n v.left) (sym m) o.placed.4 in
    let within : LiesWithin c.args.low c.middle_of-middle.result c.args.extent = record { above = w.above; some = w.some; below = c.if-extent-middle.true } in
    let free = misses_front c.args.extent (extents_in v.left) (listed_held v.held ++ extents_in v.right) (subst (MissesAll c.args.extent) o.full c.requires.free) in
    (smaller, (placed, (o.spans.1, (within, (free, omega (arith, m, c.requires.bound, w.above, w.below))))))

pub span_of_parts-parted-requires-clause-ordered : goal.span_of_parts-parted-requires-clause-ordered
span_of_parts-parted-requires-clause-ordered t c =
    let v = c.deref_mut-parted.result.now in
    let new = c.if-middle-extent.parted in
    let o = changing c.args.low c.args.high c.args.self.now _ v _ c.in-Parted.is c.deref_mut-parted.ensures.value refl (λ p. p) (λ s. s) c.requires.placed c.requires.spanned in
    let m : c.middle_of-middle.result ≡ middle_unit c.args.low c.args.high = c.middle_of-middle.ensures in
    let free = subst (MissesAll c.args.extent) o.full c.requires.free in
    let put_in : PutIn c.args.low c.args.high c.args.extent v new = elim c.if-middle-extent.branch [
      | then-middle-extent+in_ok-insert-in-Parted w ↦ put_right c.args.low c.args.high c.args.extent v new c.requires.within free o.placed (omega (arith, m, w.if-middle-extent.true)) w.insert.new.self w.parted-is w.in_ok-insert-in-Parted.ensures.ok
          (subst (λ (n : ℕ). IsPlaced (n + 1) c.args.high w.insert.new.self) m w.insert.ensures.placed)
      | else-middle-extent+then-extent-middle+in_ok-insert-in-Parted-2 w ↦ put_left c.args.low c.args.high c.args.extent v new c.requires.within free o.placed (omega (arith, m, w.if-extent-middle.true)) w.insert-then-extent-middle.new.self w.parted-is w.in_ok-insert-in-Parted-2.ensures.ok
          (subst (λ (n : ℕ). IsPlaced c.args.low n w.insert-then-extent-middle.new.self) m w.insert-then-extent-middle.ensures.placed)
      | else-middle-extent+else-extent-middle w ↦ put_here c.args.low c.args.high c.args.extent v new c.requires.within free o.placed (omega (arith, m, w.if-middle-extent.false)) (omega (arith, m, w.if-extent-middle.false)) w.of-parted.result w.of-parted.ensures w.parted-is
    ] in
    in_order_weaker c.args.low c.args.high 0 (2 ^ 51) (parts_in new) (omega arith) c.requires.bound put_in.placed.0

pub returns-after-middle-extent-clause-ok : goal.returns-after-middle-extent-clause-ok
returns-after-middle-extent-clause-ok t c =
    let v = c.deref_mut-parted.result.now in
    let new = c.if-middle-extent.parted in
    let o = changing c.args.low c.args.high c.args.self.now _ v _ c.in-Parted.is c.deref_mut-parted.ensures.value refl (λ p. p) (λ s. s) c.requires.placed c.requires.spanned in
    let m : c.middle_of-middle.result ≡ middle_unit c.args.low c.args.high = c.middle_of-middle.ensures in
    let free = subst (MissesAll c.args.extent) o.full c.requires.free in
    let put_in : PutIn c.args.low c.args.high c.args.extent v new = elim c.if-middle-extent.branch [
      | then-middle-extent+in_ok-insert-in-Parted w ↦ put_right c.args.low c.args.high c.args.extent v new c.requires.within free o.placed (omega (arith, m, w.if-middle-extent.true)) w.insert.new.self w.parted-is w.in_ok-insert-in-Parted.ensures.ok
          (subst (λ (n : ℕ). IsPlaced (n + 1) c.args.high w.insert.new.self) m w.insert.ensures.placed)
      | else-middle-extent+then-extent-middle+in_ok-insert-in-Parted-2 w ↦ put_left c.args.low c.args.high c.args.extent v new c.requires.within free o.placed (omega (arith, m, w.if-extent-middle.true)) w.insert-then-extent-middle.new.self w.parted-is w.in_ok-insert-in-Parted-2.ensures.ok
          (subst (λ (n : ℕ). IsPlaced c.args.low n w.insert-then-extent-middle.new.self) m w.insert-then-extent-middle.ensures.placed)
      | else-middle-extent+else-extent-middle w ↦ put_here c.args.low c.args.high c.args.extent v new c.requires.within free o.placed (omega (arith, m, w.if-middle-extent.false)) (omega (arith, m, w.if-extent-middle.false)) w.of-parted.result w.of-parted.ensures w.parted-is
    ] in
    put_in.list ∙ sym (ap (put nat_cmp c.args.extent.start c.args.extent.units) o.full)

pub returns-after-middle-extent-clause-placed : goal.returns-after-middle-extent-clause-placed
returns-after-middle-extent-clause-placed t c =
    let v = c.deref_mut-parted.result.now in
    let new = c.if-middle-extent.parted in
    let o = changing c.args.low c.args.high c.args.self.now _ v _ c.in-Parted.is c.deref_mut-parted.ensures.value refl (λ p. p) (λ s. s) c.requires.placed c.requires.spanned in
    let m : c.middle_of-middle.result ≡ middle_unit c.args.low c.args.high = c.middle_of-middle.ensures in
    let free = subst (MissesAll c.args.extent) o.full c.requires.free in
    let put_in : PutIn c.args.low c.args.high c.args.extent v new = elim c.if-middle-extent.branch [
      | then-middle-extent+in_ok-insert-in-Parted w ↦ put_right c.args.low c.args.high c.args.extent v new c.requires.within free o.placed (omega (arith, m, w.if-middle-extent.true)) w.insert.new.self w.parted-is w.in_ok-insert-in-Parted.ensures.ok
          (subst (λ (n : ℕ). IsPlaced (n + 1) c.args.high w.insert.new.self) m w.insert.ensures.placed)
      | else-middle-extent+then-extent-middle+in_ok-insert-in-Parted-2 w ↦ put_left c.args.low c.args.high c.args.extent v new c.requires.within free o.placed (omega (arith, m, w.if-extent-middle.true)) w.insert-then-extent-middle.new.self w.parted-is w.in_ok-insert-in-Parted-2.ensures.ok
          (subst (λ (n : ℕ). IsPlaced c.args.low n w.insert-then-extent-middle.new.self) m w.insert-then-extent-middle.ensures.placed)
      | else-middle-extent+else-extent-middle w ↦ put_here c.args.low c.args.high c.args.extent v new c.requires.within free o.placed (omega (arith, m, w.if-middle-extent.false)) (omega (arith, m, w.if-extent-middle.false)) w.of-parted.result w.of-parted.ensures w.parted-is
    ] in
    put_in.placed

pub returns-after-middle-extent-clause-spanned : goal.returns-after-middle-extent-clause-spanned
returns-after-middle-extent-clause-spanned t c =
    let v = c.deref_mut-parted.result.now in
    let new = c.if-middle-extent.parted in
    let o = changing c.args.low c.args.high c.args.self.now _ v _ c.in-Parted.is c.deref_mut-parted.ensures.value refl (λ p. p) (λ s. s) c.requires.placed c.requires.spanned in
    let m : c.middle_of-middle.result ≡ middle_unit c.args.low c.args.high = c.middle_of-middle.ensures in
    let free = subst (MissesAll c.args.extent) o.full c.requires.free in
    let put_in : PutIn c.args.low c.args.high c.args.extent v new = elim c.if-middle-extent.branch [
      | then-middle-extent+in_ok-insert-in-Parted w ↦ put_right c.args.low c.args.high c.args.extent v new c.requires.within free o.placed (omega (arith, m, w.if-middle-extent.true)) w.insert.new.self w.parted-is w.in_ok-insert-in-Parted.ensures.ok
          (subst (λ (n : ℕ). IsPlaced (n + 1) c.args.high w.insert.new.self) m w.insert.ensures.placed)
      | else-middle-extent+then-extent-middle+in_ok-insert-in-Parted-2 w ↦ put_left c.args.low c.args.high c.args.extent v new c.requires.within free o.placed (omega (arith, m, w.if-extent-middle.true)) w.insert-then-extent-middle.new.self w.parted-is w.in_ok-insert-in-Parted-2.ensures.ok
          (subst (λ (n : ℕ). IsPlaced c.args.low n w.insert-then-extent-middle.new.self) m w.insert-then-extent-middle.ensures.placed)
      | else-middle-extent+else-extent-middle w ↦ put_here c.args.low c.args.high c.args.extent v new c.requires.within free o.placed (omega (arith, m, w.if-middle-extent.false)) (omega (arith, m, w.if-extent-middle.false)) w.of-parted.result w.of-parted.ensures w.parted-is
    ] in
    let spans : AreSpanned new.left × AreSpanned new.right = elim c.if-middle-extent.branch [
      | then-middle-extent+in_ok-insert-in-Parted w ↦ subst (λ (p : PartedArea). AreSpanned p.left × AreSpanned p.right) (sym w.parted-is) (o.spans.1, w.insert.ensures.spanned)
      | else-middle-extent+then-extent-middle+in_ok-insert-in-Parted-2 w ↦ subst (λ (p : PartedArea). AreSpanned p.left × AreSpanned p.right) (sym w.parted-is) (w.insert-then-extent-middle.ensures.spanned, o.spans.2)
      | else-middle-extent+else-extent-middle w ↦ subst (λ (p : PartedArea). AreSpanned p.left × AreSpanned p.right) (sym w.parted-is) (o.spans.1, o.spans.2)
    ] in
    let two : 2 ≤ length (parts_in new) = omega (arith, o.spans.3, put_no_fewer c.args.extent.start c.args.extent.units (parts_in v), ap length put_in.list) in
    (c.span_of_parts-parted.ensures, spans.0, spans.1, two)
