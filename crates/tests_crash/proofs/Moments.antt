-- What a crash leaves at each moment: of a store that was made, of one that was opened, and from the making to the end.
use Rattle.std.specs.Prelude.{◌⊎◌, ℕ, ◌≤◌, List, refl}
use Rattle.std.proofs.Common.{inl, inr, ⊎_elim, arith}
use Rattle.std.proofs.lemmas.Bool.{cases_lt}
use Rattle.ddc_disk.specs.Disk.{Timeline, EachImage, EachSince, IsImage}
use Rattle.ddc_disk.specs.Images.{Images, devices_line}
use Rattle.ddc_disk.specs.MemDisks.{told_by}
use Rattle.ddc_disk.specs.declared.devices.Devices.{Devices}
use Rattle.ddc_disk.specs.declared.mem_disk.MemDisk.{MemDisk}
use Rattle.ddc_model.specs.declared.entry.Step.{Step}
use Rattle.ddc_model.specs.declared.rows.Limits.{Limits}
use Rattle.ddc_model.specs.Sound.{empty_cache}
use Rattle.ddc_book.specs.View.{EachFrom, OpensFrom}
use Rattle.tests_crash.specs.Honest.{HoldSound, NoneOrEmpty, NoneOrFrom}

-- the empty store is what none of the steps leaves
none_of : (limits : Limits) (steps : List Step) (im : Images) → NoneOrEmpty limits im → NoneOrFrom limits steps im
none_of limits steps im (inl unmade) = inl unmade
none_of limits steps im (inr opens) = inr (record { n = 0; least_is = omega arith; within = omega arith; state = empty_cache limits; opens = opens; index = refl })

some_of : (limits : Limits) (steps : List Step) (im : Images) (least : ℕ) → OpensFrom least limits steps im → NoneOrFrom limits steps im
some_of limits steps im least some = inr (record { n = some.n; least_is = omega arith; within = some.within; state = some.state; opens = some.opens; index = some.index })

-- a store that was made by the first moment, and went on
pub since_made : (limits : Limits) (steps : List Step) (least opened : ℕ) (made now : Timeline Images) → opened ≤ made.moment
    → EachFrom made 0 (NoneOrEmpty limits) → EachSince made now (λ _. Unit {0}) → EachFrom now opened (OpensFrom least limits steps) → EachFrom now 0 (NoneOrFrom limits steps)
since_made limits steps least opened made now time before goes since t im le left =
    ⊎_elim (λ early. none_of limits steps im (before t im le (goes.past t im (omega (arith, early, time)) left))) (λ late. some_of limits steps im least (since t im late left)) (cases_lt t opened)

-- a store that was opened by the second moment, and went on
pub since_loaded : (Q : Images → Type 0) (opened : ℕ) (old loaded now : Timeline Images) → opened ≤ loaded.moment
    → EachSince old loaded (IsImage old) → EachSince loaded now (λ _. Unit {0}) → EachFrom now opened Q → EachSince old now (λ im. IsImage old im ⊎ Q im)
since_loaded Q opened old loaded now time before goes since = record {
  later = omega (arith, before.later, goes.later);
  keeps = λ t im le left. goes.keeps t im (omega (arith, le, before.later)) (before.keeps t im le left);
  past = λ t im le left. before.past t im le (goes.past t im (omega (arith, le, before.later)) left);
  each = λ t im le left. ⊎_elim (λ early. inl (before.each t im le (goes.past t im (omega (arith, early, time)) left))) (λ late. inr (since t im late left)) (cases_lt t opened);
}

-- one life after another
pub in_both : (P Q : Images → Type 0) (first later : Timeline Images) → EachFrom first 0 P → EachSince first later (λ im. IsImage first im ⊎ Q im) → EachFrom later 0 (λ im. P im ⊎ Q im)
in_both P Q first later before since t im le left =
    let stood : IsImage first im → P im = λ image. before first.moment im (omega arith) image in
    ⊎_elim (λ early. inl (before t im le (since.past t im (omega (arith, early)) left)))
    (λ late. ⊎_elim (λ image. inl (stood image)) (λ other. inr other) (since.each t im late left)) (cases_lt t first.moment)

-- what some steps leave is sound
pub held_sound : (limits : Limits) (steps : List Step) (least : ℕ) (devices : Devices MemDisk) → EachImage (devices_line told_by devices) (OpensFrom least limits steps) → HoldSound limits devices
held_sound limits steps least devices opens im image = let some = opens im image in (some.state, some.opens)
