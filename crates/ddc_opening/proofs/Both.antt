-- What two devices tell of their files.
use Rattle.std.proofs.Common.{◌≡◌, ℕ, List, refl}
use Rattle.std.specs.Prelude.{Option, None, Some, IfSome, IsSome}
use Rattle.ddc_disk.specs.Disk.{Meaning}
use Rattle.ddc_disk.specs.Told.{told_file, at_told}
use Rattle.ddc_disk.specs.declared.devices.Devices.{Devices}
use Rattle.ddc_journal.specs.Pairs.{IfBoth}

each_told : (x y : Option (List ℕ)) (P : List ℕ → List ℕ → Type 0) → ((a b : List ℕ) → x ≡ Some a → y ≡ Some b → P a b) → IfSome x (λ a. IfSome y (λ b. P a b))
each_told None y P all = tt
each_told (Some a) None P all = tt
each_told (Some a) (Some b) P all = all a b refl refl

module _ {D : Type 0} (meaning : D → Meaning) (devices : Devices D) where
  -- what holds of whatever they tell
  pub if_both : (P : List ℕ → List ℕ → Type 0) → ((a b : List ℕ) → (meaning devices.first).held ≡ Some a → (meaning devices.second).held ≡ Some b → P a b) → IfBoth meaning devices P
  if_both P all = each_told (meaning devices.first).held (meaning devices.second).held P all

  -- what holds of the files that they tell
  pub at_both : (P : List ℕ → List ℕ → Type 0) (a b : List ℕ) → (meaning devices.first).held ≡ Some a → (meaning devices.second).held ≡ Some b → IfBoth meaning devices P → P a b
  at_both P a b is_a is_b holds = at_told (meaning devices.second).held (P a) b is_b (at_told (meaning devices.first).held (λ x. IfSome (meaning devices.second).held (P x)) a is_a holds)

  -- what holds of any, where both tell one
  pub of_told : (P : Type 0) → IsSome (meaning devices.first).held → IsSome (meaning devices.second).held → IfBoth meaning devices (λ _ _. P) → P
  of_told P first second holds =
      let a = told_file (meaning devices.first).held first in
      let b = told_file (meaning devices.second).held second in
      at_both (λ _ _. P) a.0 b.0 a.1 b.1 holds
