-- What a call did to a source, to a sink or to a store.
use Rattle.std.specs.Prelude.{◌≡◌, ℕ, List, Option}
use Rattle.ddc_names.specs.Causes.{Rose}

-- how it was seen before the call and after it, and how often it had failed then
pub record Effect (A : Type 0) : Type 0 where
  pub before : A
  pub after : A
  pub faults_before : ℕ
  pub faults_after : ℕ

abbrev pub effect : {X A : Type 0} → (X → A) → (X → ℕ) → X → X → Effect A
effect view faults old new = record { before = view old; after = view new; faults_before = faults old; faults_after = faults new }

-- the bytes that a source has left, or that were written to a sink, where it tells them
abbrev pub Bytes : Type 0
Bytes = Option (List ℕ)

-- the count of faults rose
abbrev pub Rises : {A : Type 0} → Effect A → Type 0
Rises call = Rose call.faults_before call.faults_after

-- it stayed
abbrev pub MeetsNoFault : {A : Type 0} → Effect A → Type 0
MeetsNoFault call = call.faults_before ≡ call.faults_after

-- nothing was done
abbrev pub IsUntouched : {A : Type 0} → Effect A → Type 0
IsUntouched call = (call.after ≡ call.before) × MeetsNoFault call
