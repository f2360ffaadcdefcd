-- What taking a reference away and making a namespace give.
use Rattle.std.specs.Prelude.{◌≡◌, ℕ, Bool, true, false, Option, None, Some, is_some, Result, Ok, Err, if◌then◌else◌, refl}
use Rattle.std.proofs.Common.{ap, sym, subst}
use Rattle.std.specs.FinMap.{get}
use Rattle.ddc_names.specs.declared.reference.RefName.{RefName}
use Rattle.ddc_model.specs.declared.entry.Entry.{Entry}
use Rattle.ddc_model.specs.declared.entry.Entry.TheVariants.{Delete}
use Rattle.ddc_model.specs.declared.fault.StoreFault.{StoreFault}
use Rattle.ddc_model.specs.declared.fault.StoreFault.TheVariants.{UnknownSpace, NotFound}
use Rattle.ddc_model.specs.State.{State, has_space}
use Rattle.ddc_model.specs.Counts.{added}
use Rattle.ddc_model.specs.Commands.{EntryWhere, hour_of}
use Rattle.ddc_model.specs.Reads.{DeleteAs}

module _ (s : State) (name : RefName) (hour : ℕ) where
  abbrev Where : Bool → Bool → Result (Unit {0}) StoreFault → Option Entry → Type 0
  Where space slot answer made = EntryWhere (if space then (if slot then Ok (Some (Delete name (hour_of s hour))) else Err NotFound) else Err UnknownSpace) answer made

  pub delete_unknown : has_space s name.space ≡ false → DeleteAs s name hour (Err UnknownSpace) None
  delete_unknown unknown = subst (λ (there : Bool). Where there (is_some (get s.slots name)) (Err UnknownSpace) None) (sym unknown) (refl, refl)

  is_absent : (b : Bool) → added b ≡ 1 → b ≡ false
  is_absent true e = absurd (cc)
  is_absent false e = refl

  is_present : (b : Bool) → (added b ≡ 1 → ⊥) → b ≡ true
  is_present true e = refl
  is_present false e = absurd (e refl)

  pub delete_absent : has_space s name.space ≡ true → added (is_some (get s.slots name)) ≡ 1 → DeleteAs s name hour (Err NotFound) None
  delete_absent known one =
      let absent = is_absent (is_some (get s.slots name)) one in
      subst (λ (there : Bool). Where there (is_some (get s.slots name)) (Err NotFound) None) (sym known)
      (subst (λ (there : Bool). Where true there (Err NotFound) None) (sym absent) (refl, refl))

  pub delete_makes : has_space s name.space ≡ true → (added (is_some (get s.slots name)) ≡ 1 → ⊥) → (now : ℕ) → now ≡ hour_of s hour → DeleteAs s name hour (Ok tt) (Some (Delete name now))
  delete_makes known none now is =
      let present = is_present (is_some (get s.slots name)) none in
      subst (λ (there : Bool). Where there (is_some (get s.slots name)) (Ok tt) (Some (Delete name now))) (sym known)
      (subst (λ (there : Bool). Where true there (Ok tt) (Some (Delete name now))) (sym present) (refl, ap (λ (n : ℕ). Some (Delete name n)) is))
