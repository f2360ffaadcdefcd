-- What a crash leaves while an empty store is made.
use Rattle.std.proofs.Common.{◌⊎◌, inl, inr, ◌≤◌, [], refl, sym, ◌∙◌, ap, arith}
use Rattle.std.specs.Prelude.{Some}
use Rattle.ddc_disk.specs.Disk.{Meaning, Timeline, IsImage, EachSince}
use Rattle.ddc_disk.specs.Images.{Images, devices_faults, devices_line}
use Rattle.ddc_disk.specs.Since.{then_runs, weaker}
use Rattle.ddc_disk.specs.declared.devices.Devices.{Devices}
use Rattle.ddc_journal.specs.Pairs.{IfBoth, IsPairOf, NoneMade}
use Rattle.ddc_model.specs.declared.rows.Limits.{Limits}
use Rattle.ddc_model.specs.Sound.{empty_cache}
use Rattle.ddc_model.specs.Laws.{EmptyIsSound}
use Rattle.ddc_opening.specs.Opening.{version, OpensAs}
use Rattle.ddc_opening.specs.Loading.{AsBefore, Creates}
use Rattle.ddc_opening.specs.BytesIn.{bytes_empty}
use Rattle.ddc_opening.proofs.Both.{if_both, at_both}

-- an empty journal is an empty store
opens_empty : EmptyIsSound → (limits : Limits) (im : Images) → IsPairOf version [] im.first im.second → OpensAs limits im (empty_cache limits)
opens_empty sound limits im loads = record {
  holds = ([], record { bodies = []; loads = loads; spelled = tt; are_legal = tt }, refl);
  bytes = ap Some (sym (bytes_empty im.blobs));
  whole = (sound limits).whole;
}

module _ {D : Type 0} (meaning : D → Meaning) (limits : Limits) (old mid new : Devices D) (before : AsBefore meaning old mid) where
  abbrev line : Devices D → Timeline Images
  line devices = devices_line meaning devices

  -- a crash leaves one of these
  abbrev Leaves : Images → Type 0
  Leaves im = IsImage (line old) im ⊎ NoneMade im.first im.second ⊎ OpensAs limits im (empty_cache limits)

  abbrev Made : Images → Type 0
  Made im = IsImage (line mid) im ⊎ (NoneMade im.first im.second ⊎ IsPairOf version [] im.first im.second)

  leaves : EmptyIsSound → (im : Images) → Made im → Leaves im
  leaves sound im (inl now) = inl (before.since.each (line mid).moment im before.since.later now)
  leaves sound im (inr (inl none)) = inr (inl none)
  leaves sound im (inr (inr loads)) = inr (inr (opens_empty sound limits im loads))

  pub creates : EmptyIsSound → devices_faults meaning mid ≤ devices_faults meaning new → EachSince (line mid) (line new) (λ _. Unit {0})
      → IfBoth meaning mid (λ a b. NoneMade a b → EachSince (line mid) (line new) Made) → Creates meaning old limits new
  creates sound later past each = record {
    later = omega (arith, later, before.later);
    past = then_runs (line old) (line mid) (line new) (λ _. Unit {0}) (λ _. Unit {0}) (weaker (line old) (line mid) (IsImage (line old)) (λ _. Unit {0}) before.since (λ im is. tt)) past (λ im is. tt);
    each = if_both meaning old (λ a b. NoneMade a b → EachSince (line old) (line new) Leaves) (λ a b is_a is_b none.
        let run = at_both meaning mid (λ a b. NoneMade a b → EachSince (line mid) (line new) Made) a b (before.first ∙ is_a) (before.second ∙ is_b) each none in
        then_runs (line old) (line mid) (line new) Leaves Leaves
        (weaker (line old) (line mid) (IsImage (line old)) Leaves before.since (λ im is. inl is))
        (weaker (line mid) (line new) Made Leaves run (leaves sound)) (λ im is. is));
  }
