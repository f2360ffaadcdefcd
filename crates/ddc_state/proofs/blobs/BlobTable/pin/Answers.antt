use Rattle.std.proofs.Common.{ap, sym, subst, ◌∙◌, ◌≡◌}
use Rattle.ddc_model.specs.declared.rows.Blob.{Blob}
use Rattle.ddc_state.specs.declared.blobs.BlobTable.TheInside.{Inside}
use Rattle.ddc_state.proofs.Counting.{links_in_all, changed}
use Rattle.ddc_state.proofs.blobs.BlobTable.pin.Goals as goal
use Rattle.ddc_state.proofs.blobs.BlobTable.pin.Goals.{in-Some, in_default}

pub invariant_of-self : goal.invariant_of-self
invariant_of-self c = elim c.match-get_mut.branch [
  | in-Some w ↦ subst (λ (a : Inside). links_in_all a.blobs ≡ a.links) (sym w.self-inside-is)
      (changed c.self.inside.blobs c.args.name.now w.in-Some.blob.now w.pin.new.self (sym w.in-Some.ensures.value) (ap (λ (blob : Blob). blob.links) w.pin.ensures) ∙ c.self.invariant)
  | in_default w ↦ subst (λ (a : Inside). links_in_all a.blobs ≡ a.links) (sym w.self-inside-is) c.self.invariant
]
