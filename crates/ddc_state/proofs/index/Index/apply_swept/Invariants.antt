use Rattle.std.proofs.Common.{◌≡◌, drop}
use Rattle.ddc_model.specs.Entries.{without_blobs}
use Rattle.ddc_state.specs.Views.{in_state}
use Rattle.ddc_state.proofs.index.Index.apply_swept.Given as goal

abbrev pub invariant-loop-hash : goal.invariant-loop-hash
invariant-loop-hash l = in_state l.self (without_blobs l.self.state l.space (drop l.hash-index l.hashes)) ≡ in_state l.initial.self (without_blobs l.initial.self.state l.space l.hashes)
