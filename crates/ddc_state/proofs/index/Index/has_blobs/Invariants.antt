use Rattle.std.proofs.Common.{◌≡◌, drop}
use Rattle.ddc_model.specs.Entries.{has_blobs}
use Rattle.ddc_state.proofs.index.Index.has_blobs.Given as goal

abbrev pub invariant-loop-hash : goal.invariant-loop-hash
invariant-loop-hash l = has_blobs l.self.state l.space (drop l.hash-index l.hashes) ≡ has_blobs l.self.state l.space l.hashes
