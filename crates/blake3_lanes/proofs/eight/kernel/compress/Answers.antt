use Rattle.std.proofs.Common.{refl}
use Rattle.tree_hash.specs.TreeHash.{compress_words, rounds}
use Rattle.blake3_lanes.proofs.eight.kernel.compress.Goals as goal

pub returns : goal.returns
unfolding compress_words rounds
returns c j n h low high = rw (c.folded.ensures j h, c.round-7.ensures j h, c.permute-m-6.ensures j h, c.round-6.ensures j h, c.permute-m-5.ensures j h, c.round-5.ensures j h, c.permute-m-4.ensures j h, c.round-4.ensures j h, c.permute-m-3.ensures j h, c.round-3.ensures j h, c.permute-m-2.ensures j h, c.round-2.ensures j h, c.permute-m.ensures j h, c.round.ensures j h, c.start_state-v.ensures j n h low high) refl
