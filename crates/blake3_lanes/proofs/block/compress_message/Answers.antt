use Rattle.std.proofs.Common.{refl}
use Rattle.tree_hash.specs.TreeHash.{compress_words, rounds}
use Rattle.blake3_lanes.proofs.block.compress_message.Goals as goal

pub returns : goal.returns
unfolding compress_words rounds
returns c = rw (c.folded.ensures, c.round-v-7.ensures, c.permute-m-6.ensures, c.round-v-6.ensures, c.permute-m-5.ensures, c.round-v-5.ensures, c.permute-m-4.ensures, c.round-v-4.ensures, c.permute-m-3.ensures, c.round-v-3.ensures, c.permute-m-2.ensures, c.round-v-2.ensures, c.permute-m.ensures, c.round-v.ensures, c.start_state-v.ensures) refl
