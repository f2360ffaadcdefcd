use Rattle.blake3_hash.proofs.Held.{leaves-append}
use Rattle.blake3_lanes.proofs.wide.four_chunks.Goals as goal

pub returns : goal.returns
returns c k n h = rw c.copy_from_slice.ensures.after (leaves-append k c.args.bytes.now _ n h)
