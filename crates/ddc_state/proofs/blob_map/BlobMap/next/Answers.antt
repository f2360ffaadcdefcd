use Rattle.std.proofs.Common.{subst, None}
use Rattle.ddc_names.specs.Orders.{io_hash_cmp, io_hash_total, io_hash_exact}
use Rattle.ddc_state.specs.NextKeys.{NextBlob}
use Rattle.ddc_state.proofs.NextKeys.{next_read, next_there, next_nowhere}
use Rattle.ddc_state.proofs.blob_map.BlobMap.next.Goals as goal

pub returns-in-Some : goal.returns-in-Some
returns-in-Some g c =
    subst (λ m. NextBlob m c.args.space.now c.args.after c.first_from.result) c.self.view_is
    (next_there c.self.inside.spaces.entries c.args.space.now c.args.after c.in-Some.blobs.now c.in-Some.ensures.value c.first_from.result
    (next_read io_hash_cmp io_hash_total io_hash_exact c.in-Some.blobs.now.entries c.args.after c.start_after.result c.first_from.result c.first_from.ensures.ordered c.start_after.ensures c.first_from.ensures.first))

pub returns-in-None : goal.returns-in-None
returns-in-None g c = subst (λ m. NextBlob m c.args.space.now c.args.after None) c.self.view_is (next_nowhere c.self.inside.spaces.entries c.args.space.now c.args.after c.in-None.ensures.value)
