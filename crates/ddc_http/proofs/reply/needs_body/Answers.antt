use Rattle.std.proofs.Common.{◌++◌, ◌==◌, codes, take, slice_index_or, sym, ap, ◌∙◌, append_assoc, arith}
use Rattle.ddc_protocol.specs.Replies.{hash_list}
use Rattle.ddc_http.specs.inside.Entries.{hash_entry}
use Rattle.ddc_http.proofs.Lists.{hash_list-take}
use Rattle.ddc_http.proofs.reply.needs_body.Goals as goal

pub loop-at-preserved : goal.loop-at-preserved
loop-at-preserved c =
    let hashes = c.args.hashes.now in
    let at = c.loop-at.at in
    let front = codes "{\"needs\":[" in
    let entry = hash_entry (at == 0) (slice_index_or hashes at _) in
    record {
      written = c.in_ok-push_hash.ensures ∙ ap (λ l. l ++ entry) c.loop-at.invariant.written ∙ append_assoc front (hash_list (take at hashes)) entry
          ∙ ap (λ l. front ++ l) (sym (hash_list-take hashes at _ (omega arith)));
    }
