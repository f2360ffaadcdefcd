use Rattle.std.proofs.Common.{◌≡◌, ◌++◌, codes, take}
use Rattle.ddc_protocol.specs.Replies.{hash_list}
use Rattle.ddc_http.proofs.reply.needs_body.Given as goal

abbrev pub invariant-loop-at : goal.invariant-loop-at
invariant-loop-at l = record {
  written : l.body.items ≡ codes "{\"needs\":[" ++ hash_list (take l.at l.hashes);
}
