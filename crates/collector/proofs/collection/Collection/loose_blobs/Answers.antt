use Rattle.std.proofs.Common.{ap, subst, sym, ◌≡◌, ◌≤◌, ◌+◌, List, None, Some, not, length, ℕ, arith}
use Rattle.ddc_names.specs.declared.hash.IoHash.{IoHash}
use Rattle.cb_fields.specs.declared.links.LinkKind.TheVariants.{Binary}
use Rattle.ddc_state.specs.NextKeys.{NextBlob}
use Rattle.collector.specs.Marks.{is_safe}
use Rattle.collector.specs.inside.Sweeps.{IsNextBlob, AreSweptTo, with_loose}
use Rattle.collector.proofs.Lists.{node_of}
use Rattle.collector.proofs.Sweeps.{none_swept, swept_more, one_longer, full_list, whole_list}
use Rattle.collector.proofs.collection.Collection.loose_blobs.Goals as goal

pub loop-init : goal.loop-init
loop-init c = record {
  swept = subst (AreSweptTo c.args.index.now.state c.args.self.now None) (sym c.new-hashes.ensures) (none_swept c.args.index.now.state c.args.self.now);
  at_most = omega (arith, ap (λ (xs : List IoHash). length xs) c.new-hashes.ensures);
  space = c.space-space.ensures;
}

pub returns-then-len-limit : goal.returns-then-len-limit
returns-then-len-limit c =
    let short : length c.loop.hashes ≤ c.args.limit = c.loop.invariant.at_most in
    let full : length c.loop.hashes ≡ c.args.limit = omega (arith, c.len.ensures) in
    full_list c.args.index.now.state c.args.self.now c.loop.last c.loop.hashes c.args.limit c.loop.invariant.swept full

pub returns-in_default : goal.returns-in_default
returns-in_default c =
    whole_list c.args.index.now.state c.args.self.now c.loop.last c.loop.hashes c.args.limit c.loop.invariant.swept c.loop.invariant.at_most
    (subst (λ (sp : List ℕ). NextBlob c.args.index.now.state.blobs sp c.loop.last None) c.loop.invariant.space c.in_default.ensures)

pub loop-preserved : goal.loop-preserved
loop-preserved c =
    let s = c.args.index.now.state in
    let self = c.args.self.now in
    let next : IsNextBlob s.blobs self.space c.loop.last c.in-Some.hash = subst (λ (sp : List ℕ). IsNextBlob s.blobs sp c.loop.last c.in-Some.hash) c.loop.invariant.space c.in-Some.ensures in
    let pushed : c.push_loose.new.hashes ≡ with_loose (not (is_safe self (node_of Binary c.in-Some.hash))) c.loop.hashes c.in-Some.hash = c.in_ok-push_loose.ensures in
    let longer : length (with_loose (not (is_safe self (node_of Binary c.in-Some.hash))) c.loop.hashes c.in-Some.hash) ≤ length c.loop.hashes + 1 = one_longer (not (is_safe self (node_of Binary c.in-Some.hash))) c.loop.hashes c.in-Some.hash in
    let long : length c.push_loose.new.hashes ≡ length (with_loose (not (is_safe self (node_of Binary c.in-Some.hash))) c.loop.hashes c.in-Some.hash) = ap (λ (xs : List IoHash). length xs) pushed in
    record {
      swept = subst (AreSweptTo s self (Some c.in-Some.hash)) (sym pushed) (swept_more s self c.loop.last c.loop.hashes c.in-Some.hash next c.loop.invariant.swept);
      at_most = omega (arith, c.len.ensures);
      space = c.loop.invariant.space;
    }
