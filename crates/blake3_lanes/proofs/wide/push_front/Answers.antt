use Rattle.std.proofs.Common.{◌≡◌, ℕ, List, ◌+◌, ◌++◌, ◌∷◌, [], take, slice_index_or, refl, arith}
use Rattle.std.proofs.lemmas.List.{append-nil, append_assoc, take_more}
use Rattle.blake3_hash.specs.Spine.{joined}
use Rattle.blake3_lanes.proofs.wide.push_front.Goals as goal

pub front-init : goal.front-init
front-init c = record {
  count = omega arith;
  pushed = λ xs h. rw (append-nil xs) h;
}

pub front-preserved : goal.front-preserved
unfolding joined
front-preserved c = record {
  count = omega (arith, c.push_subtree_by.ensures.count, c.front.invariant.count);
  pushed = λ xs h.
      let k : ℕ = c.front.k in
      let values : List (List ℕ) = c.args.values.now in
      let more : take (k + 1) values ≡ take k values ++ slice_index_or values k [] ∷ [] = take_more values k [] (omega arith) in
      rw (more, ← append_assoc) (c.push_subtree_by.ensures.pushed (xs ++ take k values) (slice_index_or values k [] ∷ []) (c.front.invariant.pushed xs h) refl refl);
}

pub returns : goal.returns
returns c =
    let done : c.front.k ≡ c.args.whole = omega arith in
    record {
      count = omega (arith, c.front.invariant.count);
      pushed = λ xs h. rw done at (c.front.invariant.pushed xs h);
    }
