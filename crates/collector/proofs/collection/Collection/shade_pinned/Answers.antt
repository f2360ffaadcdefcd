use Rattle.std.proofs.Common.{ap, subst, ◌≡◌, [], List, Option, ℕ, length, refl, arith}
use Rattle.ddc_names.specs.declared.hash.IoHash.{IoHash}
use Rattle.ddc_model.specs.State.{State}
use Rattle.collector.specs.Roots.{IsRootNode}
use Rattle.collector.specs.inside.Steps.{GreyMore}
use Rattle.collector.specs.inside.Starts.{PinnedHash}
use Rattle.collector.proofs.Starting.{grey_none, pinned_more, pinned_all}
use Rattle.collector.proofs.collection.Collection.shade_pinned.Goals as goal

pinned_there : (s : State) (space other : List ℕ) (hour another : ℕ) (hash : IoHash) (found : Option IoHash) → space ≡ other → hour ≡ another → PinnedHash s space hour hash found → PinnedHash s other another hash found
pinned_there s space other hour another hash found e f p = subst (λ (h : ℕ). PinnedHash s other h hash found) f (subst (λ (sp : List ℕ). PinnedHash s sp hour hash found) e p)

pub loop-number-init : goal.loop-number-init
loop-number-init c = record {
  roots = λ leased. grey_none (IsRootNode c.args.index.now.state c.args.self.now.space leased c.args.self.now.hour) c.args.self.now c.args.self.now refl;
  all = λ h n blob has lt. absurd (omega (arith, lt));
  space = c.space-space.ensures;
  hour = c.hour-hour.ensures;
}

pub hash-hash-requires : goal.hash-hash-requires
hash-hash-requires c =
    let m : GreyMore (IsRootNode c.args.index.now.state c.args.self.now.space [] c.args.self.now.hour) c.args.self.now c.loop-number.self = c.loop-number.invariant.roots [] in
    let same : length c.loop-number.self.hashes ≡ length c.args.self.now.hashes = ap (λ (xs : List IoHash). length xs) m.hashes in
    omega (arith, c.count-number-end.ensures, c.loop-number-test.true)

pub loop-number-preserved : goal.loop-number-preserved
loop-number-preserved c =
    let s = c.args.index.now.state in
    let old = c.args.self.now in
    let inv = c.loop-number.invariant in
    let pinned : PinnedHash s old.space old.hour c.hash-hash.result c.pinned_hash.result = pinned_there s _ old.space _ old.hour c.hash-hash.result c.pinned_hash.result inv.space inv.hour c.pinned_hash.ensures in
    let both = pinned_more s old c.loop-number.self c.shade_object.new.self c.loop-number.number c.hash-hash.result c.pinned_hash.result inv.roots inv.all c.hash-hash.ensures pinned c.shade_object.ensures in
    record { roots = both.0; all = both.1; space = inv.space; hour = inv.hour }

pub returns-clause-roots : goal.returns-clause-roots
returns-clause-roots c = c.loop-number.invariant.roots

pub returns-clause-all : goal.returns-clause-all
returns-clause-all c = pinned_all c.args.index.now.state c.args.self.now c.loop-number.self c.loop-number.number (omega (arith, c.count-number-end.ensures, c.loop-number-test.false)) c.loop-number.invariant.all
