use Rattle.std.proofs.Common.{◌≡◌, List, inr}
use Rattle.std.specs.Prelude.{map}
use Rattle.ddc_model.specs.declared.entry.Entry.{Entry}
use Rattle.ddc_model.specs.declared.entry.Step.TheVariants.{Change}
use Rattle.ddc_model.specs.State.{empty_state}
use Rattle.ddc_journal.specs.Faults.{IsKnown}
use Rattle.ddc_journal.specs.Pairs.{pair_kind, IsOpenPair}
use Rattle.ddc_opening.specs.Opening.{version, after_all, HoldEntries, OpenFaultOf}
use Rattle.ddc_opening.proofs.Both.{at_both, if_both}
use Rattle.ddc_opening.proofs.Loading.{fault_told, holds_told}
use Rattle.ddc_opening.proofs.load.load_store.Goals as goal

pub returns-in-Ok-replay-clause-held : goal.returns-in-Ok-replay-clause-held
returns-in-Ok-replay-clause-held g c =
    let m = g.D.Disk.meaning in
    let old = c.args.devices.now in
    let pair = c.in-Ok.found.0 in
    let bodies = c.in-Ok.found.1 in
    let replay = c.in-Ok-replay.field-0 in
    let limits = c.args.limits in
    if_both m old (λ a b. (all : List Entry) × HoldEntries limits a b all × (replay.steps.items ≡ map Change all) × (replay.index.state ≡ after_all (empty_state limits) all)) (λ a b is_a is_b.
    let is = at_both m old (λ a b. IsOpenPair a b pair bodies × IsKnown (pair_kind version pair.second) pair.version) a b is_a is_b c.in-Ok.ensures.loads in
    holds_told a b pair bodies is limits replay.index.state replay.steps.items c.in-Ok-replay.ensures.replayed)

pub returns-in-Err-replay-clause-fault : goal.returns-in-Err-replay-clause-fault
returns-in-Err-replay-clause-fault g c =
    let m = g.D.Disk.meaning in
    let old = c.args.devices.now in
    let pair = c.in-Ok.found.0 in
    let bodies = c.in-Ok.found.1 in
    let fault = c.in-Err-replay.fault in
    let limits = c.args.limits in
    inr (if_both m old (λ a b. OpenFaultOf limits a b fault) (λ a b is_a is_b.
    let is = at_both m old (λ a b. IsOpenPair a b pair bodies × IsKnown (pair_kind version pair.second) pair.version) a b is_a is_b c.in-Ok.ensures.loads in
    fault_told a b pair bodies is (g.met.D.Disk.small old.first a is_a) (g.met.D.Disk.small old.second b is_b) limits c.active.result c.active.ensures fault c.in-Err-replay.ensures.fault))
