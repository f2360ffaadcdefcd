use Rattle.std.proofs.Common.{◌≡◌, ◌+◌, ◌≤◌, ◌∷◌, [], List, length, length-append, sym, ◌∙◌, ap, subst, is_some, arith}
use Rattle.std.specs.FinMap as map
use Rattle.std.specs.BTreeSet.{contains}
use Rattle.ddc_names.specs.Orders.{io_hash_cmp}
use Rattle.ddc_names.specs.declared.hash.IoHash.{IoHash}
use Rattle.ddc_model.specs.State.{blob_at, blob_name}
use Rattle.ddc_model.specs.Closure.{links_in}
use Rattle.needs_resolver.specs.Walking.{Met, IsMet, met_of, unmet}
use Rattle.needs_resolver.proofs.Meeting.{no_links, has_links, is_there, meets_absent, meets_object, unmet_less}
use Rattle.needs_resolver.proofs.closure_walk.ClosureWalk.meet.Goals as goal

pub returns-in_ok-insert-in-None-clause-met : goal.returns-in_ok-insert-in-None-clause-met
returns-in_ok-insert-in-None-clause-met c =
    meets_absent (links_in c.args.index.now.state c.args.space.now) c.args.node (met_of c.args.self.now) (contains io_hash_cmp c.insert.new.self) (sym c.if-contains.ensures)
    (no_links (blob_at c.args.index.now.state c.args.space.now c.args.node.hash) c.in-None.ensures.row) c.in_ok-insert-in-None.ensures.updates.0

pub returns-in_ok-push-in-Object-clause-met : goal.returns-in_ok-push-in-Object-clause-met
returns-in_ok-push-in-Object-clause-met c =
    let base = links_in c.args.index.now.state c.args.space.now in
    let met = meets_object base c.args.node (met_of c.args.self.now) (contains io_hash_cmp c.insert-in-Object.new.self) (sym c.if-contains.ensures)
    (has_links (blob_at c.args.index.now.state c.args.space.now c.args.node.hash) _ c.in-Some.ensures.row) c.in-Object.is c.in_ok-insert-in-Object.ensures.updates.0 in
    subst (λ (work : List IoHash). IsMet base c.args.node (met_of c.args.self.now) (let new : Met = record { seen = contains io_hash_cmp c.insert-in-Object.new.self; absent = contains io_hash_cmp c.args.self.now.absent; work = work } in new)) (sym c.in_ok-push-in-Object.ensures.items) met

pub returns-in_ok-push-in-Object-clause-less : goal.returns-in_ok-push-in-Object-clause-less
returns-in_ok-push-in-Object-clause-less c =
    let blobs = c.args.index.now.state.blobs in
    let fewer : unmet c.args.space.now (contains io_hash_cmp c.insert-in-Object.new.self) (map.entries blobs) + 1 ≤ unmet c.args.space.now (contains io_hash_cmp c.args.self.now.seen) (map.entries blobs) =
    unmet_less (map.entries blobs) c.args.space.now c.args.node.hash (contains io_hash_cmp c.args.self.now.seen) (contains io_hash_cmp c.insert-in-Object.new.self) c.in_ok-insert-in-Object.ensures.updates.0 (sym c.if-contains.ensures)
    (ap is_some (sym (map.get-entries blobs (blob_name c.args.space.now c.args.node.hash))) ∙ is_there (blob_at c.args.index.now.state c.args.space.now c.args.node.hash) _ c.in-Some.ensures.row) in
    let longer : length c.push.new.self.items ≡ length c.args.self.now.work.items + 1 = ap (λ (xs : List IoHash). length xs) c.in_ok-push-in-Object.ensures.items ∙ length-append c.args.self.now.work.items (c.args.node.hash ∷ []) in
    omega arith
