use Rattle.std.proofs.Common.{◌≡◌, false, sym, ap}
use Rattle.std.specs.BTreeMap.{is_at}
use Rattle.ddc_names.specs.declared.hash.IoHash.{IoHash}
use Rattle.ddc_names.specs.Orders.{io_hash_cmp}
use Rattle.ddc_model.specs.Closure.{links_in, with_links, has_hash}
use Rattle.needs_resolver.specs.Walking.{met_of}
use Rattle.needs_resolver.proofs.Reading.{no_keys, one_key, fresh_known, fresh_walk, root_covered, all_read, from_root, reads_at_most}
use Rattle.needs_resolver.proofs.missing.needs_with.Goals as goal

pub returns-in_err-read_all-clause-each_blob_is_read_once_at_most : goal.returns-in_err-read_all-clause-each_blob_is_read_once_at_most
returns-in_err-read_all-clause-each_blob_is_read_once_at_most c = reads_at_most c.args.index.now.state c.args.space.now (met_of c.in_ok-walk.walk) (met_of c.meet_all.new.self) _ _ c.in_ok-walk.ensures.work c.in_ok-meet_all.ensures.less c.in_err-read_all.ensures.counted

pub returns-in_err-needs-clause-each_blob_is_read_once_at_most : goal.returns-in_err-needs-clause-each_blob_is_read_once_at_most
returns-in_err-needs-clause-each_blob_is_read_once_at_most c = reads_at_most c.args.index.now.state c.args.space.now (met_of c.in_ok-walk.walk) (met_of c.meet_all.new.self) _ _ c.in_ok-walk.ensures.work c.in_ok-meet_all.ensures.less c.in_ok-read_all.ensures.counted

pub returns-clause-each_blob_is_read_once_at_most : goal.returns-clause-each_blob_is_read_once_at_most
returns-clause-each_blob_is_read_once_at_most c = reads_at_most c.args.index.now.state c.args.space.now (met_of c.in_ok-walk.walk) (met_of c.meet_all.new.self) _ _ c.in_ok-walk.ensures.work c.in_ok-meet_all.ensures.less c.in_ok-read_all.ensures.counted

pub returns-clause-needs : goal.returns-clause-needs
returns-clause-needs c =
    let base = links_in c.args.index.now.state c.args.space.now in
    let root = c.args.root in
    let fresh = c.args.fresh.now in
    let old = met_of c.in_ok-walk.walk in
    let begun = met_of c.meet_all.new.self in
    let only : (h : IoHash) → old.seen h ≡ is_at (io_hash_cmp root) h = λ h. one_key _ root h c.in_ok-walk.ensures.seen in
    let none : (h : IoHash) → old.absent h ≡ false = λ h. no_keys _ h c.in_ok-walk.ensures.absent in
    let met = c.in_ok-meet_all.ensures.met in
    all_read base (with_links base root fresh) (is_at (io_hash_cmp root)) root begun (met_of c.read_all.new.self) c.in_ok-needs.needs
    (met.known (with_links base root fresh) (fresh_known base root fresh old only none c.in_ok-walk.ensures.work))
    (fresh_walk base root fresh old only none c.in_ok-walk.ensures.work begun met)
    (met.still _ (root_covered base root fresh old only none c.in_ok-walk.ensures.work)) (from_root (with_links base root fresh) root)
    c.in_ok-read_all.ensures.read c.in_ok-read_all.ensures.done
    (λ h. ap (λ ks. has_hash ks h) (sym c.in_ok-needs.ensures.same)) c.in_ok-needs.ensures.ordered
