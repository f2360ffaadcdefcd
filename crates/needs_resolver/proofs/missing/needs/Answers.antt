use Rattle.std.proofs.Common.{sym, ap}
use Rattle.ddc_model.specs.Closure.{links_in, has_hash}
use Rattle.needs_resolver.specs.Walking.{IsIdle, or_root, met_of}
use Rattle.needs_resolver.proofs.Reading.{no_keys, nothing_met, begins_known, begins_walk, all_read, from_new, reads_at_most}
use Rattle.needs_resolver.proofs.missing.needs.Goals as goal

pub returns-in_err-read_all-clause-each_blob_is_read_once_at_most : goal.returns-in_err-read_all-clause-each_blob_is_read_once_at_most
returns-in_err-read_all-clause-each_blob_is_read_once_at_most c = reads_at_most c.args.index.now.state c.args.space.now (met_of c.new-walk.result) (met_of c.meet.new.self) _ _ c.new-walk.ensures.work c.in_ok-meet.ensures.less c.in_err-read_all.ensures.counted

pub returns-in_err-needs-clause-each_blob_is_read_once_at_most : goal.returns-in_err-needs-clause-each_blob_is_read_once_at_most
returns-in_err-needs-clause-each_blob_is_read_once_at_most c = reads_at_most c.args.index.now.state c.args.space.now (met_of c.new-walk.result) (met_of c.meet.new.self) _ _ c.new-walk.ensures.work c.in_ok-meet.ensures.less c.in_ok-read_all.ensures.counted

pub returns-clause-each_blob_is_read_once_at_most : goal.returns-clause-each_blob_is_read_once_at_most
returns-clause-each_blob_is_read_once_at_most c = reads_at_most c.args.index.now.state c.args.space.now (met_of c.new-walk.result) (met_of c.meet.new.self) _ _ c.new-walk.ensures.work c.in_ok-meet.ensures.less c.in_ok-read_all.ensures.counted

pub returns-clause-needs : goal.returns-clause-needs
returns-clause-needs c =
    let base = links_in c.args.index.now.state c.args.space.now in
    let root = c.args.root in
    let old = met_of c.new-walk.result in
    let begun = met_of c.meet.new.self in
    let idle : IsIdle base old = nothing_met base old (λ h. no_keys _ h c.new-walk.ensures.seen) (λ h. no_keys _ h c.new-walk.ensures.absent) c.new-walk.ensures.work in
    let met = c.in_ok-meet.ensures.met in
    all_read base base (or_root old.seen root) root begun (met_of c.read_all.new.self) c.in_ok-needs.needs
    (begins_known base root old begun idle met) (begins_walk base root old begun idle met) met.covered (from_new base root old idle)
    c.in_ok-read_all.ensures.read c.in_ok-read_all.ensures.done
    (λ h. ap (λ ks. has_hash ks h) (sym c.in_ok-needs.ensures.same)) c.in_ok-needs.ensures.ordered
