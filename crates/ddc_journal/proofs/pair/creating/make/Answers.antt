use Rattle.std.proofs.Common.{◌⊎◌, ◌∷◌, ◌++◌, [], sym, refl, arith, subst, inl, inr}
use Rattle.ddc_disk.specs.Disk.{IsImage, IsSure}
use Rattle.ddc_disk.specs.Images.{Images, devices_line}
use Rattle.ddc_disk.specs.Since.{then_runs, weaker}
use Rattle.ddc_journal.specs.Pairs.{IsPairOf, NoneMade}
use Rattle.ddc_journal.specs.inside.Closing.{AreItems}
use Rattle.ddc_journal.proofs.Making.{at_gate}
use Rattle.ddc_journal.proofs.Pairing.{at_both, closing_none, created_new, created_ready, if_both, making_none}
use Rattle.ddc_journal.proofs.pair.creating.make.Goals as goal

none_yet : AreItems 1 [] (0 ∷ [])
none_yet = record { split = refl; numbered = (omega arith, omega arith); sized = tt }

pub returns-in_err-close_second-clause-any_moment : goal.returns-in_err-close_second-clause-any_moment
returns-in_err-close_second-clause-any_moment g c = if_both g.D.Disk.meaning c.args.devices.now _ (λ a b is_a is_b none.
    let m = g.D.Disk.meaning in
    let old = c.args.devices.now in
    let mid = c.sync_both.new.devices in
    let new = c.close_second.new.devices in
    let P : Images → Type 0 = λ im. IsImage (devices_line m old) im ⊎ (NoneMade im.first im.second ⊎ IsPairOf c.args.version [] im.first im.second) in
    let sure = at_both m old (λ first second. IsSure (m mid.first) first × IsSure (m mid.second) second) a b is_a is_b c.in_ok-sync_both.ensures.sure in
    let first = weaker (devices_line m old) (devices_line m mid) _ P c.sync_both.ensures.looks.past (λ im is. inl is) in
    then_runs (devices_line m old) (devices_line m mid) (devices_line m new) P _ first (c.close_second.ensures.any_moment a b sure.0 sure.1) (λ im is. inr (inl (closing_none a b none im is))))

pub returns-in_err-remake_file-clause-any_moment : goal.returns-in_err-remake_file-clause-any_moment
returns-in_err-remake_file-clause-any_moment g c = if_both g.D.Disk.meaning c.args.devices.now _ (λ a b is_a is_b none.
    let m = g.D.Disk.meaning in
    let old = c.args.devices.now in
    let mid = c.sync_both.new.devices in
    let near = c.close_second.new.devices in
    let new = c.remake_file.new.devices in
    let P : Images → Type 0 = λ im. IsImage (devices_line m old) im ⊎ (NoneMade im.first im.second ⊎ IsPairOf c.args.version [] im.first im.second) in
    let sure = at_both m old (λ first second. IsSure (m mid.first) first × IsSure (m mid.second) second) a b is_a is_b c.in_ok-sync_both.ensures.sure in
    let first = weaker (devices_line m old) (devices_line m mid) _ P c.sync_both.ensures.looks.past (λ im is. inl is) in
    let second = then_runs (devices_line m old) (devices_line m mid) (devices_line m near) P _ first (c.close_second.ensures.any_moment a b sure.0 sure.1) (λ im is. inr (inl (closing_none a b none im is))) in
    let closed = c.in_ok-close_second.ensures.closed b sure.1 in
    let file = closed.front ++ closed.gate ∷ closed.rest in
    let unmade = at_gate closed.front closed.rest closed.gate closed.size closed.closed in
    let kept : IsSure (m near.first) a = subst (λ d. IsSure (m d) a) (sym c.close_second.ensures.first) sure.0 in
    then_runs (devices_line m old) (devices_line m near) (devices_line m new) P _ second (c.remake_file.ensures.any_moment a file [] kept closed.sure none_yet) (λ im is. inr (making_none a b none c.args.version file unmade im is)))

pub returns-clause-any_moment : goal.returns-clause-any_moment
returns-clause-any_moment g c = if_both g.D.Disk.meaning c.args.devices.now _ (λ a b is_a is_b none.
    let m = g.D.Disk.meaning in
    let old = c.args.devices.now in
    let mid = c.sync_both.new.devices in
    let near = c.close_second.new.devices in
    let new = c.remake_file.new.devices in
    let P : Images → Type 0 = λ im. IsImage (devices_line m old) im ⊎ (NoneMade im.first im.second ⊎ IsPairOf c.args.version [] im.first im.second) in
    let sure = at_both m old (λ first second. IsSure (m mid.first) first × IsSure (m mid.second) second) a b is_a is_b c.in_ok-sync_both.ensures.sure in
    let first = weaker (devices_line m old) (devices_line m mid) _ P c.sync_both.ensures.looks.past (λ im is. inl is) in
    let second = then_runs (devices_line m old) (devices_line m mid) (devices_line m near) P _ first (c.close_second.ensures.any_moment a b sure.0 sure.1) (λ im is. inr (inl (closing_none a b none im is))) in
    let closed = c.in_ok-close_second.ensures.closed b sure.1 in
    let file = closed.front ++ closed.gate ∷ closed.rest in
    let unmade = at_gate closed.front closed.rest closed.gate closed.size closed.closed in
    let kept : IsSure (m near.first) a = subst (λ d. IsSure (m d) a) (sym c.close_second.ensures.first) sure.0 in
    then_runs (devices_line m old) (devices_line m near) (devices_line m new) P _ second (c.remake_file.ensures.any_moment a file [] kept closed.sure none_yet) (λ im is. inr (making_none a b none c.args.version file unmade im is)))

pub returns-clause-ready : goal.returns-clause-ready
returns-clause-ready g c = if_both g.D.Disk.meaning c.args.devices.now _ (λ a b is_a is_b.
    let m = g.D.Disk.meaning in
    let old = c.args.devices.now in
    let mid = c.sync_both.new.devices in
    let near = c.close_second.new.devices in
    let new = c.remake_file.new.devices in
    let sure = at_both m old (λ first second. IsSure (m mid.first) first × IsSure (m mid.second) second) a b is_a is_b c.in_ok-sync_both.ensures.sure in
    let closed = c.in_ok-close_second.ensures.closed b sure.1 in
    let file = closed.front ++ closed.gate ∷ closed.rest in
    let unmade = at_gate closed.front closed.rest closed.gate closed.size closed.closed in
    let kept : IsSure (m near.first) a = subst (λ d. IsSure (m d) a) (sym c.close_second.ensures.first) sure.0 in
    let still : IsSure (m new.second) file = subst (λ d. IsSure (m d) file) (sym c.remake_file.ensures.other) closed.sure in
    created_ready m new c.args.version file unmade still (c.in_ok-remake_file.ensures.made a [] kept none_yet))

pub returns-clause-fresh : goal.returns-clause-fresh
returns-clause-fresh g c = if_both g.D.Disk.meaning c.args.devices.now _ (λ a b is_a is_b.
    let m = g.D.Disk.meaning in
    let old = c.args.devices.now in
    let mid = c.sync_both.new.devices in
    let near = c.close_second.new.devices in
    let new = c.remake_file.new.devices in
    let sure = at_both m old (λ first second. IsSure (m mid.first) first × IsSure (m mid.second) second) a b is_a is_b c.in_ok-sync_both.ensures.sure in
    let closed = c.in_ok-close_second.ensures.closed b sure.1 in
    let file = closed.front ++ closed.gate ∷ closed.rest in
    let unmade = at_gate closed.front closed.rest closed.gate closed.size closed.closed in
    let kept : IsSure (m near.first) a = subst (λ d. IsSure (m d) a) (sym c.close_second.ensures.first) sure.0 in
    let still : IsSure (m new.second) file = subst (λ d. IsSure (m d) file) (sym c.remake_file.ensures.other) closed.sure in
    created_new m new c.args.version file unmade still (c.in_ok-remake_file.ensures.made a [] kept none_yet))
