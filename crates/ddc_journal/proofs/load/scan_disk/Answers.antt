use Rattle.std.proofs.Common.{◌≡◌, ◌+◌, ◌≤◌, ◌∙◌, List, ℕ, length, take, drop, ap, subst, arith, inl, inr}
use Rattle.ddc_disk.specs.Told.{at_told}
use Rattle.ddc_journal.specs.Journal.{version_in, generation_in}
use Rattle.ddc_journal.specs.inside.Scanning.{EndsAt, HeadFault, IsOpen, ItemFault}
use Rattle.ddc_journal.proofs.Making.{if_told}
use Rattle.ddc_journal.proofs.Fronts.{head_fault, head_open, front_version, front_generation}
use Rattle.ddc_journal.proofs.Windows.{front_is, only_both, only_call}
use Rattle.ddc_journal.proofs.Reading.{is_scan, item_fault}
use Rattle.ddc_journal.proofs.load.scan_disk.Goals as goal

pub returns-in-Err-open_items-clause-fault : goal.returns-in-Err-open_items-clause-fault
returns-in-Err-open_items-clause-fault g c = inr (if_told (g.D.Disk.meaning c.args.disk.now).held _ (λ file is.
    let m = g.D.Disk.meaning c.len.new.self in
    let size = c.in-Ok.size in
    let n = c.min.result in
    let size_is = at_told (g.D.Disk.meaning c.args.disk.now).held (λ f. size ≡ length f) file is c.in-Ok.ensures.len in
    let read = at_told m.held (λ f. 0 + n ≤ length f → c.in-Ok-read_piece.front.items ≡ take n (drop 0 f)) file (c.len.ensures.held ∙ is) c.in-Ok-read_piece.ensures.bytes (omega arith) in
    let front = c.deref.ensures.value ∙ front_is c.in-Ok-read_piece.front.items file n (omega arith) read in
    head_fault file c.args.kind c.in-Err-open_items.fault (subst (λ (l : List ℕ). HeadFault c.args.kind l c.in-Err-open_items.fault) front c.in-Err-open_items.ensures.fault)))

pub returns-in-Ok-read_items-clause-loads : goal.returns-in-Ok-read_items-clause-loads
returns-in-Ok-read_items-clause-loads g c = if_told (g.D.Disk.meaning c.args.disk.now).held _ (λ file is.
    let m = g.D.Disk.meaning c.len.new.self in
    let mid = g.D.Disk.meaning c.read_piece.new.disk in
    let size = c.in-Ok.size in
    let n = c.min.result in
    let head = c.in-Ok-open_items.head in
    let walk = c.in-Ok-read_items.walk in
    let size_is = at_told (g.D.Disk.meaning c.args.disk.now).held (λ f. size ≡ length f) file is c.in-Ok.ensures.len in
    let read = at_told m.held (λ f. 0 + n ≤ length f → c.in-Ok-read_piece.front.items ≡ take n (drop 0 f)) file (c.len.ensures.held ∙ is) c.in-Ok-read_piece.ensures.bytes (omega arith) in
    let front = c.deref.ensures.value ∙ front_is c.in-Ok-read_piece.front.items file n (omega arith) read in
    let is_open = head_open file c.args.kind head.items.now (subst (λ (l : List ℕ). IsOpen c.args.kind l head.items.now) front c.in-Ok-open_items.ensures.items) in
    let ended = at_told mid.held (λ f. size ≡ length f → EndsAt walk.bodies walk.at (drop 21 f)) file (c.read_piece.ensures.only.held ∙ c.len.ensures.held ∙ is) c.in-Ok-read_items.ensures.ends size_is in
    is_scan c.args.kind file (drop 21 file) is_open head.version head.generation walk.bodies walk.at
    (c.in-Ok-open_items.ensures.version ∙ ap version_in front ∙ front_version file) (c.in-Ok-open_items.ensures.generation ∙ ap generation_in front ∙ front_generation file) ended)

pub returns-clause-fault : goal.returns-clause-fault
returns-clause-fault g c = elim c.in-Err-read_items.ensures.fault [
  | inl failed ↦ inl (failed, omega (arith, c.in-Err-read_items.ensures.cause.failed failed))
  | inr told ↦ inr (if_told (g.D.Disk.meaning c.args.disk.now).held _ (λ file is.
      let m = g.D.Disk.meaning c.len.new.self in
      let mid = g.D.Disk.meaning c.read_piece.new.disk in
      let size = c.in-Ok.size in
      let n = c.min.result in
      let head = c.in-Ok-open_items.head in
      let fault = c.in-Err-read_items.fault in
      let size_is = at_told (g.D.Disk.meaning c.args.disk.now).held (λ f. size ≡ length f) file is c.in-Ok.ensures.len in
      let read = at_told m.held (λ f. 0 + n ≤ length f → c.in-Ok-read_piece.front.items ≡ take n (drop 0 f)) file (c.len.ensures.held ∙ is) c.in-Ok-read_piece.ensures.bytes (omega arith) in
      let front = c.deref.ensures.value ∙ front_is c.in-Ok-read_piece.front.items file n (omega arith) read in
      let is_open = head_open file c.args.kind head.items.now (subst (λ (l : List ℕ). IsOpen c.args.kind l head.items.now) front c.in-Ok-open_items.ensures.items) in
      let items = at_told mid.held (λ f. size ≡ length f → ItemFault c.args.kind.number (drop 21 f) fault) file (c.read_piece.ensures.only.held ∙ c.len.ensures.held ∙ is) told size_is in
      item_fault c.args.kind file (drop 21 file) is_open fault items))
]

pub returns-in-Ok-read_items-clause-past : goal.returns-in-Ok-read_items-clause-past
returns-in-Ok-read_items-clause-past g c =
    let m = g.D.Disk.meaning in
    let first = only_call (m c.args.disk.now) (m c.len.new.self) (g.met.D.Disk.rests c.args.disk.now) c.len.ensures.held c.len.ensures.calm c.len.ensures.time in
    (only_both (m c.args.disk.now) (m c.len.new.self) (m c.read_items.new.disk) first (only_both (m c.len.new.self) (m c.read_piece.new.disk) (m c.read_items.new.disk) c.read_piece.ensures.only c.read_items.ensures.only)).past

pub returns-clause-past : goal.returns-clause-past
returns-clause-past g c =
    let m = g.D.Disk.meaning in
    let first = only_call (m c.args.disk.now) (m c.len.new.self) (g.met.D.Disk.rests c.args.disk.now) c.len.ensures.held c.len.ensures.calm c.len.ensures.time in
    (only_both (m c.args.disk.now) (m c.len.new.self) (m c.read_items.new.disk) first (only_both (m c.len.new.self) (m c.read_piece.new.disk) (m c.read_items.new.disk) c.read_piece.ensures.only c.read_items.ensures.only)).past
