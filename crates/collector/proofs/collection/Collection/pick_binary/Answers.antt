use Rattle.std.proofs.Common.{ap, subst, sym, List, Option, ◌≡◌, false, true}
use Rattle.cb_fields.specs.declared.links.Link.{Link}
use Rattle.cb_fields.specs.declared.links.LinkKind.TheVariants.{Binary}
use Rattle.collector.specs.declared.nodes.NodeMark.{NodeMark}
use Rattle.collector.specs.Marks.{Marks}
use Rattle.collector.specs.contracts.collection.Collection.{the_view}
use Rattle.collector.specs.inside.Tables.{grey_at}
use Rattle.collector.specs.inside.Steps.{PicksOf}
use Rattle.collector.proofs.Views.{picked_as, none_picked}
use Rattle.collector.proofs.collection.Collection.pick_binary.Goals as goal

pub returns : goal.returns
returns c =
    picked_as (the_view c.self.inside) c.args.self.now _ c.hash-hash.result c.in_ok-number.number Binary c.self.view_is c.hash-hash.ensures c.in_ok-number.ensures.number c.in_ok-number.ensures.was_grey
    (λ e. let t : grey_at c.self.inside.binaries.marks c.in_ok-number.number ≡ true = c.in_ok-number.ensures.was_grey in
    let all = c.self.invariant.ended e c.in_ok-number.number in let f : grey_at c.self.inside.binaries.marks c.in_ok-number.number ≡ false = all.binary in cc)
    (ap (λ (ms : List NodeMark). let v : Marks = the_view c.self.inside in record v { binaries = ms; ended = false }) c.in_ok-number.ensures.marks)

pub returns-in_err-number : goal.returns-in_err-number
returns-in_err-number c =
    subst (λ (found : Option Link). PicksOf Binary c.args.self.now found (let v : Marks = the_view c.self.inside in record v { binaries = c.take.new.self.marks })) (sym c.from_residual.ensures)
    (none_picked (the_view c.self.inside) c.args.self.now _ Binary c.self.view_is c.in_err-number.ensures.none_grey
    (ap (λ (ms : List NodeMark). let v : Marks = the_view c.self.inside in record v { binaries = ms }) c.in_err-number.ensures.none))
