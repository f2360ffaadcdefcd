use Rattle.std.proofs.Common.{ap, ◌≡◌, ◌<◌, List, false, length, arith}
use Rattle.cb_fields.specs.declared.links.LinkKind.TheVariants.{Object, Binary}
use Rattle.collector.specs.declared.nodes.NodeMark.{NodeMark}
use Rattle.collector.specs.Marks.{Marks}
use Rattle.collector.specs.contracts.collection.Collection.{the_view}
use Rattle.collector.proofs.Views.{greyed_as, number_below}
use Rattle.collector.proofs.collection.Collection.shade_number.Goals as goal

pub shade-requires : goal.shade-requires
shade-requires c =
    let below : c.args.number < length c.args.self.now.hashes = number_below c.args.self.now.hashes c.args.node.hash c.args.number c.requires in
    let same : length c.self.inside.numbers.hashes ≡ length c.args.self.now.hashes = ap (λ (m : Marks). length m.hashes) c.self.view_is in
    omega (arith, below, same, c.self.invariant.objects)

pub shade-requires-in-Binary : goal.shade-requires-in-Binary
shade-requires-in-Binary c =
    let below : c.args.number < length c.args.self.now.hashes = number_below c.args.self.now.hashes c.args.node.hash c.args.number c.requires in
    let same : length c.self.inside.numbers.hashes ≡ length c.args.self.now.hashes = ap (λ (m : Marks). length m.hashes) c.self.view_is in
    omega (arith, below, same, c.self.invariant.binaries)

pub returns-in-Object : goal.returns-in-Object
returns-in-Object c =
    greyed_as (the_view c.self.inside) c.args.self.now _ c.args.node c.args.number Object c.self.view_is c.in-Object.is c.requires c.self.invariant.objects
    (ap (λ (ms : List NodeMark). let v : Marks = the_view c.self.inside in record v { objects = ms; ended = false }) c.shade.ensures.marks)

pub returns-in-Binary : goal.returns-in-Binary
returns-in-Binary c =
    greyed_as (the_view c.self.inside) c.args.self.now _ c.args.node c.args.number Binary c.self.view_is c.in-Binary.is c.requires c.self.invariant.binaries
    (ap (λ (ms : List NodeMark). let v : Marks = the_view c.self.inside in record v { binaries = ms; ended = false }) c.shade-in-Binary.ensures.marks)
