use Rattle.std.proofs.Common.{rules, ◌≡◌, [], refl, arith}
use Rattle.std.proofs.lemmas.Grind.{common_steps}
use Rattle.cb_fields.proofs.Carry.{plain_steps, link_steps, container_steps, end_steps, complete_comes, broken_comes}
use Rattle.cb_fields.proofs.field_walk.FieldWalk.advance.Goals as goal

pub returns-in-None : goal.returns-in-None
returns-in-None c =
    let none : c.args.self.now.outer.items ≡ [] = grind (arith, common_steps) in
    complete_comes c.args.bytes.now c.args.self.now c.args.self.now c.requires c.in-End.ensures.value none

pub returns-in-Some : goal.returns-in-Some
returns-in-Some c =
    end_steps c.args.bytes.now c.args.self.now _ c.requires c.in-Some.open c.in-End.ensures.value c.in-End.ensures.moves refl refl c.in-Some.ensures.items

pub returns-in-Bad : goal.returns-in-Bad
returns-in-Bad c = broken_comes c.args.bytes.now c.args.self.now c.args.self.now c.requires c.in-Bad.ensures.value

pub returns-in-Plain : goal.returns-in-Plain
returns-in-Plain c =
    plain_steps c.args.bytes.now c.args.self.now _ c.requires c.in-Plain.len c.in-Plain.ensures.value c.in-Plain.ensures.moves refl (search rules) refl

pub returns-in-Link : goal.returns-in-Link
returns-in-Link c =
    link_steps c.args.bytes.now c.args.self.now _ c.requires c.in-Link.kind c.in-Link.len c.link_of.result c.in-Link.ensures.value c.in-Link.ensures.moves c.link_of.ensures refl (search rules) refl

pub returns-else-is_err : goal.returns-else-is_err
returns-else-is_err c =
    container_steps c.args.bytes.now c.args.self.now _ c.requires c.in-Container.before c.in-Container.size c.in-Container.contents c.in-Container.ensures.value c.in-Container.ensures.moves refl refl (search rules)
