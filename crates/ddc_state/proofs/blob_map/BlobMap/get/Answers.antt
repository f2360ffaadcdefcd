use Rattle.std.proofs.Common.{ap, sym, ◌∙◌}
use Rattle.std.specs.FinMap as map
use Rattle.ddc_state.proofs.Nesting.{read, found}
use Rattle.ddc_state.proofs.blob_map.BlobMap.get.Goals as goal

pub returns-in-Some : goal.returns-in-Some
returns-in-Some g c = c.get-in-Some.ensures.value ∙ ap (λ o. found o c.args.name.now.hash) c.in-Some.ensures.value ∙ sym (read c.self.inside.spaces.entries c.args.name.now) ∙ ap (λ m. map.get m c.args.name.now) c.self.view_is

pub returns-in-None : goal.returns-in-None
returns-in-None g c = ap (λ o. found o c.args.name.now.hash) c.in-None.ensures.value ∙ sym (read c.self.inside.spaces.entries c.args.name.now) ∙ ap (λ m. map.get m c.args.name.now) c.self.view_is
