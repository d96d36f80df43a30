use Rattle.std.proofs.Common.{ap, ◌∙◌}
use Rattle.rml_generator.specs.Entries.{there}
use Rattle.rml_generator.proofs.scope.entry.Goals as goal

pub returns-in-Some : goal.returns-in-Some
returns-in-Some g c = c.as_ref.ensures.value ∙ ap there c.in-Some.ensures

pub returns-in-None : goal.returns-in-None
returns-in-None g c = ap there c.in-None.ensures
