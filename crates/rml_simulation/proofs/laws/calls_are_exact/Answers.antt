use Rattle.rml_simulation.specs.ExactLaws.{calls_spend}
use Rattle.rml_simulation.proofs.laws.calls_are_exact.Goals as goal

pub returns : goal.returns
returns g c = calls_spend
