use Rattle.rml_code.specs.Growing.{runs_are_monotone}
use Rattle.rml_code.proofs.laws.ends_are_stable.Goals as goal

pub returns : goal.returns
returns c = runs_are_monotone
