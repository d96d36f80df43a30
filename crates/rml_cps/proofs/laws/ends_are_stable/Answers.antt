use Rattle.rml_cps.specs.Growing.{body_is_longer, runs_are_monotone}
use Rattle.rml_cps.proofs.laws.ends_are_stable.Goals as goal

pub returns : goal.returns
returns c = record { relations = body_is_longer; runs = runs_are_monotone }
