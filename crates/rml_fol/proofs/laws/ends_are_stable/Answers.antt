use Rattle.rml_fol.specs.Growing.{body_grows, runs_are_monotone}
use Rattle.rml_fol.proofs.laws.ends_are_stable.Goals as goal

pub returns : goal.returns
returns c = record { relations = body_grows; runs = runs_are_monotone }
