use Rattle.rml_search.specs.Growing.{search_grows, runs_are_monotone}
use Rattle.rml_search.proofs.laws.ends_are_stable.Goals as goal

pub returns : goal.returns
returns c = record { searches = search_grows; runs = runs_are_monotone }
