use Rattle.rml_search.proofs.Weighing.{search_weighs, runs_weigh}
use Rattle.rml_search.proofs.laws.steps_are_weighed.Goals as goal

pub returns : goal.returns
returns c = record { searches = search_weighs; runs = runs_weigh }
