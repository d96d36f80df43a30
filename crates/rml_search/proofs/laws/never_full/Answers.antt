use Rattle.rml_search.specs.Runs.{main_called}
use Rattle.rml_search.proofs.Ends as ends
use Rattle.rml_search.proofs.laws.never_full.Goals as goal

pub returns : goal.returns
returns c = λ p args n. ends.never_full (main_called p args n)
