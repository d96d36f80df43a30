use Rattle.rml_search.proofs.Exact.{search_spends, ends_weigh}
use Rattle.rml_search.proofs.laws.ends_are_exact.Goals as goal

pub returns : goal.returns
returns c = record { searches = search_spends; runs = ends_weigh }
