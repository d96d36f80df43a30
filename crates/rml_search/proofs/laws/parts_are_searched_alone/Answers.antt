use Rattle.rml_search.proofs.Alone.{search_same}
use Rattle.rml_search.proofs.laws.parts_are_searched_alone.Goals as goal

pub returns : goal.returns
returns c = search_same
