use Rattle.rml_search.proofs.Alone.{loop_alone}
use Rattle.rml_search.proofs.laws.a_loop_stands_alone.Goals as goal

pub returns : goal.returns
returns c = loop_alone
