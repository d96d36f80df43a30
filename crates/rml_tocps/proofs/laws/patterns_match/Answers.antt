use Rattle.rml_tocps.proofs.Matches.{any_matches, var_matches, bind_matches, literal_matches, tuple_matches, con_matches, match_carries}
use Rattle.rml_tocps.proofs.laws.patterns_match.Goals as goal

pub returns : goal.returns
returns c = record { anys = any_matches; vars = var_matches; binds = bind_matches; literals = literal_matches; tuples = tuple_matches; constructors = con_matches; matches = match_carries }
