use Rattle.rml_search.proofs.Standing as standing
use Rattle.rml_search.proofs.value_laws.matches_bind.Goals as goal

pub returns : goal.returns
returns c = record {
  one = standing.match_binds;
  several = standing.matches_bind;
}
