use Rattle.rml_search.proofs.Standing as standing
use Rattle.rml_search.proofs.value_laws.goals_bind.Goals as goal

pub returns : goal.returns
returns c = record {
  one = standing.goal_binds;
  several = standing.goals_bind;
}
