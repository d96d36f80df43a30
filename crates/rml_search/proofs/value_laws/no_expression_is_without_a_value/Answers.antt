use Rattle.rml_search.proofs.Standing.{goal_values, result_values}
use Rattle.rml_search.proofs.value_laws.no_expression_is_without_a_value.Goals as goal

pub returns : goal.returns
returns c = record {
  goals = goal_values;
  results = result_values;
}
