use Rattle.rml_search.proofs.Valued.{each_expression, all_expressions}
use Rattle.rml_search.proofs.value_laws.expressions_have_values.Goals as goal

pub returns : goal.returns
returns c = record {
  one = each_expression;
  several = all_expressions;
}
