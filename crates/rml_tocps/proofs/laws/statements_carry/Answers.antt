use Rattle.rml_tocps.proofs.Statements.{both_carry, set_carries, built_in_carries, equal_carries, call_carries, not_carries}
use Rattle.rml_tocps.proofs.laws.statements_carry.Goals as goal

pub returns : goal.returns
returns c = record {
  both = both_carry;
  sets = set_carries;
  built_ins = built_in_carries;
  equals = equal_carries;
  calls = call_carries;
  nots = not_carries;
}
