use Rattle.rml_tocps.proofs.Blocks.{before_carries, fail_carries, give_carries, or_carries, goal_carries, first_carries, cond_carries, goto_carries, body_carries}
use Rattle.rml_tocps.proofs.Cases.{switch_carries}
use Rattle.rml_tocps.proofs.laws.blocks_carry.Goals as goal

pub returns : goal.returns
returns c = record {
  before = before_carries;
  fails = fail_carries;
  gives = give_carries;
  ors = or_carries;
  goals = goal_carries;
  firsts = first_carries;
  conds = cond_carries;
  switches = switch_carries;
  gotos = goto_carries;
  bodies = body_carries;
}
