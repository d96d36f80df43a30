use Rattle.rml_rules.proofs.Follow.{exp_stays, goal_follows, pattern_follows, rule_follows}
use Rattle.rml_rules.proofs.laws.scopes_follow_steps.Goals as goal

pub returns : goal.returns
returns c = record { expressions = exp_stays; patterns = pattern_follows; goals = goal_follows; rules = rule_follows }
