use Rattle.rml_implements.proofs.EndRules.{call-rule, answer-rule, fail-rule, hand-rule}
use Rattle.rml_implements.proofs.laws.ends_of_blocks.Goals as goal

pub returns : goal.returns
returns c = record { calls = call-rule; answers = answer-rule; fails = fail-rule; hands = hand-rule }
