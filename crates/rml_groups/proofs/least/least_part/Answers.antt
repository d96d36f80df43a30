use Rattle.std.proofs.Common.{subst}
use Rattle.rml_groups.specs.Spots.{IsRuleFound}
use Rattle.rml_groups.proofs.least.least_part.Goals as goal

pub returns-in_ok-number-in-Some : goal.returns-in_ok-number-in-Some
returns-in_ok-number-in-Some c = λ p text is never. c.in_ok-number-in-Some.ensures p text is (subst (IsRuleFound p text) c.in-Some.is (c.in_ok-rule.ensures p text is never))

pub returns-in-None : goal.returns-in-None
returns-in-None c = λ p text is never. subst (IsRuleFound p text) c.in-None.is (c.in_ok-rule.ensures p text is never)
