use Rattle.rml_implements.proofs.LineRules.{success-rule, failure-rule, enter-rule, body-rule, field-rule, same-rule}
use Rattle.rml_implements.proofs.laws.lines_alone.Goals as goal

pub returns : goal.returns
returns c = record { successes = success-rule; failures = failure-rule; enters = enter-rule; bodies = body-rule; fields = field-rule; same = same-rule }
