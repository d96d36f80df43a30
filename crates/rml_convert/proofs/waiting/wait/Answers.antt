use Rattle.std.proofs.Common.{ap, ◌∙◌}
use Rattle.rml_convert.specs.Waiting.{all_made}
use Rattle.rml_convert.proofs.Lasts.{next-is-made}
use Rattle.rml_convert.proofs.waiting.wait.Goals as goal

pub returns-clause-made : goal.returns-clause-made
returns-clause-made c = λ s. ap (λ ws. all_made ws s) c.in_ok-push.ensures.items ∙ next-is-made c.args.waiting.now.items c.args.next s
