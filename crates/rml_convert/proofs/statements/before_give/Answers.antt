use Rattle.std.proofs.Common.{ap, sym, ◌∙◌, length, ◌-◌, take}
use Rattle.rml_conversion.specs.Hand.{all_but_last}
use Rattle.rml_conversion.specs.Statements.{in_front, stmt_made}
use Rattle.rml_convert.proofs.Lasts.{before-last}
use Rattle.rml_convert.proofs.statements.before_give.Goals as goal

pub returns-in-len1-up-clause-made : goal.returns-in-len1-up-clause-made
returns-in-len1-up-clause-made c = λ h s. ap (λ ms. in_front ms h s) (before-last stmt_made c.args.stmts.now c.in-len1-up.len_at_least)
