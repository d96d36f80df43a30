use Rattle.std.proofs.Common.{map, drop}
use Rattle.rml_syntax.specs.declared.token.Token.TheVariants as token
use Rattle.rml_print.specs.Parts.{listed}
use Rattle.rml_print.specs.Expressions.{exp_tokens}
use Rattle.rml_print.proofs.Separated.{Goes, remaining}
use Rattle.rml_print.proofs.expressions.+expressions.Given as goal

abbrev pub invariant-print_exps-loop-i : goal.invariant-print_exps-loop-i
invariant-print_exps-loop-i l = Goes l.fn.page (listed l.separator l.seat (map exp_tokens l.exps)) l.page (remaining (token.Sign l.separator) l.i (map (λ t. exp_tokens t l.seat) (drop l.i l.exps)))
