use Rattle.std.proofs.Common.{map, drop}
use Rattle.rml_syntax.specs.declared.token.Token.TheVariants as token
use Rattle.rml_print.specs.Parts.{listed}
use Rattle.rml_print.specs.Patterns.{pattern_tokens}
use Rattle.rml_print.proofs.Separated.{Goes, remaining}
use Rattle.rml_print.proofs.patterns.+patterns.Given as goal

abbrev pub invariant-print_patterns-loop-i : goal.invariant-print_patterns-loop-i
invariant-print_patterns-loop-i l = Goes l.fn.page (listed l.separator l.seat (map pattern_tokens l.patterns)) l.page (remaining (token.Sign l.separator) l.i (map (λ t. pattern_tokens t l.seat) (drop l.i l.patterns)))
