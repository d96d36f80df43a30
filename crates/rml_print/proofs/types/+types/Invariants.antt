use Rattle.std.proofs.Common.{map, drop}
use Rattle.rml_syntax.specs.declared.token.Token.TheVariants as token
use Rattle.rml_print.specs.Parts.{listed}
use Rattle.rml_print.specs.Types.{type_tokens}
use Rattle.rml_print.proofs.Separated.{Goes, remaining}
use Rattle.rml_print.proofs.types.+types.Given as goal

abbrev pub invariant-print_types-loop-i : goal.invariant-print_types-loop-i
invariant-print_types-loop-i l = Goes l.fn.page (listed l.separator l.seat (map type_tokens l.types)) l.page (remaining (token.Sign l.separator) l.i (map (λ t. type_tokens t l.seat) (drop l.i l.types)))
