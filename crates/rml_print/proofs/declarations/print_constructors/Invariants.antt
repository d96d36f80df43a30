use Rattle.std.proofs.Common.{map, drop}
use Rattle.rml_syntax.specs.declared.token.Token.TheVariants as token
use Rattle.rml_syntax.specs.declared.token.Mark.TheVariants as mark
use Rattle.rml_print.specs.Texts.{constructor_tokens}
use Rattle.rml_print.specs.Parts.{separated}
use Rattle.rml_print.proofs.Separated.{Goes, remaining}
use Rattle.rml_print.proofs.declarations.print_constructors.Given as goal

abbrev pub invariant-loop-i : goal.invariant-loop-i
invariant-loop-i l = Goes l.fn.page (separated (token.Sign mark.Bar) (map constructor_tokens l.constructors)) l.page (remaining (token.Sign mark.Bar) l.i (map constructor_tokens (drop l.i l.constructors)))
