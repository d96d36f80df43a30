use Rattle.std.proofs.Common.{map, drop}
use Rattle.rml_syntax.specs.declared.token.Token.TheVariants as token
use Rattle.rml_syntax.specs.declared.token.Key.TheVariants as key
use Rattle.rml_print.specs.Texts.{binding_tokens}
use Rattle.rml_print.specs.Parts.{separated}
use Rattle.rml_print.proofs.Separated.{Goes, remaining}
use Rattle.rml_print.proofs.declarations.print_bindings.Given as goal

abbrev pub invariant-loop-i : goal.invariant-loop-i
invariant-loop-i l = Goes l.fn.page (separated (token.Word key.KAnd) (map binding_tokens l.bindings)) l.page (remaining (token.Word key.KAnd) l.i (map binding_tokens (drop l.i l.bindings)))
