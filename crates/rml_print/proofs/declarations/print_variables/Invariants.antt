use Rattle.std.proofs.Common.{[], ◌∷◌, map, drop}
use Rattle.rml_syntax.specs.declared.token.Token.TheVariants as token
use Rattle.rml_syntax.specs.declared.token.Mark.TheVariants as mark
use Rattle.rml_print.specs.Parts.{separated}
use Rattle.rml_print.proofs.Separated.{Goes, remaining}
use Rattle.rml_print.proofs.declarations.print_variables.Given as goal

abbrev pub invariant-loop-i : goal.invariant-loop-i
invariant-loop-i l = Goes l.fn.page (separated (token.Sign mark.Comma) (map (λ v. token.TyVar v ∷ []) l.variables)) l.page (remaining (token.Sign mark.Comma) l.i (map (λ v. token.TyVar v ∷ []) (drop l.i l.variables)))
