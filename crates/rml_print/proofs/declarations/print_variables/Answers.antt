use Rattle.std.proofs.Common.{refl, get_or, [], ◌∷◌, arith, map}
use Rattle.rml_syntax.specs.declared.token.Token.TheVariants as token
use Rattle.rml_syntax.specs.declared.token.Mark.TheVariants as mark
use Rattle.rml_print.proofs.Separated.{loop-begin, loop-turn, loop-end}
use Rattle.rml_print.proofs.declarations.print_variables.Goals as goal

pub loop-i-init : goal.loop-i-init
loop-i-init c = loop-begin (token.Sign mark.Comma) (map (λ v. token.TyVar v ∷ []) c.args.variables.now) c.args.page.now

pub loop-i-preserved : goal.loop-i-preserved
loop-i-preserved c =
    loop-turn (token.Sign mark.Comma) (λ v. token.TyVar v ∷ []) c.args.variables.now c.loop-i.i (get_or c.args.variables.now c.loop-i.i 0) 0
    c.loop-i.invariant (omega arith) refl c.in_ok-separate.ensures c.in_ok-token.ensures

pub returns : goal.returns
returns c = loop-end (token.Sign mark.Comma) (λ v. token.TyVar v ∷ []) c.args.variables.now c.loop-i.i c.loop-i.invariant (omega arith)
