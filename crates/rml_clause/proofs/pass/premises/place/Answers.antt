use Rattle.std.proofs.Common.{[], ◌∷◌, ◌++◌, ap, ◌∙◌}
use Rattle.rml_fol.specs.declared.statements.Stmt.TheVariants as stmt
use Rattle.rml_clause.proofs.MadePremises.{placed-own, placed-set}
use Rattle.rml_clause.proofs.pass.premises.place.Goals as goal

pub returns-in-Var : goal.returns-in-Var
returns-in-Var c = placed-own c.args.names.now c.args.params c.args.making.now c.args.exp.now c.in-Var.x c.in-Var.is

pub returns-in_ok-add-in_default : goal.returns-in_ok-add-in_default
returns-in_ok-add-in_default c =
    placed-set c.args.names.now c.args.params c.args.making.now c.add.new.self c.args.exp.now c.variable-variable.result c.in_ok-value-in_default.value c.in_default.not-Var
    c.in_ok-value-in_default.ensures c.variable-variable.ensures.value
    (c.in_ok-add-in_default.ensures.stmts ∙ ap (λ z. z ++ stmt.Set c.variable-variable.result c.in_ok-value-in_default.value ∷ []) c.variable-variable.ensures.stmts)
    (c.in_ok-add-in_default.ensures.next ∙ c.variable-variable.ensures.next)
