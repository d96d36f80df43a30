use Rattle.std.proofs.Common.{[], ◌∷◌, ◌++◌, ap, ◌∙◌}
use Rattle.rml_fol.specs.declared.terms.Expression.TheVariants as expression
use Rattle.rml_fol.specs.declared.statements.Stmt.TheVariants as stmt
use Rattle.rml_clause.proofs.Returned.{relation-returns, variable-returns, built-in-returns, val-returns}
use Rattle.rml_clause.proofs.pass.premises.call.Goals as goal

pub returns-in-Rel : goal.returns-in-Rel
returns-in-Rel c =
    relation-returns c.args.names.now c.args.params c.args.exps.now c.args.patterns.now c.in_ok-xs.xs c.args.making.now c.places.new.making c.in_ok-xs.ensures
    c.call_relation.result c.call_relation.new.making c.args.callee c.in-Rel.r c.in-Rel.is c.call_relation.ensures

pub returns-in-Built : goal.returns-in-Built
returns-in-Built c =
    built-in-returns c.args.names.now c.args.params c.args.exps.now c.args.patterns.now c.in_ok-xs.xs c.args.making.now c.places.new.making c.in_ok-xs.ensures
    c.call_built_in.result c.call_built_in.new.making c.args.callee c.in-Built.number c.in-Built.is c.call_built_in.ensures

pub returns-in-Var : goal.returns-in-Var
returns-in-Var c =
    variable-returns c.args.names.now c.args.params c.args.exps.now c.args.patterns.now c.in_ok-xs.xs c.args.making.now c.places.new.making c.in_ok-xs.ensures
    c.call_relation-in-Var.result c.call_relation-in-Var.new.making c.args.callee c.in-Var.x c.in-Var.is c.call_relation-in-Var.ensures

pub returns-in_ok-add-in-Val : goal.returns-in_ok-add-in-Val
returns-in_ok-add-in-Val c =
    val-returns c.args.names.now c.args.params c.args.exps.now c.args.patterns.now c.in_ok-xs.xs c.args.making.now c.places.new.making c.in_ok-xs.ensures
    c.call_relation-in-Val.result c.call_relation-in-Val.new.making c.args.callee c.in-Val.k c.variable-held.result c.add.new.self c.in-Val.is c.variable-held.ensures.value
    (c.in_ok-add-in-Val.ensures.stmts ∙ ap (λ z. z ++ stmt.Set c.variable-held.result (expression.Val c.in-Val.k) ∷ []) c.variable-held.ensures.stmts)
    (c.in_ok-add-in-Val.ensures.next ∙ c.variable-held.ensures.next) c.call_relation-in-Val.ensures
