use Rattle.std.proofs.Common.{[], ◌∷◌, ◌++◌, ap, ◌∙◌}
use Rattle.rml_fol.specs.declared.statements.Stmt.TheVariants as stmt
use Rattle.rml_clause.proofs.MadePremises.{binding-premise}
use Rattle.rml_clause.proofs.pass.premises.bind.Goals as goal

pub returns : goal.returns
returns c =
    binding-premise c.args.names.now c.args.params c.args.p.now c.args.e.now c.in_ok-y.y c.args.making.now c.place.new.making c.add.new.self c.in_ok-y.ensures
    (c.in_ok-add.ensures.stmts ∙ ap (λ m. c.place.new.making.stmts ++ stmt.Match c.in_ok-y.y m ∷ []) c.in_ok-matched.ensures) c.in_ok-add.ensures.next
