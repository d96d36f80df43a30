use Rattle.rml_clause.proofs.MadePremises.{equality-premise}
use Rattle.rml_clause.proofs.pass.premises.equal.Goals as goal

pub returns : goal.returns
returns c =
    equality-premise c.args.names.now c.args.params c.args.a.now c.args.b.now c.in_ok-x.x c.in_ok-y.y c.args.making.now _ _ c.add.new.self c.in_ok-x.ensures c.in_ok-y.ensures
    c.in_ok-add.ensures.stmts c.in_ok-add.ensures.next
