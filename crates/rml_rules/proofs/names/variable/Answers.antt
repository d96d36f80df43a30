use Rattle.rml_rules.proofs.Variables.{bound_before, bound_here}
use Rattle.rml_rules.proofs.names.variable.Goals as goal

pub returns-then-has : goal.returns-then-has
returns-then-has c = bound_before c.args.scope.now c.args.name c.has.result c.place.result c.number_behind.result c.if-has.true c.has.ensures c.place.ensures c.number_behind.ensures

pub returns-else-has : goal.returns-else-has
returns-else-has c =
    bound_here c.args.scope.now c.args.name c.has.result c.len.result c.number_behind-else-has.result c.place-else-has.result c.number_behind-else-has-2.result c.if-has.false c.has.ensures
    c.len.ensures c.number_behind-else-has.ensures c.place-else-has.ensures c.number_behind-else-has-2.ensures
