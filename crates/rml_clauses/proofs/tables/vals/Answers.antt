use Rattle.rml_clause.proofs.Callers.{made-more}
use Rattle.rml_clauses.specs.Tables.{val_of}
use Rattle.rml_clauses.proofs.tables.vals.Goals as goal

pub loop-def-preserved : goal.loop-def-preserved
loop-def-preserved c =
    made-more (val_of c.args.names.now) c.args.defs.now c.loop-def.def-index c.def-item.result c.def-item.result c.in_ok-made.made c.loop-def.all c.push.new.self
    c.loop-def-test.true c.def-item.is c.in_ok-made.ensures c.loop-def.invariant c.in_ok-push.ensures.ok
