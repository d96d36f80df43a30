use Rattle.std.proofs.Common.{List, [], sym, subst}
use Rattle.rml_fol.specs.declared.parts.Relation.{Relation}
use Rattle.rml_clauses.specs.Tables.{AreRelationsOf}
use Rattle.rml_clauses.proofs.Made.{relations-more}
use Rattle.rml_clauses.proofs.tables.relations.Goals as goal

pub loop-def-init : goal.loop-def-init
loop-def-init c = subst (λ (rs : List Relation). AreRelationsOf c.args.names.now [] rs) (sym c.new-all.ensures) tt

pub loop-def-preserved : goal.loop-def-preserved
loop-def-preserved c =
    relations-more c.args.names.now c.args.defs.now c.loop-def.def-index c.def-item.result c.def-item.result c.in_ok-made.made c.loop-def.all c.push.new.self
    c.loop-def-test.true c.def-item.is c.in_ok-made.ensures c.loop-def.invariant c.in_ok-push.ensures.ok
