use Rattle.std.proofs.Common.{arith}
use Rattle.rml_fol.specs.Text.{relation_lines}
use Rattle.rml_fol.proofs.Separated.{numbered-slice-written}
use Rattle.rml_fol.proofs.text.write_relations.Goals as goal

pub loop-i-preserved : goal.loop-i-preserved
loop-i-preserved c =
    numbered-slice-written c.args.out.now.items (relation_lines c.args.parts.now) c.args.parts.now.rels c.as_slice-relation-items.result.now c.loop-i.i c.relation-item.result _
    c.as_slice-relation-items.ensures c.loop-i.invariant (omega arith) c.relation-item.is c.in_ok-write_relation.ensures
