use Rattle.rml_named.proofs.Rows.{row_turn}
use Rattle.rml_named.proofs.named.in_order.Goals as goal

pub loop-row-preserved : goal.loop-row-preserved
loop-row-preserved c =
    row_turn c.args.rows.now c.loop-row.named c.add_where.new.named c.loop-row.row c.has-is_named.result c.loop-row.invariant c.has-is_named.ensures c.in_ok-add_where.ensures
