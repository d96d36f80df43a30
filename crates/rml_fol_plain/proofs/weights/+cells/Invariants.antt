use Rattle.std.proofs.Common.{◌≡◌, ◌+◌, ◌*◌, map, drop, sum, sum_by}
use Rattle.rml_fol.specs.Expressions.{cells_of}
use Rattle.rml_fol.specs.Size.{nodes}
use Rattle.rml_fol_plain.proofs.weights.+cells.Given as goal

abbrev pub invariant-all_cells-loop-expression : goal.invariant-all_cells-loop-expression
invariant-all_cells-loop-expression l = l.all + sum (map cells_of (drop l.expression-index l.expressions)) ≡ sum (map cells_of l.expressions)

abbrev pub decreases-cells_of : goal.decreases-cells_of
decreases-cells_of l = 2 * nodes l.expression.now

abbrev pub decreases-all_cells : goal.decreases-all_cells
decreases-all_cells l = 2 * sum_by nodes l.expressions.now + 1
