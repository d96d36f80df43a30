use Rattle.std.proofs.Common.{◌≡◌, sum_by, take}
use Rattle.rml_builtin.specs.Made.{cells_of}
use Rattle.rml_builtin.proofs.made.all_cells.Given as goal

abbrev pub invariant-loop-value : goal.invariant-loop-value
invariant-loop-value l = l.all ≡ sum_by cells_of (take l.value-index l.values)
