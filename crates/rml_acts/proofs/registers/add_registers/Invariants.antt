use Rattle.std.proofs.Common.{◌≡◌, ◌++◌, take, map}
use Rattle.rml_acts.specs.Fine.{held}
use Rattle.rml_acts.proofs.registers.add_registers.Given as goal

abbrev pub invariant-loop-r : goal.invariant-loop-r
invariant-loop-r l = l.heap ≡ record l.fn.heap { values = l.fn.heap.values ++ map (held l.registers) (take l.r-index l.rs) }
