use Rattle.std.proofs.Common.{◌≡◌, ◌-◌, length, drop, map}
use Rattle.rml_code.specs.Frames.{with_frame}
use Rattle.rml_acts.specs.Fine.{held}
use Rattle.rml_acts.proofs.registers.stack_registers.Given as goal

abbrev pub invariant-loop-i : goal.invariant-loop-i
invariant-loop-i l = l.heap ≡ with_frame (map (held l.registers) (drop (length l.rs - l.i) l.rs)) l.fn.heap
