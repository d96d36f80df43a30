use Rattle.std.proofs.Common.{◌≡◌, length, drop}
use Rattle.rml_code.specs.Frames.{loaded}
use Rattle.rml_acts.proofs.built_in.scatter.Given as goal

abbrev pub invariant-loop-i : goal.invariant-loop-i
invariant-loop-i l = (loaded (drop l.i l.ys) (drop l.i l.places) l.registers ≡ loaded l.ys l.places l.fn.registers) × (length l.registers ≡ length l.fn.registers)
