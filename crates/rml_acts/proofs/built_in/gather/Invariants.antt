use Rattle.std.proofs.Common.{◌≡◌, length, map, take}
use Rattle.rml_acts.specs.Fine.{held}
use Rattle.rml_acts.proofs.built_in.gather.Given as goal

abbrev pub invariant-loop-i : goal.invariant-loop-i
invariant-loop-i l = (take l.i l.places ≡ map (held l.registers) (take l.i l.rs)) × (length l.places ≡ length l.rs)
