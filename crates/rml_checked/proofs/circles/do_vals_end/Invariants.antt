use Rattle.std.proofs.Common.{◌≡◌, map, take}
use Rattle.rml_resolved.specs.Circles.{val_needs}
use Rattle.rml_checked.proofs.circles.do_vals_end.Given as goal

abbrev pub invariant-loop-def : goal.invariant-loop-def
invariant-loop-def l = l.graph ≡ map val_needs (take l.def-index l.vals)
