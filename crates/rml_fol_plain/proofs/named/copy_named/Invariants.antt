use Rattle.std.proofs.Common.{◌≡◌, take}
use Rattle.rml_fol_plain.proofs.named.copy_named.Given as goal

abbrev pub invariant-loop-body : goal.invariant-loop-body
invariant-loop-body l = l.all ≡ take l.body-index l.bodies
