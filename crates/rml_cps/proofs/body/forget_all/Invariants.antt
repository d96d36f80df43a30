use Rattle.std.specs.Prelude.{sum_by}
use Rattle.rml_cps.specs.Size.{size}
use Rattle.rml_cps.proofs.body.forget_all.Given as goal

abbrev pub decreases-loop-stmt : goal.decreases-loop-stmt
decreases-loop-stmt l = sum_by size l.rest
