use Rattle.std.specs.Prelude.{sum_by}
use Rattle.rml_fol.specs.Size.{size}
use Rattle.rml_fol.proofs.body.forget_all.Given as goal

abbrev pub decreases-loop-stmt : goal.decreases-loop-stmt
decreases-loop-stmt l = sum_by size l.rest
