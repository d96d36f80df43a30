use Rattle.std.proofs.Common.{◌≡◌, drop}
use Rattle.rml_terms.specs.Env.{look}
use Rattle.rml_evaluation.proofs.env.find.Given as goal

abbrev pub invariant-loop-bound : goal.invariant-loop-bound
invariant-loop-bound l = look l.x l.env ≡ look l.x (drop l.bound-index l.env)
