use Rattle.std.proofs.Common.{◌≡◌, take}
use Rattle.rml_evaluation.proofs.env.copy_env.Given as goal

abbrev pub invariant-loop-bound : goal.invariant-loop-bound
invariant-loop-bound l = l.all ≡ take l.bound-index l.env
