use Rattle.std.proofs.Common.{◌≡◌, drop}
use Rattle.rml_resolved.specs.Typing.{are_vars}
use Rattle.rml_fitting.proofs.typing.are_variables.Given as goal

abbrev pub invariant-loop-k : goal.invariant-loop-k
invariant-loop-k l = are_vars 0 l.trees ≡ are_vars l.k (drop l.k l.trees)
