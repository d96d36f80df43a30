use Rattle.std.proofs.Common.{◌≡◌, drop}
use Rattle.rml_values.specs.Numbers.{with_kind}
use Rattle.rml_values.proofs.numbers.add_kind.Given as goal

abbrev pub invariant-loop-place : goal.invariant-loop-place
invariant-loop-place l = with_kind l.kind l.names (drop l.place l.values) ≡ with_kind l.kind l.fn.names l.values
