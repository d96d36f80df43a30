use Rattle.std.proofs.Common.{◌≡◌, ◌++◌, drop, option_map}
use Rattle.rml_builtin.specs.Arguments.{chars_in}
use Rattle.rml_builtin.proofs.arguments.chars.Given as goal

abbrev pub invariant-loop-value : goal.invariant-loop-value
invariant-loop-value l = chars_in l.values ≡ option_map (λ rest. l.all.items ++ rest) (chars_in (drop l.value-index l.values))
