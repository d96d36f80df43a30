use Rattle.std.proofs.Common.{◌≡◌, ◌+◌, length, option_map}
use Rattle.rml_value.specs.Lists.{items_of}
use Rattle.rml_value.proofs.list.length_of.Given as goal

abbrev pub invariant-loop-rest : goal.invariant-loop-rest
invariant-loop-rest l = option_map length (items_of l.value) ≡ option_map (λ rest. l.count + length rest) (items_of l.rest)
