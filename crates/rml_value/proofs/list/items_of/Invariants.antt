use Rattle.std.proofs.Common.{◌≡◌, ◌++◌, option_map}
use Rattle.rml_value.specs.Lists.{items_of}
use Rattle.rml_value.proofs.list.items_of.Given as goal

abbrev pub invariant-loop-rest : goal.invariant-loop-rest
invariant-loop-rest l = items_of l.value ≡ option_map (λ rest. l.all ++ rest) (items_of l.rest)
