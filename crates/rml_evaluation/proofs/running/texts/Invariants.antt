use Rattle.std.proofs.Common.{◌≡◌, map, take}
use Rattle.rml_value.specs.declared.value.Value.TheVariants as value
use Rattle.rml_evaluation.proofs.running.texts.Given as goal

abbrev pub invariant-loop-arg : goal.invariant-loop-arg
invariant-loop-arg l = l.texts ≡ map value.Text (take l.arg-index l.args)
