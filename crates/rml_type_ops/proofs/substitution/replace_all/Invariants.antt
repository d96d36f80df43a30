use Rattle.std.proofs.Common.{◌≡◌, ◌++◌, drop}
use Rattle.rml_type_ops.specs.Replaced.{replaced}
use Rattle.rml_type_ops.proofs.substitution.replace_all.Given as goal

abbrev pub invariant-loop-label : goal.invariant-loop-label
invariant-loop-label l = l.all.items ++ replaced l.types (drop l.label-index l.labels) ≡ replaced l.types l.labels
