use Rattle.std.proofs.Common.{◌≡◌, ◌++◌}
use Rattle.rml_fol.specs.Text.{parameters_text}
use Rattle.rml_fol.proofs.text.write_parameters.Given as goal

abbrev pub invariant-loop-x : goal.invariant-loop-x
invariant-loop-x l = l.out.items ≡ l.fn.out.items ++ parameters_text l.x
