use Rattle.std.proofs.Common.{◌≡◌, ◌++◌, drop}
use Rattle.rml_fol.specs.Relations.{bound_from}
use Rattle.rml_fol_plain.proofs.vars.parameters.Given as goal

abbrev pub invariant-loop-value : goal.invariant-loop-value
invariant-loop-value l = bound_from 0 l.values ≡ l.env ++ bound_from l.var (drop l.value-index l.values)
