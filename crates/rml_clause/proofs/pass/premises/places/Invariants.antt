use Rattle.std.proofs.Common.{take}
use Rattle.std.specs.Prelude.{sum_by}
use Rattle.rml_resolved.specs.Size.{exp_size}
use Rattle.rml_clause.specs.Plain.{AreIn}
use Rattle.rml_clause.specs.Added.{Adds}
use Rattle.rml_clause.proofs.pass.premises.places.Given as goal

abbrev pub invariant-loop-exp : goal.invariant-loop-exp
invariant-loop-exp l = Adds l.fn.making l.making (sum_by exp_size (take l.exp-index l.exps)) (AreIn l.names l.params (take l.exp-index l.exps) l.variables)
