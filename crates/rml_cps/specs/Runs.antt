-- The runs of a program in continuation form.
use Rattle.rml_base.specs.Run.{Rest, Runs, Answer as Answered, Failure, bare, step}
use Rattle.rml_builtin.specs.declared.applied.Answer.{Answer}
use Rattle.rml_terms.specs.Running.{opening, integer_in}
use Rattle.rml_fol.specs.Expressions.{values_of_vals}
use Rattle.rml_cps.specs.declared.parts.Parts.{Parts}
use Rattle.rml_cps.specs.Relations.{relations}

-- the run ends with the integer of the answer, if it gives one
abbrev pub last_success : Answer → Rest
last_success a n = bare (Answered (integer_in a.values))

abbrev pub last_failure : Rest
last_failure n = bare Failure

-- the call of `main` is a step; of tables that are no program either; continuation form knows no cells
abbrev pub runs_of : Parts → Runs
runs_of p args cells n = step (relations (values_of_vals p.vals) p.rels p.main last_success last_failure (opening args)) n
