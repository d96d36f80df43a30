-- How a run ends, as a caller sees it, by how the call of `main` went.
use Rattle.rml_base.specs.declared.outcome.Outcome.{Outcome}
use Rattle.rml_base.specs.Run.{seen}
use Rattle.rml_simulation.specs.declared.partial.Partial.{Partial}
use Rattle.rml_builtin.specs.declared.applied.Answer.{Answer}
use Rattle.rml_fol.specs.Runs.{run_from}

abbrev pub ended : Partial Answer → Outcome
ended w = seen (run_from w).outcome
