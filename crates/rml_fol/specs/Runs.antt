-- The runs of a program in clause form.
use Rattle.std.specs.Prelude.{ℕ, List}
use Rattle.rml_base.specs.Run.{Run, Runs, Answer as Answered, Failure, bare, step}
use Rattle.rml_simulation.specs.declared.partial.Partial.{Partial}
use Rattle.rml_simulation.specs.Partial.{followed, take_step}
use Rattle.rml_builtin.specs.declared.applied.Answer.{Answer}
use Rattle.rml_terms.specs.Running.{opening, integer_in}
use Rattle.rml_fol.specs.declared.parts.Parts.{Parts}
use Rattle.rml_fol.specs.declared.parts.Relation.{Relation}
use Rattle.rml_fol.specs.Expressions.{Vals, values_of_vals}
use Rattle.rml_fol.specs.Relations.{relations}

-- the call of `main` is a step
abbrev pub main_called : Vals → List Relation → ℕ → List (List ℕ) → ℕ → Partial Answer
main_called vals rels main args n = take_step (relations vals rels main (opening args)) n

-- an answer is its integer, if it gives one; where `main` gives no answer, the end of the run takes the failure, which is a step
abbrev pub run_from : Partial Answer → Run
run_from w = followed w (λ a n. bare (Answered (integer_in a.values))) (step (λ n. bare Failure))

-- of tables that are no program either; clause form knows no cells
abbrev pub runs_of : Parts → Runs
runs_of p args cells n = run_from (main_called (values_of_vals p.vals) p.rels p.main args n)
