-- How the search for `main` ends: its runs.
use Rattle.std.specs.Prelude.{ℕ, List, [], ◌∷◌}
use Rattle.rml_base.specs.Run.{Run, Runs, Answer as Answered, Failure, bare}
use Rattle.rml_simulation.specs.declared.partial.Partial.{Partial}
use Rattle.rml_simulation.specs.Partial.{followed}
use Rattle.rml_builtin.specs.declared.applied.Answer.{Answer}
use Rattle.rml_terms.specs.Running.{integer_in, argument}
use Rattle.rml_resolved.specs.declared.program.Program.{Program}
use Rattle.rml_search.specs.Whole.{search_of}

-- the call of `main`
abbrev pub main_called : Program → List (List ℕ) → ℕ → Partial Answer
main_called p args n = search_of p p.main (argument args ∷ []) n

-- an answer is its integer, if it gives one; the search fails where `main` gives no answer
abbrev pub run_from : Partial Answer → Run
run_from w = followed w (λ a m. bare (Answered (integer_in a.values))) (λ m. bare Failure)

abbrev pub run_of : Program → List (List ℕ) → ℕ → Run
run_of p args n = run_from (main_called p args n)

-- the search knows no cells
abbrev pub runs_of : Program → Runs
runs_of p args cells n = run_of p args n
