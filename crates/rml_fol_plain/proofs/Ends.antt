-- The run of a search by how the call of `main` went: its text, what it made and what it weighed are those of the call.
use Rattle.std.proofs.Common.{◌≡◌, zero, suc, refl, append-nil, arith}
use Rattle.rml_simulation.specs.declared.partial.Partial.{Partial}
use Rattle.rml_simulation.specs.declared.partial.Partial.TheVariants.{Yes, No, CutOff, GoneWrong}
use Rattle.rml_simulation.specs.Partial.{trace_of}
use Rattle.rml_builtin.specs.declared.applied.Answer.{Answer}
use Rattle.rml_fol.specs.Runs.{run_from}

pub text_of_run : (w : Partial Answer) → (run_from w).text ≡ (trace_of w).text
text_of_run (Yes a t n) = append-nil t.text
text_of_run (No t zero) = append-nil t.text
text_of_run (No t (suc n)) = append-nil t.text
text_of_run (CutOff t) = refl
text_of_run (GoneWrong t) = refl

pub made_of_run : (w : Partial Answer) → (run_from w).made ≡ (trace_of w).made
made_of_run (Yes a t n) = omega arith
made_of_run (No t zero) = omega arith
made_of_run (No t (suc n)) = omega arith
made_of_run (CutOff t) = refl
made_of_run (GoneWrong t) = refl

pub weighed_of_run : (w : Partial Answer) → (run_from w).weighed ≡ (trace_of w).weighed
weighed_of_run (Yes a t n) = omega arith
weighed_of_run (No t zero) = omega arith
weighed_of_run (No t (suc n)) = omega arith
weighed_of_run (CutOff t) = refl
weighed_of_run (GoneWrong t) = refl
