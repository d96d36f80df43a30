-- A part of a run with more steps. The lemmas are in GrowingLaws.antt.
use Rattle.std.specs.Prelude.{◌≡◌, ℕ, ◌+◌, ◌≤◌}
use Rattle.rml_base.specs.Run.{IsPrefix}
use Rattle.rml_simulation.specs.declared.partial.Trace.{Trace}
use Rattle.rml_simulation.specs.declared.partial.Partial.{Partial}
use Rattle.rml_simulation.specs.declared.partial.Partial.TheVariants.{Yes, No, CutOff, GoneWrong}
use Rattle.rml_simulation.specs.Partial.{trace_of}

-- the second trace goes on from the first
pub record Extends (t u : Trace) : Type 0 where
  pub text : IsPrefix t.text u.text
  pub made : t.made ≤ u.made
  pub weighed : t.weighed ≤ u.weighed

-- the second is the first with j more steps
abbrev pub Grows : {A : Type 0} → ℕ → Partial A → Partial A → Type 0
Grows j (Yes a t n) w = w ≡ Yes a t (n + j)
Grows j (No t n) w = w ≡ No t (n + j)
Grows j (CutOff t) w = Extends t (trace_of w)
Grows j (GoneWrong t) w = w ≡ GoneWrong t
