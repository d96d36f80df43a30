-- The direct style, for forms without continuations: what a part of a run gives where it is not told what comes after it, and
-- the ways to go on from there. `followed` leads to whole runs, so that Simulates serves these forms too.
use Rattle.std.specs.Prelude.{ℕ, zero, suc, ◌+◌, [], ◌++◌}
use Rattle.rml_base.specs.Run.{InnerOutcome, Cut, Wrong, Run, Rest, prepend, make, weigh}
use Rattle.rml_simulation.specs.declared.partial.Trace.{Trace}
use Rattle.rml_simulation.specs.declared.partial.Partial.{Partial}
use Rattle.rml_simulation.specs.declared.partial.Partial.TheVariants.{Yes, No, CutOff, GoneWrong}

abbrev pub untraced : Trace
untraced = record { text = []; made = 0; weighed = 0 }

abbrev pub joined : Trace → Trace → Trace
joined t u = record { text = t.text ++ u.text; made = t.made + u.made; weighed = t.weighed + u.weighed }

abbrev pub trace_of : {A : Type 0} → Partial A → Trace
trace_of (Yes a t n) = t
trace_of (No t n) = t
trace_of (CutOff t) = t
trace_of (GoneWrong t) = t

-- the trace stands first
abbrev pub after : {A : Type 0} → Trace → Partial A → Partial A
after t (Yes a u n) = Yes a (joined t u) n
after t (No u n) = No (joined t u) n
after t (CutOff u) = CutOff (joined t u)
after t (GoneWrong u) = GoneWrong (joined t u)

-- takes a step, or is cut
abbrev pub take_step : {A : Type 0} → (ℕ → Partial A) → ℕ → Partial A
take_step go zero = CutOff untraced
take_step go (suc n) = go n

-- goes on from an answer
abbrev pub then_go : {A C : Type 0} → Partial A → (A → ℕ → Partial C) → Partial C
then_go (Yes a t n) go = after t (go a n)
then_go (No t n) go = No t n
then_go (CutOff t) go = CutOff t
then_go (GoneWrong t) go = GoneWrong t

-- goes on where a part fails
abbrev pub or_else : {A : Type 0} → Partial A → (ℕ → Partial A) → Partial A
or_else (Yes a t n) go = Yes a t n
or_else (No t n) go = after t (go n)
or_else (CutOff t) go = CutOff t
or_else (GoneWrong t) go = GoneWrong t

-- goes on where a part fails, and fails where it answers
abbrev pub unless : {A C : Type 0} → Partial A → (ℕ → Partial C) → Partial C
unless (Yes a t n) go = No t n
unless (No t n) go = after t (go n)
unless (CutOff t) go = CutOff t
unless (GoneWrong t) go = GoneWrong t

-- goes on from an answer, and in another way where a part fails
abbrev pub either : {A C : Type 0} → Partial A → (A → ℕ → Partial C) → (ℕ → Partial C) → Partial C
either (Yes a t n) go other = after t (go a n)
either (No t n) go other = after t (other n)
either (CutOff t) go other = CutOff t
either (GoneWrong t) go other = GoneWrong t

-- a run after a trace, and one that stops there
abbrev pub traced : Trace → Run → Run
traced t r = prepend t.text (make t.made (weigh t.weighed r))

abbrev pub stopped : InnerOutcome → Trace → Run
stopped o t = record { outcome = o; text = t.text; made = t.made; weighed = t.weighed }

-- the run that goes on by k from an answer, and by h where there is none
abbrev pub followed : {A : Type 0} → Partial A → (A → Rest) → Rest → Run
followed (Yes a t n) k h = traced t (k a n)
followed (No t n) k h = traced t (h n)
followed (CutOff t) k h = stopped Cut t
followed (GoneWrong t) k h = stopped Wrong t
