-- Two parts of a run that are the same and leave no more than so many steps: how a part that is looked at with few steps
-- does not tell apart what it calls. The lemmas are in AlikeLaws.antt.
use Rattle.std.specs.Prelude.{◌≡◌, ℕ, ◌≤◌}
use Rattle.rml_simulation.specs.declared.partial.Partial.{Partial}
use Rattle.rml_simulation.specs.declared.partial.Partial.TheVariants.{Yes, No, CutOff, GoneWrong}

-- at most b steps are left
abbrev pub Left : {A : Type 0} → ℕ → Partial A → Type 0
Left b (Yes a t n) = n ≤ b
Left b (No t n) = n ≤ b
Left b (CutOff t) = Unit {0}
Left b (GoneWrong t) = Unit {0}

-- the same, with at most b steps left
abbrev pub Alike : {A : Type 0} → ℕ → Partial A → Partial A → Type 0
Alike b w v = (w ≡ v) × Left b w
