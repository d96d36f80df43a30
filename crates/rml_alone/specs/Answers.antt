-- What is answered: whether equations are solved, and the least part of some that cannot be typed.
use Rattle.std.specs.Prelude.{◌≡◌, ◌↔◌, ℕ, ◌<◌, Bool, false, IsTrue, Option, Some, None, Result, Ok, Err}
use Rattle.rml_types.specs.declared.tree.SchemeTree.{SchemeTree}
use Rattle.rml_types.specs.Finite.{HasTypes}
use Rattle.rml_types.specs.Nodes.{Nodes}
use Rattle.rml_typed.specs.Untyped.{IsLeastUntyped}
use Rattle.rml_equations.specs.declared.stop.Stop.{Stop}
use Rattle.rml_equations.specs.declared.stop.Stop.TheVariants as stop

-- Equations that were made have a solution in finite types; those that could not be made have none, and where there was no memory
-- nothing is answered.
abbrev pub IsAnswer : Nodes → Result (Unit {0}) Stop → Bool → Type 0
IsAnswer g (Ok done) b = IsTrue b ↔ ((types : ℕ → SchemeTree) × HasTypes g types)
IsAnswer g (Err stop.Untyped) b = b ≡ false
IsAnswer g (Err stop.Memory) b = ⊥

-- of so many parts all can be typed, or this is the least that cannot
abbrev pub IsLeast : (ℕ → Type 0) → ℕ → Option ℕ → Type 0
IsLeast CanBeTyped count None = CanBeTyped count
IsLeast CanBeTyped count (Some k) = (k < count) × IsLeastUntyped CanBeTyped k
