-- The walk over steps, as code goes: the scope, and the least fault that was met.
use Rattle.std.specs.Prelude.{ℕ, List, [], ◌∷◌}
use Rattle.rml_scopes.specs.declared.walk.Walk.{Walk}
use Rattle.rml_scopes.specs.declared.world.World.{World}
use Rattle.rml_scopes.specs.Faults.{lesser_of}
use Rattle.rml_scopes.specs.Machine.{after_step}
use Rattle.rml_scopes.specs.Sentences.{step_faults}
use Rattle.rml_scopes.specs.Steps.{Step}

unfoldable pub walk_step : World → Walk → Step → Walk
walk_step w walk x = record { scope = after_step w walk.scope x; least = lesser_of walk.least (step_faults w walk.scope x) }

-- the walk behind some steps
abbrev pub run : World → Walk → List Step → Walk
run w walk [] = walk
run w walk (x ∷ xs) = run w (walk_step w walk x) xs
