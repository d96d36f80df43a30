-- Parts of a rule one behind another: each is made in the scope in which it stands, and leaves the scope in which the next one stands.
use Rattle.std.specs.Prelude.{List, [], ◌∷◌}
use Rattle.rml_scopes.specs.declared.scope.Scope.{Scope}
use Rattle.rml_scopes.specs.declared.world.World.{World}
use Rattle.rml_scopes.specs.Machine.{after_step}
use Rattle.rml_scopes.specs.Steps.{Step}

-- what is made of a part, and the scope behind it
pub record Made (X : Type 0) : Type 0 where
  pub tree : X
  pub after : Scope

-- the same scope, and something made of the tree
abbrev pub over : {X Y : Type 0} → (X → Y) → Made X → Made Y
over f m = record { tree = f m.tree; after = m.after }

-- the same tree, and then a step
abbrev pub then_step : {X : Type 0} → World → Step → Made X → Made X
then_step w x m = record { tree = m.tree; after = after_step w m.after x }

abbrev pub in_turn : {X : Type 0} → List (Scope → Made X) → Scope → Made (List X)
in_turn [] s = record { tree = []; after = s }
in_turn (p ∷ ps) s = record { tree = (p s).tree ∷ (in_turn ps (p s).after).tree; after = (in_turn ps (p s).after).after }
