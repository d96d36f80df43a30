use Rattle.std.proofs.Common.{[], take}
use Rattle.std.specs.List.{AllByRecursion}
use Rattle.rml_typed.specs.Typed.{GoalOf}
use Rattle.rml_generator.specs.Adds.{Adds, Bare}
use Rattle.rml_generator.specs.Scopes.{reads, uses, watched}
use Rattle.rml_generator.proofs.goals.+goals.Given as goal

abbrev pub invariant-goals-loop-one : goal.invariant-goals-loop-one
invariant-goals-loop-one l =
    Adds l.scope.coding (watched l.scope) l.fn.graph l.graph (Bare (λ told. AllByRecursion (GoalOf (reads l.scope) (uses l.scope told) told.vars) (take l.one-index l.all))) []
