use Rattle.std.proofs.Common.{take}
use Rattle.std.specs.List.{AllZip}
use Rattle.rml_typed.specs.Typed.{ExpOf}
use Rattle.rml_generator.specs.Adds.{Adds}
use Rattle.rml_generator.specs.Scopes.{reads, uses, watched}
use Rattle.rml_generator.proofs.expressions.+expressions.Given as goal

abbrev pub invariant-expressions-loop-exp : goal.invariant-expressions-loop-exp
invariant-expressions-loop-exp l =
    Adds l.scope.coding (watched l.scope) l.fn.graph l.graph (λ told ts. AllZip (ExpOf (reads l.scope) (uses l.scope told) told.vars) (take l.exp-index l.all) ts) l.nodes.items
