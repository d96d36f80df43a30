use Rattle.std.proofs.Common.{take}
use Rattle.std.specs.List.{AllZip}
use Rattle.rml_typed.specs.Typed.{PatternOf}
use Rattle.rml_generator.specs.Adds.{Adds}
use Rattle.rml_generator.specs.Scopes.{reads, watched}
use Rattle.rml_generator.proofs.patterns.+patterns.Given as goal

abbrev pub invariant-patterns-loop-part : goal.invariant-patterns-loop-part
invariant-patterns-loop-part l =
    Adds l.scope.coding (watched l.scope) l.fn.graph l.graph (λ told ts. AllZip (PatternOf (reads l.scope) told.vars) (take l.part-index l.all) ts) l.nodes.items
