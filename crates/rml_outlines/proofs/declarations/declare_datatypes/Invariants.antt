use Rattle.std.proofs.Common.{◌≡◌, drop}
use Rattle.rml_outlines.specs.Declarations.{with_datatypes}
use Rattle.rml_outlines.proofs.declarations.declare_datatypes.Given as goal

abbrev pub invariant-loop-bind : goal.invariant-loop-bind
invariant-loop-bind l = with_datatypes l.fn.types l.binds ≡ with_datatypes l.types (drop l.bind-index l.binds)
