use Rattle.std.proofs.Common.{◌≡◌, drop}
use Rattle.rml_outlines.specs.Declarations.{with_all_constructors}
use Rattle.rml_outlines.proofs.declarations.declare_all_constructors.Given as goal

abbrev pub invariant-loop-bind : goal.invariant-loop-bind
invariant-loop-bind l = with_all_constructors l.fn.values l.binds ≡ with_all_constructors l.values (drop l.bind-index l.binds)
