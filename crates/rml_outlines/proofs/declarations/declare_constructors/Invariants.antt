use Rattle.std.proofs.Common.{◌≡◌, drop}
use Rattle.rml_outlines.specs.Declarations.{with_constructors}
use Rattle.rml_outlines.proofs.declarations.declare_constructors.Given as goal

abbrev pub invariant-loop-con : goal.invariant-loop-con
invariant-loop-con l = with_constructors l.fn.values l.cons ≡ with_constructors l.values (drop l.con-index l.cons)
