use Rattle.std.proofs.Common.{◌≡◌, drop}
use Rattle.rml_outlines.specs.Declarations.{with_values}
use Rattle.rml_outlines.proofs.declarations.declare_values.Given as goal

abbrev pub invariant-loop-decl : goal.invariant-loop-decl
invariant-loop-decl l = with_values l.fn.values l.decls ≡ with_values l.values (drop l.decl-index l.decls)
