use Rattle.std.proofs.Common.{◌≡◌, drop}
use Rattle.rml_outlines.specs.Declarations.{with_types}
use Rattle.rml_outlines.proofs.declarations.declare_types.Given as goal

abbrev pub invariant-loop-decl : goal.invariant-loop-decl
invariant-loop-decl l = with_types l.fn.types l.decls ≡ with_types l.types (drop l.decl-index l.decls)
