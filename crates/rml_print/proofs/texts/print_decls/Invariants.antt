use Rattle.std.proofs.Common.{◌≡◌, drop}
use Rattle.std.specs.List.{flat_map}
use Rattle.rml_print.specs.Texts.{decl_lines}
use Rattle.rml_print.specs.Written.{with_lines}
use Rattle.rml_print.proofs.texts.print_decls.Given as goal

abbrev pub invariant-loop-decl : goal.invariant-loop-decl
invariant-loop-decl l = with_lines l.fn.page (flat_map (decl_lines l.margin) l.decls) ≡ with_lines l.page (flat_map (decl_lines l.margin) (drop l.decl-index l.decls))
