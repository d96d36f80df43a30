use Rattle.std.proofs.Common.{◌≡◌, map, drop}
use Rattle.rml_print.specs.Texts.{uses_line}
use Rattle.rml_print.specs.Written.{with_lines}
use Rattle.rml_print.proofs.texts.print_uses.Given as goal

abbrev pub invariant-loop-one : goal.invariant-loop-one
invariant-loop-one l = with_lines l.fn.page (map (uses_line l.margin) l.uses) ≡ with_lines l.page (map (uses_line l.margin) (drop l.one-index l.uses))
