use Rattle.std.proofs.Common.{◌≡◌, ◌++◌, take}
use Rattle.rml_fol.specs.Text.{lines_from, relation_lines}
use Rattle.rml_fol.proofs.text.write_relations.Given as goal

abbrev pub invariant-loop-i : goal.invariant-loop-i
invariant-loop-i l = l.out.items ≡ l.fn.out.items ++ lines_from (relation_lines l.parts) 0 (take l.i l.parts.rels)
