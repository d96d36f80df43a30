use Rattle.std.proofs.Common.{◌≡◌, ◌++◌, take}
use Rattle.rml_code.specs.Text.{parts_text}
use Rattle.rml_code.proofs.text.write_parts.Given as goal

abbrev pub invariant-loop-part : goal.invariant-loop-part
invariant-loop-part l = l.out.items ≡ l.fn.out.items ++ parts_text (take l.part-index l.parts)
