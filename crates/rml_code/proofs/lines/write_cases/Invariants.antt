use Rattle.std.proofs.Common.{◌≡◌, ◌++◌, take}
use Rattle.std.specs.List.{flat_map}
use Rattle.rml_code.specs.Text.{case_line}
use Rattle.rml_code.proofs.lines.write_cases.Given as goal

abbrev pub invariant-loop-case : goal.invariant-loop-case
invariant-loop-case l = l.out.items ≡ l.fn.out.items ++ flat_map case_line (take l.case-index l.cases)
