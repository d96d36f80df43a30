use Rattle.std.proofs.Common.{◌≡◌, drop}
use Rattle.rml_top.specs.Text.{simple_from, is_simple}
use Rattle.rml_top.proofs.text.is_simple.Given as goal

abbrev pub invariant-loop-b : goal.invariant-loop-b
invariant-loop-b l = simple_from l.escaped (drop l.b-index l.literal) ≡ is_simple l.literal
