use Rattle.std.proofs.Common.{◌≡◌, take}
use Rattle.rml_abbreviations.proofs.tables.copied.Given as goal

abbrev pub invariant-loop-body : goal.invariant-loop-body
invariant-loop-body l = l.table.items ≡ take l.body-index l.bodies
