use Rattle.std.proofs.Common.{map, take}
use Rattle.rml_builtin.specs.Table.{name_of}
use Rattle.rml_builtin.specs.declared.row.TheConstants.{ROWS}
use Rattle.rml_prelude.proofs.Callers.{Numbered}
use Rattle.rml_given.proofs.giving.rows.Given as goal

abbrev pub invariant-loop-number : goal.invariant-loop-number
invariant-loop-number l = Numbered l.fn.names l.names l.numbers (map name_of (take l.number ROWS))
