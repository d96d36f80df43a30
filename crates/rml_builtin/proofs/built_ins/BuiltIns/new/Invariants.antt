use Rattle.std.proofs.Common.{◌≡◌, map, drop}
use Rattle.std.specs.Prelude.{fold}
use Rattle.rml_base.specs.Numbering.{with_name}
use Rattle.rml_builtin.specs.declared.row.TheConstants.{ROWS}
use Rattle.rml_builtin.specs.Table.{name_of}
use Rattle.rml_builtin.specs.Names.{row_names}
use Rattle.rml_builtin.proofs.built_ins.BuiltIns.new.Given as goal

abbrev pub invariant-loop-row : goal.invariant-loop-row
invariant-loop-row l = fold with_name (map (λ v. v.items) l.names.keys) (map name_of (drop l.row-index ROWS)) ≡ row_names
