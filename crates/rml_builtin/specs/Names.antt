-- The names of the built-ins, and how a name finds one.
use Rattle.std.specs.Prelude.{ℕ, List, map, Option, position}
use Rattle.std.specs.Str.{bytes_eq}
use Rattle.rml_builtin.specs.declared.row.TheConstants.{ROWS}
use Rattle.rml_builtin.specs.Table.{name_of}

-- in the order of their numbers
abbrev pub row_names : List (List ℕ)
row_names = map name_of ROWS

-- the number of the built-in of a name
abbrev pub number_named : List ℕ → Option ℕ
number_named name = position (bytes_eq name) row_names
