-- The map that contracts see of bytes stored under names.
use Rattle.std.specs.Prelude.{ℕ, List, map, string_bytes, vec_items}
use Rattle.std.specs.FinMap.{from_entries}
use Rattle.std.specs.BTreeMap.{BTreeMap}
use Rattle.std.specs.declared.string.String.{String}
use Rattle.std.specs.declared.vec.Vec.{Vec}
use Rattle.rml_io.specs.Files.{Held}

-- a stored entry as contracts see it
abbrev pub entry_of : {Y Z : Type 0} → String Y × Vec ℕ Z → List ℕ × List ℕ
entry_of e = (string_bytes e.0, vec_items e.1)

-- the bytes under each name of a stored map
abbrev pub held_in : {Y Z : Type 0} → BTreeMap (String Y) (Vec ℕ Z) → Held
held_in m = from_entries (map entry_of m.entries)
