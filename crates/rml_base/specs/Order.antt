-- The order of places: by text, then line, then column.
use Rattle.std.specs.Prelude.{Bool, ◌&&◌, ◌||◌, ◌==◌, nat_lt}
use Rattle.rml_base.specs.declared.place.Place.{Place}

-- in one text, the first stands before the second
abbrev pub is_before_in_text : Place → Place → Bool
is_before_in_text a b = nat_lt a.line b.line || ((a.line == b.line) && nat_lt a.column b.column)

-- the first stands before the second
abbrev pub is_before : Place → Place → Bool
is_before a b = nat_lt a.text b.text || ((a.text == b.text) && is_before_in_text a b)
