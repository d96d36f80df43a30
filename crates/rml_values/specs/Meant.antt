-- What a name of the space of values is in a program, at its place in a text.
use Rattle.std.specs.Prelude.{ℕ, Bool, true, false, ◌&&◌, nat_eq, List, [], ◌∷◌, Option, None, Some, if◌then◌else◌, slice_get}
use Rattle.std.specs.Map.{lookup}
use Rattle.std.specs.Option.{option_map_or}
use Rattle.rml_syntax.specs.declared.rules.Long.{Long}
use Rattle.rml_tables.specs.Words.{has, place_of}
use Rattle.rml_outlines.specs.Lookups.{exporter, interface_value, own_value}
use Rattle.rml_outlines.specs.declared.entry.ValueEntry.{ValueEntry}
use Rattle.rml_outlines.specs.declared.entry.ValueEntry.TheVariants as entry
use Rattle.rml_outlines.specs.declared.known.Known.{Known}
use Rattle.rml_scopes.specs.declared.meaning.Meaning.{Meaning}
use Rattle.rml_scopes.specs.declared.meaning.Meaning.TheVariants as meaning
use Rattle.rml_scopes.specs.declared.scope.Scope.{Scope}
use Rattle.rml_values.specs.Numbers.{number}
use Rattle.rml_values.specs.declared.meant.Meant.{Meant}
use Rattle.rml_values.specs.declared.meant.Meant.TheVariants.{Variable, Con, Val, Rel, Built, Nothing}
use Rattle.rml_values.specs.declared.numbers.TextValues.{TextValues}
use Rattle.rml_values.specs.declared.values.Values.{Values}

-- a name that a text declares so
abbrev pub meant_in : TextValues → ℕ → ValueEntry → Meant
meant_in t name (entry.Constructor count) = Con (number t.cons name) count
meant_in t name entry.Val = Val (number t.vals name)
meant_in t name entry.Relation = Rel (number t.relations name)

-- the same by the text's number
unfoldable pub meant_of : Values → ℕ → ℕ → ValueEntry → Meant
meant_of v text name e = option_map_or (λ t. meant_in t name e) (slice_get v.texts text) Nothing

-- a name that is built in: `nil`, or the relation of a row
abbrev pub meant_built : Values → ℕ → ValueEntry → Meant
meant_built v name (entry.Constructor count) = Con 0 count
meant_built v name entry.Val = Nothing
meant_built v name entry.Relation = Built (place_of nat_eq name v.rows)

-- a name that each text is given, by what the prelude's interface declares it as, and by what it is built in as
abbrev pub given_by : Values → ℕ → Option ValueEntry → Option ValueEntry → Meant
given_by v name (Some e) built = meant_in v.prelude name e
given_by v name None built = option_map_or (meant_built v name) built Nothing

unfoldable pub meant_given : Known → Values → ℕ → Meant
meant_given k v name = given_by v name (lookup (nat_eq name) k.prelude.values) (lookup (nat_eq name) k.built.values)

-- a name that the text of this number exports
unfoldable pub meant_exported : Known → Values → ℕ → ℕ → Meant
meant_exported k v name text = option_map_or (meant_of v text name) (interface_value k text name) Nothing

-- a variable that an earlier part of the rule bound, a name of the own text, one that is given to each text; behind a module, a name that
-- is exported
abbrev pub short_by : Known → Values → ℕ → ℕ → Option ValueEntry → Meant
short_by k v text name (Some e) = meant_of v text name e
short_by k v text name None = meant_given k v name

abbrev pub meant_by : Known → Values → Scope → ℕ → Option ℕ → Meant
meant_by k v s name None = if has nat_eq name s.seen then Variable else short_by k v s.text name (own_value k s.text name)
meant_by k v s name (Some m) = option_map_or (meant_exported k v name) (exporter k s.text s.in_body m) Nothing

unfoldable pub meant : Known → Values → Scope → Long → Meant
meant k v s l = meant_by k v s l.name l.«module»

-- whether what a name is in a program is of the kind that its meaning says
unfoldable pub is_as : Meaning → Meant → Bool
is_as meaning.Variable Variable = true
is_as (meaning.Declared (entry.Constructor count)) (Con n arity) = nat_eq count arity
is_as (meaning.Declared entry.Val) (Val n) = true
is_as (meaning.Declared entry.Relation) (Rel n) = true
is_as (meaning.Declared entry.Relation) (Built row) = true
is_as meaning.Nothing Nothing = true
is_as m x = false

abbrev pub is_no_val : ValueEntry → Bool
is_no_val entry.Val = false
is_no_val e = true

-- no val is built in
abbrev pub has_no_val : List (ℕ × ValueEntry) → Bool
has_no_val [] = true
has_no_val (x ∷ xs) = is_no_val x.1 && has_no_val xs
