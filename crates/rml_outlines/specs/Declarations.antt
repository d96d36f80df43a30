-- The names that declarations declare, in the two spaces: types, and values, which are constructors, vals and relations. A name that
-- stands twice in one space means its first declaration.
use Rattle.std.specs.Prelude.{ℕ, nat_eq, List, [], ◌∷◌, length}
use Rattle.rml_syntax.specs.declared.texts.Decl.{Decl}
use Rattle.rml_syntax.specs.declared.texts.Decl.TheVariants as decl
use Rattle.rml_syntax.specs.declared.types.ConBind.{ConBind}
use Rattle.rml_syntax.specs.declared.types.DataBind.{DataBind}
use Rattle.rml_syntax.specs.declared.types.TypeHead.{TypeHead}
use Rattle.rml_tables.specs.Words.{with_first}
use Rattle.rml_outlines.specs.declared.entry.TypeEntry.{TypeEntry}
use Rattle.rml_outlines.specs.declared.entry.TypeKind.{TypeKind}
use Rattle.rml_outlines.specs.declared.entry.TypeKind.TheVariants as kind
use Rattle.rml_outlines.specs.declared.entry.ValueEntry.{ValueEntry}
use Rattle.rml_outlines.specs.declared.entry.ValueEntry.TheVariants as value
use Rattle.rml_outlines.specs.declared.outline.Entries.{Entries}

abbrev pub Types : Type 0
Types = List (ℕ × TypeEntry)

abbrev pub Values : Type 0
Values = List (ℕ × ValueEntry)

abbrev pub type_entry : TypeKind → TypeHead → TypeEntry
type_entry k h = record { kind = k; params = length h.vars }

abbrev pub with_head : Types → TypeKind → TypeHead → Types
with_head types k h = with_first nat_eq types h.name (type_entry k h)

abbrev pub with_datatypes : Types → List DataBind → Types
with_datatypes types [] = types
with_datatypes types (d ∷ ds) = with_datatypes (with_head types kind.Datatype d.head) ds

abbrev pub with_types_of : Types → Decl → Types
with_types_of types (decl.Datatype binds) = with_datatypes types binds
with_types_of types (decl.Abbrev head t) = with_head types kind.Abbrev head
with_types_of types (decl.Abstype head) = with_head types kind.Abstype head
with_types_of types (decl.Val name place t e) = types
with_types_of types (decl.Relation name place sig rules) = types

-- the types of some declarations, behind others
abbrev pub with_types : Types → List Decl → Types
with_types types [] = types
with_types types (d ∷ ds) = with_types (with_types_of types d) ds

abbrev pub with_constructors : Values → List ConBind → Values
with_constructors values [] = values
with_constructors values (c ∷ cs) = with_constructors (with_first nat_eq values c.name (value.Constructor (length c.parts))) cs

abbrev pub with_all_constructors : Values → List DataBind → Values
with_all_constructors values [] = values
with_all_constructors values (d ∷ ds) = with_all_constructors (with_constructors values d.cons) ds

abbrev pub with_values_of : Values → Decl → Values
with_values_of values (decl.Datatype binds) = with_all_constructors values binds
with_values_of values (decl.Abbrev head t) = values
with_values_of values (decl.Abstype head) = values
with_values_of values (decl.Val name place t e) = with_first nat_eq values name value.Val
with_values_of values (decl.Relation name place sig rules) = with_first nat_eq values name value.Relation

-- the values of some declarations, behind others
abbrev pub with_values : Values → List Decl → Values
with_values values [] = values
with_values values (d ∷ ds) = with_values (with_values_of values d) ds

-- what some declarations declare: those of one half of a text
unfoldable pub entries_of : List Decl → Entries
entries_of decls = record { types = with_types [] decls; values = with_values [] decls }
