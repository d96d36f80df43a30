-- What is built in: the six types, the constructor of the empty list, and the built-ins as relations.
use Rattle.std.specs.Prelude.{ℕ, Bool, ◌&&◌, List, [], ◌∷◌, map, nat_eq}
use Rattle.std.specs.List.{list_all}
use Rattle.rml_base.specs.Numbering.{is_known, number_in}
use Rattle.rml_tables.specs.Words.{with_first}
use Rattle.rml_outlines.specs.Declarations.{Types, Values}
use Rattle.rml_outlines.specs.declared.entry.TypeKind.TheVariants as kind
use Rattle.rml_outlines.specs.declared.entry.ValueEntry.TheVariants as entry
use Rattle.rml_outlines.specs.declared.outline.Entries.{Entries}
use Rattle.rml_builtin.specs.Names.{row_names}
use Rattle.rml_prelude.specs.Words.{are_known, number, words_of}
use Rattle.rml_prelude.specs.declared.word.Word.{Word}
use Rattle.rml_prelude.specs.declared.word.Word.TheVariants as word

-- a built-in type, with so many parameters, behind others
abbrev pub with_type : List ℕ → Types → Word → ℕ → Types
with_type w types n params = with_first nat_eq types (number w n) (record { kind = kind.BuiltIn; params = params })

-- in the order of their numbers in every program
unfoldable pub types_over : List ℕ → Types
types_over w =
    with_type w (with_type w (with_type w (with_type w (with_type w (with_type w [] word.Int 0) word.Char 0) word.String 0) word.List 1) word.Lvar 1) word.Vector 1

-- relations of these names, behind others
abbrev pub with_relations : Values → List ℕ → Values
with_relations values [] = values
with_relations values (name ∷ names) = with_relations (with_first nat_eq values name entry.Relation) names

unfoldable pub values_over : List ℕ → List ℕ → Values
values_over w rows = with_relations (with_first nat_eq [] (number w word.Nil) (entry.Constructor 0)) rows

unfoldable pub entries_over : List ℕ → List ℕ → Entries
entries_over w rows = record { types = types_over w; values = values_over w rows }

-- the numbers that some names give the built-ins, in the order of their rows
unfoldable pub rows_of : List (List ℕ) → List ℕ
rows_of names = map (number_in names) row_names

-- what is built in, over the numbers of its names
unfoldable pub built_of : List (List ℕ) → Entries
built_of names = entries_over (words_of names) (rows_of names)

-- whether all words and the names of all built-ins are among some names
unfoldable pub all_known : List (List ℕ) → Bool
all_known names = are_known names && list_all (is_known names) row_names
