-- What is known of the types of a set, and what types are once names give way to what they stand for.
use Rattle.std.specs.Prelude.{◌≡◌, ℕ, ◌+◌, ◌||◌, not, nat_eq, Bool, List, [], length, map, ◌<◌, ◌^◌, Option, None, Some, if◌then◌else◌}
use Rattle.rml_syntax.specs.declared.texts.Decl.{Decl}
use Rattle.rml_syntax.specs.declared.texts.Decl.TheVariants as decl
use Rattle.rml_syntax.specs.declared.texts.Text.{Text}
use Rattle.rml_tables.specs.Words.{with_each}
use Rattle.rml_types.specs.declared.tree.SchemeTree.{SchemeTree}
use Rattle.rml_abbreviations.specs.Written.{meaning_in, written, written_out}
use Rattle.rml_outlines.specs.declared.known.Known.{Known}
use Rattle.rml_signatures.specs.Definitions.{declaration, declared_types, definitions_of, params_of}
use Rattle.rml_signatures.specs.Numbers.{capped, numbers_of}
use Rattle.rml_signatures.specs.Reading.{Context, type_tree}
use Rattle.rml_signatures.specs.declared.definitions.Definition.{Definition}
use Rattle.rml_signatures.specs.declared.numbers.Numbers.{Numbers}
use Rattle.rml_signatures.specs.declared.tables.Tables.{Tables}
use Rattle.rml_signatures.specs.declared.tables.Types.{Types}

-- what is known of the texts, the numbers of their types, of each type the `type` that its name stands for and how many parameters that
-- has, and how many types the set declares
pub record KnownTypes : Type 0 where
  pub known : Known
  pub numbers : Numbers
  pub definitions : List (Option Definition)
  pub params : List (Option ℕ)
  pub declared : ℕ

-- what a set's trees say of it
abbrev pub types_of : Known → List Text → KnownTypes
types_of k texts = record {
  known = k;
  numbers = numbers_of k;
  definitions = definitions_of k (numbers_of k) texts;
  params = map (params_of texts) (definitions_of k (numbers_of k) texts);
  declared = capped (0 + declared_types texts);
}

-- what tables say of it
abbrev pub told : Known → Tables → KnownTypes
told k t = record { known = k; numbers = t.numbers; definitions = t.definitions.items; params = t.params.items; declared = t.declared }

-- a half of a text as a place where types are read
abbrev pub context : KnownTypes → ℕ → Bool → Option (List ℕ) → Context
context w text in_body vars = record { known = w.known; numbers = w.numbers; params = w.params; text = text; in_body = in_body; vars = vars }

-- the right side of a definition
abbrev pub body_by : KnownTypes → Definition → Option Decl → Option SchemeTree
body_by w d None = None
body_by w d (Some (decl.Abbrev head t)) = Some (type_tree (context w d.text d.in_body (Some (with_each nat_eq [] head.vars))) t)
body_by w d (Some (decl.Datatype binds)) = None
body_by w d (Some (decl.Abstype head)) = None
body_by w d (Some (decl.Val name place t e)) = None
body_by w d (Some (decl.Relation name place sig rules)) = None

abbrev pub body : KnownTypes → List Text → Definition → Option SchemeTree
body w texts d = body_by w d (declaration texts d)

-- whether a definition counts in every text, or in the one of this number
abbrev pub counts_in : Option ℕ → Definition → Bool
counts_in None d = not d.is_own
counts_in (Some text) d = not d.is_own || nat_eq d.text text

-- what a type's name stands for, in every text or in one
abbrev pub body_in : KnownTypes → List Text → Option ℕ → Option Definition → Option SchemeTree
body_in w texts text None = None
body_in w texts text (Some d) = if counts_in text d then body w texts d else None

abbrev pub bodies : KnownTypes → List Text → Option ℕ → List (Option SchemeTree)
bodies w texts text = map (body_in w texts text) w.definitions

-- a type written out as often as the set declares types
abbrev pub fully : KnownTypes → List Text → Option ℕ → SchemeTree → SchemeTree
fully w texts text = written_out w.declared (meaning_in (bodies w texts text))

-- a table by which types are so written out
pub record WritesOut (w : KnownTypes) (texts : List Text) (text : Option ℕ) (table : List (Option SchemeTree)) : Type 0 where
  pub writes : written (meaning_in table) ≡ fully w texts text

-- types are what a set's trees say
pub record AreTypes (k : Known) (texts : List Text) (types : Types) : Type 0 where
  pub tables : told k types.tables ≡ types_of k texts
  pub plain : WritesOut (told k types.tables) texts None types.plain.items
  pub few : length types.tables.definitions.items < 2 ^ 32
