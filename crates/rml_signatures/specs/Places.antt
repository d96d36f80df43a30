-- The places of declarations by the names that they declare.
use Rattle.std.specs.Prelude.{ℕ, suc, nat_eq, List, [], ◌∷◌, Option, None, Some}
use Rattle.rml_syntax.specs.declared.texts.Decl.{Decl}
use Rattle.rml_syntax.specs.declared.texts.Decl.TheVariants as decl
use Rattle.rml_tables.specs.Words.{with_first}
use Rattle.rml_signatures.specs.declared.places.Space.{Space}
use Rattle.rml_signatures.specs.declared.places.Space.TheVariants as space

abbrev pub abbreviation_in : Decl → Option ℕ
abbreviation_in (decl.Abbrev head t) = Some head.name
abbreviation_in (decl.Datatype binds) = None
abbreviation_in (decl.Abstype head) = None
abbreviation_in (decl.Val name place t e) = None
abbreviation_in (decl.Relation name place sig rules) = None

abbrev pub value_in : Decl → Option ℕ
value_in (decl.Val name place t e) = Some name
value_in (decl.Relation name place sig rules) = Some name
value_in (decl.Datatype binds) = None
value_in (decl.Abbrev head t) = None
value_in (decl.Abstype head) = None

-- the name that a declaration declares by `type`, or as a val or a relation
abbrev pub name_in : Space → Decl → Option ℕ
name_in space.Abbreviations d = abbreviation_in d
name_in space.Values d = value_in d

abbrev pub with_place : List (ℕ × ℕ) → Option ℕ → ℕ → List (ℕ × ℕ)
with_place places None place = places
with_place places (Some name) place = with_first nat_eq places name place

abbrev pub places_from : Space → List (ℕ × ℕ) → ℕ → List Decl → List (ℕ × ℕ)
places_from s places place [] = places
places_from s places place (d ∷ ds) = places_from s (with_place places (name_in s d) place) (suc place) ds

-- of each name the place of the first declaration that declares it
abbrev pub places_of : Space → List Decl → List (ℕ × ℕ)
places_of s = places_from s [] 0
