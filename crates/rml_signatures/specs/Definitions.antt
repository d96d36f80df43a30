-- What stands for another type: a `type` of an interface, or one of a body whose name the interface does not declare; and in the text that
-- defines it an abstype of its interface that its body defines by `type`.
use Rattle.std.specs.Prelude.{ℕ, suc, ◌+◌, Bool, true, false, List, [], ◌∷◌, ◌++◌, length, map, nat_eq, Option, None, Some, is_none, if◌then◌else◌, slice_get}
use Rattle.std.specs.Map.{lookup}
use Rattle.std.specs.Option.{option_and_then, option_flatten, option_map}
use Rattle.rml_syntax.specs.declared.texts.Decl.{Decl}
use Rattle.rml_syntax.specs.declared.texts.Decl.TheVariants as decl
use Rattle.rml_syntax.specs.declared.texts.Text.{Text}
use Rattle.rml_outlines.specs.Lookups.{body_type, interface_type, is_there_and}
use Rattle.rml_outlines.specs.declared.entry.TypeEntry.{TypeEntry}
use Rattle.rml_outlines.specs.declared.known.Known.{Known}
use Rattle.rml_scopes.specs.Sentences.{is_abstype}
use Rattle.rml_signatures.specs.Numbers.{is_abbrev_entry, run_of}
use Rattle.rml_signatures.specs.Places.{places_of}
use Rattle.rml_signatures.specs.declared.definitions.Definition.{Definition}
use Rattle.rml_signatures.specs.declared.numbers.NumberedText.{NumberedText}
use Rattle.rml_signatures.specs.declared.numbers.Numbers.{Numbers}
use Rattle.rml_signatures.specs.declared.places.Space.TheVariants as space

abbrev pub is_abstype_entry : Option TypeEntry → Bool
is_abstype_entry = is_there_and (λ (e : TypeEntry). is_abstype e.kind)

abbrev pub placed : ℕ → Bool → Bool → Option ℕ → Option Definition
placed text in_body is_own = option_map (λ (place : ℕ). record { text = text; in_body = in_body; place = place; is_own = is_own })

-- a `type` of a body, by what the interface declares its name as
abbrev pub in_body_by : ℕ → Option TypeEntry → Option ℕ → Option Definition
in_body_by text interface place =
    if is_none interface then placed text true false place else (if is_abstype_entry interface then placed text true true place else None)

-- the `type` that a name of a text stands for, by the places of the `type`s of its interface and of its body
unfoldable pub definition : Known → ℕ → List (ℕ × ℕ) → List (ℕ × ℕ) → ℕ → Option Definition
definition k text specs decls name =
    if is_abbrev_entry (interface_type k text name)
    then placed text false false (lookup (nat_eq name) specs)
    else (if is_abbrev_entry (body_type k text name) then in_body_by text (interface_type k text name) (lookup (nat_eq name) decls) else None)

-- of each type, by its number, the `type` that its name stands for

abbrev pub nothing : ℕ → Option Definition
nothing name = None

abbrev pub definitions_in : Known → Bool → ℕ → Text → Option NumberedText → List (Option Definition)
definitions_in k plain text t None = []
definitions_in k plain text t (Some n) =
    map (definition k text (places_of space.Abbreviations t.specs) (places_of space.Abbreviations t.decls)) (run_of plain n).names

abbrev pub definitions_from : Known → Numbers → Bool → ℕ → List Text → List (Option Definition)
definitions_from k n plain text [] = []
definitions_from k n plain text (t ∷ ts) = definitions_in k plain text t (slice_get n.texts text) ++ definitions_from k n plain (suc text) ts

abbrev pub definitions_of : Known → Numbers → List Text → List (Option Definition)
definitions_of k n texts = (map nothing n.given ++ definitions_from k n false 0 texts) ++ definitions_from k n true 0 texts

-- whether a type is an abstype that some text defines by `type`
abbrev pub is_own : List (Option Definition) → ℕ → Bool
is_own definitions n = is_there_and (λ (d : Definition). d.is_own) (option_flatten (slice_get definitions n))

-- the declaration of a definition

abbrev pub half : Definition → Text → List Decl
half d t = if d.in_body then t.decls else t.specs

abbrev pub declaration : List Text → Definition → Option Decl
declaration texts d = option_and_then (λ (t : Text). slice_get (half d t) d.place) (slice_get texts d.text)

-- how many parameters it has

abbrev pub params_by : Option Decl → Option ℕ
params_by None = None
params_by (Some (decl.Abbrev head t)) = Some (length head.vars)
params_by (Some (decl.Datatype binds)) = None
params_by (Some (decl.Abstype head)) = None
params_by (Some (decl.Val name place t e)) = None
params_by (Some (decl.Relation name place sig rules)) = None

abbrev pub params_of : List Text → Option Definition → Option ℕ
params_of texts = option_and_then (λ d. params_by (declaration texts d))

-- how many types a set declares

abbrev pub types_in : Decl → ℕ
types_in (decl.Datatype binds) = length binds
types_in (decl.Abbrev head t) = 1
types_in (decl.Abstype head) = 1
types_in (decl.Val name place t e) = 0
types_in (decl.Relation name place sig rules) = 0

abbrev pub types_among : List Decl → ℕ
types_among [] = 0
types_among (d ∷ ds) = types_in d + types_among ds

abbrev pub declared_types : List Text → ℕ
declared_types [] = 0
declared_types (t ∷ ts) = types_among t.specs + types_among t.decls + declared_types ts
