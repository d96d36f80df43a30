-- Types by numbers: first those that are given to each text, then the datatypes and abstypes of the texts in their order, and then their plain
-- `type`s, those that define no abstype. So the types that a program has come first. A type that interface and body both declare is one.
use Rattle.std.specs.Prelude.{ℕ, ◌+◌, ◌-◌, ◌^◌, min, Bool, true, false, not, nat_eq, List, [], ◌∷◌, length, filter, Option, None, Some, is_some, if◌then◌else◌, slice_get}
use Rattle.std.specs.Map.{keys_of}
use Rattle.std.specs.Option.{option_and_then, option_or}
use Rattle.rml_syntax.specs.declared.rules.Long.{Long}
use Rattle.rml_tables.specs.Words.{has, place_of, with_each, with_name}
use Rattle.rml_outlines.specs.Lookups.{exporter, interface_type, is_there_and, type_in}
use Rattle.rml_outlines.specs.declared.entry.TypeEntry.{TypeEntry}
use Rattle.rml_outlines.specs.declared.known.Known.{Known}
use Rattle.rml_outlines.specs.declared.outline.Outline.{Outline}
use Rattle.rml_scopes.specs.Meaning.{is_abbrev}
use Rattle.rml_signatures.specs.declared.numbers.NumberedNames.{NumberedNames}
use Rattle.rml_signatures.specs.declared.numbers.NumberedText.{NumberedText}
use Rattle.rml_signatures.specs.declared.numbers.Numbers.{Numbers}

-- numbers have 32 bits; a set of texts within the limits has no greater ones
abbrev pub capped : ℕ → ℕ
capped n = min n (2 ^ 32 - 1)

-- names, with a further one where a test holds
abbrev pub added : List ℕ → ℕ → Bool → List ℕ
added names name holds = if holds then with_name nat_eq names name else names

unfoldable pub names_in : Outline → List ℕ
names_in o = with_each nat_eq (with_each nat_eq [] (keys_of o.interface.types)) (keys_of o.body.types)

unfoldable pub given_names : Known → List ℕ
given_names k = with_each nat_eq (with_each nat_eq [] (keys_of k.built.types)) (keys_of k.prelude.types)

abbrev pub is_abbrev_entry : Option TypeEntry → Bool
is_abbrev_entry = is_there_and (λ (e : TypeEntry). is_abbrev e.kind)

-- whether a name is a plain `type`: it is declared as a `type` in the interface, or else in the body
abbrev pub is_plain : Outline → ℕ → Bool
is_plain o name = is_abbrev_entry (type_in o name)

-- the types are numbered in two runs: of all others, and of the plain ones
abbrev pub is_of_run : Bool → Outline → ℕ → Bool
is_of_run plain o name = if plain then is_plain o name else not (is_plain o name)

unfoldable pub names_of_run : Bool → Outline → List ℕ
names_of_run plain o = with_each nat_eq [] (filter (is_of_run plain o) (names_in o))

-- the number behind the types of a run
abbrev pub count_from : Bool → ℕ → List Outline → ℕ
count_from plain first [] = first
count_from plain first (o ∷ os) = count_from plain (capped (first + length (names_of_run plain o))) os

abbrev pub numbered : Bool → ℕ → Outline → NumberedNames
numbered plain first o = record { first = first; names = names_of_run plain o }

abbrev pub numbered_text : ℕ → ℕ → Outline → NumberedText
numbered_text kept plain o = record { kept = numbered false kept o; plain = numbered true plain o }

abbrev pub numbered_from : ℕ → ℕ → List Outline → List NumberedText
numbered_from kept plain [] = []
numbered_from kept plain (o ∷ os) =
    numbered_text kept plain o ∷ numbered_from (capped (kept + length (names_of_run false o))) (capped (plain + length (names_of_run true o))) os

unfoldable pub numbers_of : Known → Numbers
numbers_of k =
    let given = given_names k in
    let first = capped (0 + length given) in
    let kept = count_from false first k.texts in
    record { given = given; texts = numbered_from first kept k.texts; kept = kept; count = count_from true kept k.texts }

abbrev pub number_among : ℕ → List ℕ → ℕ → Option ℕ
number_among first names name = if has nat_eq name names then Some (capped (first + place_of nat_eq name names)) else None

abbrev pub number_in_run : NumberedNames → ℕ → Option ℕ
number_in_run n name = number_among n.first n.names name

abbrev pub number_in : NumberedText → ℕ → Option ℕ
number_in t name = option_or (number_in_run t.kept name) (number_in_run t.plain name)

abbrev pub run_of : Bool → NumberedText → NumberedNames
run_of plain t = if plain then t.plain else t.kept

unfoldable pub own_number : Numbers → ℕ → ℕ → Option ℕ
own_number n text name = option_and_then (λ (t : NumberedText). number_in t name) (slice_get n.texts text)

unfoldable pub given_number : Numbers → ℕ → Option ℕ
given_number n name = number_among 0 n.given name

unfoldable pub exported_number : Known → Numbers → ℕ → Bool → ℕ → ℕ → Option ℕ
exported_number k n own in_body m name =
    option_and_then (λ text. if is_some (interface_type k text name) then own_number n text name else None) (exporter k own in_body m)

-- the number of the type that a name means: of the own text, or given; behind a module, exported
abbrev pub number_by : Known → Numbers → ℕ → Bool → ℕ → Option ℕ → Option ℕ
number_by k n own in_body name None = option_or (own_number n own name) (given_number n name)
number_by k n own in_body name (Some m) = exported_number k n own in_body m name

unfoldable pub number_of : Known → Numbers → ℕ → Bool → Long → Option ℕ
number_of k n own in_body l = number_by k n own in_body l.name l.«module»
