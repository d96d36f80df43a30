-- Abstypes that are defined in circles: each text's own `type`s may name those of others, also round about.
use Rattle.std.specs.Prelude.{◌≡◌, ℕ, ◌-◌, Bool, false, nat_eq, nat_lt, List, [], ◌∷◌, ◌++◌, length, map, filter, Option, None, Some, if◌then◌else◌, slice_index_or}
use Rattle.std.specs.List.{list_any}
use Rattle.std.specs.Option.{option_map_or}
use Rattle.rml_syntax.specs.declared.texts.Text.{Text}
use Rattle.rml_tables.specs.Words.{with_each}
use Rattle.rml_reach.specs.Within.{reaches_within}
use Rattle.rml_types.specs.Labels.{Label, labels}
use Rattle.rml_types.specs.declared.form.TypeCon.{TypeCon}
use Rattle.rml_types.specs.declared.form.TypeCon.TheVariants as con
use Rattle.rml_types.specs.declared.tree.SchemeTree.{SchemeTree}
use Rattle.rml_signatures.specs.Definitions.{is_own}
use Rattle.rml_signatures.specs.Numbers.{number_in}
use Rattle.rml_signatures.specs.Types.{KnownTypes, body, fully}
use Rattle.rml_signatures.specs.declared.definitions.Definition.{Definition}
use Rattle.rml_signatures.specs.declared.numbers.NumberedText.{NumberedText}

-- the abstypes that some text defines by `type` (`is_own`), of those that a type names, also with a wrong number of arguments

abbrev pub own_at : List (Option Definition) → ℕ → List ℕ
own_at definitions n = if is_own definitions n then n ∷ [] else []

abbrev pub counted_number : ℕ → ℕ → ℕ
counted_number count n = if nat_lt n count then n else n - count

abbrev pub own_in : List (Option Definition) → ℕ → TypeCon → List ℕ
own_in definitions count (con.Named c) = own_at definitions (counted_number count c)
own_in definitions count (con.Fixed k) = []
own_in definitions count con.Tuple = []
own_in definitions count (con.Rel inputs) = []

abbrev pub own_among : List (Option Definition) → ℕ → List Label → List ℕ
own_among definitions count [] = []
own_among definitions count (l ∷ ls) = own_in definitions count l.0 ++ own_among definitions count ls

-- the abstypes that the definition of one names, once the other abbreviations are written out

abbrev pub mentions_by : KnownTypes → List Text → Option SchemeTree → List ℕ
mentions_by w texts None = []
mentions_by w texts (Some t) = own_among w.definitions w.numbers.count (labels (fully w texts None t))

abbrev pub mentions : KnownTypes → List Text → Option Definition → List ℕ
mentions w texts None = []
mentions w texts (Some d) = if d.is_own then mentions_by w texts (body w texts d) else []

abbrev pub edges : KnownTypes → List Text → List (List ℕ)
edges w texts = map (mentions w texts) w.definitions

-- a node has an edge to one from which a path leads back to it
abbrev pub on_circle : List (List ℕ) → ℕ → Bool
on_circle edges n = list_any (λ m. reaches_within (length edges) edges m n) (slice_index_or edges n [])

-- the answer for a node; false where there is none of this number
abbrev pub holds : List Bool → ℕ → Bool
holds answers n = slice_index_or answers n false

pub record AreOnCircles (edges : List (List ℕ)) (circles : List Bool) : Type 0 where
  pub each : holds circles ≡ on_circle edges

-- the abstypes of a text that are defined in circles, by a test of numbers

abbrev pub is_circular : (ℕ → Bool) → NumberedText → ℕ → Bool
is_circular test t name = option_map_or test (number_in t name) false

abbrev pub circular_in : (ℕ → Bool) → Option NumberedText → List ℕ
circular_in test None = []
circular_in test (Some t) = with_each nat_eq [] (filter (is_circular test t) t.kept.names)
