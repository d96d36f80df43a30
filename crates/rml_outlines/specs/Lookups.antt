-- What a name means by what is known of the texts: in the own text, in what is given to each text, or in the interface of a text that is
-- seen. Variables of rules, and what may not be used before it is declared, stand above.
use Rattle.std.specs.Prelude.{ℕ, Bool, false, ◌&&◌, ◌||◌, nat_eq, Option, None, Some, if◌then◌else◌, slice_get}
use Rattle.std.specs.Map.{lookup}
use Rattle.std.specs.Option.{option_and_then, option_or}
use Rattle.rml_syntax.specs.declared.rules.Long.{Long}
use Rattle.rml_tables.specs.Words.{has}
use Rattle.rml_outlines.specs.declared.entry.TypeEntry.{TypeEntry}
use Rattle.rml_outlines.specs.declared.entry.ValueEntry.{ValueEntry}
use Rattle.rml_outlines.specs.declared.known.Known.{Known}
use Rattle.rml_outlines.specs.declared.outline.Outline.{Outline}

-- what is so of what is there
abbrev pub is_there_and : {A : Type 0} → (A → Bool) → Option A → Bool
is_there_and test None = false
is_there_and test (Some a) = test a

-- what a text declares a name as: in its interface, or else in its body

unfoldable pub type_in : Outline → ℕ → Option TypeEntry
type_in o name = option_or (lookup (nat_eq name) o.interface.types) (lookup (nat_eq name) o.body.types)

unfoldable pub value_in : Outline → ℕ → Option ValueEntry
value_in o name = option_or (lookup (nat_eq name) o.interface.values) (lookup (nat_eq name) o.body.values)

-- the same of a text by its number

unfoldable pub own_type : Known → ℕ → ℕ → Option TypeEntry
own_type k text name = option_and_then (λ o. type_in o name) (slice_get k.texts text)

unfoldable pub own_value : Known → ℕ → ℕ → Option ValueEntry
own_value k text name = option_and_then (λ o. value_in o name) (slice_get k.texts text)

-- what one half of a text declares a name as

unfoldable pub interface_type : Known → ℕ → ℕ → Option TypeEntry
interface_type k text name = option_and_then (λ o. lookup (nat_eq name) o.interface.types) (slice_get k.texts text)

unfoldable pub interface_value : Known → ℕ → ℕ → Option ValueEntry
interface_value k text name = option_and_then (λ o. lookup (nat_eq name) o.interface.values) (slice_get k.texts text)

unfoldable pub body_type : Known → ℕ → ℕ → Option TypeEntry
body_type k text name = option_and_then (λ o. lookup (nat_eq name) o.body.types) (slice_get k.texts text)

unfoldable pub body_value : Known → ℕ → ℕ → Option ValueEntry
body_value k text name = option_and_then (λ o. lookup (nat_eq name) o.body.values) (slice_get k.texts text)

-- what each text is given: the names that the prelude's interface declares, and those that are built in

unfoldable pub given_type : Known → ℕ → Option TypeEntry
given_type k name = option_or (lookup (nat_eq name) k.prelude.types) (lookup (nat_eq name) k.built.types)

unfoldable pub given_value : Known → ℕ → Option ValueEntry
given_value k name = option_or (lookup (nat_eq name) k.prelude.values) (lookup (nat_eq name) k.built.values)

-- whether a text sees another: in its interface by the `with`s of that alone, in its body by all
unfoldable pub sees : Known → ℕ → Bool → ℕ → Bool
sees k own in_body text = is_there_and (λ o. has nat_eq text o.seen || (in_body && has nat_eq text o.body_seen)) (slice_get k.texts own)

-- the first text of a module name, where it is seen
unfoldable pub exporter : Known → ℕ → Bool → ℕ → Option ℕ
exporter k own in_body m = option_and_then (λ text. if sees k own in_body text then Some text else None) (lookup (nat_eq m) k.modules)

unfoldable pub exported_type : Known → ℕ → Bool → ℕ → ℕ → Option TypeEntry
exported_type k own in_body m name = option_and_then (λ text. interface_type k text name) (exporter k own in_body m)

unfoldable pub exported_value : Known → ℕ → Bool → ℕ → ℕ → Option ValueEntry
exported_value k own in_body m name = option_and_then (λ text. interface_value k text name) (exporter k own in_body m)

-- what a type's name means: a name of the own text, or one that is given; behind a module, a name that is exported
abbrev pub type_by : Known → ℕ → Bool → ℕ → Option ℕ → Option TypeEntry
type_by k own in_body name None = option_or (own_type k own name) (given_type k name)
type_by k own in_body name (Some m) = exported_type k own in_body m name

unfoldable pub type_of : Known → ℕ → Bool → Long → Option TypeEntry
type_of k own in_body l = type_by k own in_body l.name l.«module»
