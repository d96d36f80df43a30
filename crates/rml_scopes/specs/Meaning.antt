-- What a name means at its place: the first of its meanings, and no other. What types mean is told by what is known of the texts.
use Rattle.std.specs.Prelude.{ℕ, Bool, true, false, ◌&&◌, not, nat_eq, Option, None, Some, is_some, if◌then◌else◌}
use Rattle.std.specs.Map.{lookup}
use Rattle.std.specs.Option.{option_or}
use Rattle.rml_syntax.specs.declared.rules.Long.{Long}
use Rattle.rml_tables.specs.Words.{has}
use Rattle.rml_outlines.specs.declared.entry.TypeKind.{TypeKind}
use Rattle.rml_outlines.specs.declared.entry.TypeKind.TheVariants as kind
use Rattle.rml_outlines.specs.declared.entry.ValueEntry.{ValueEntry}
use Rattle.rml_outlines.specs.declared.entry.ValueEntry.TheVariants as value
use Rattle.rml_outlines.specs.declared.known.Known.{Known}
use Rattle.rml_outlines.specs.Lookups.{exported_value, given_value, is_there_and, own_value, type_of}
use Rattle.rml_scopes.specs.declared.meaning.Meaning.{Meaning}
use Rattle.rml_scopes.specs.declared.meaning.Meaning.TheVariants.{Variable, Declared, Nothing}
use Rattle.rml_scopes.specs.declared.role.Role.{Role}
use Rattle.rml_scopes.specs.declared.role.Role.TheVariants as role
use Rattle.rml_scopes.specs.declared.role.Within.{Within}
use Rattle.rml_scopes.specs.declared.role.Within.TheVariants as within
use Rattle.rml_scopes.specs.declared.scope.Scope.{Scope}

-- values

abbrev pub declared : Option ValueEntry → Meaning
declared (Some entry) = Declared entry
declared None = Nothing

-- a variable that an earlier part of the rule bound, a name of the own text, one that is given to each text; behind a module, a name that
-- is exported
abbrev pub value_by : Known → Scope → ℕ → Option ℕ → Meaning
value_by k s name None = if has nat_eq name s.seen then Variable else declared (option_or (own_value k s.text name) (given_value k name))
value_by k s name (Some m) = declared (exported_value k s.text s.in_body m name)

unfoldable pub meaning : Known → Scope → Long → Meaning
meaning k s l = value_by k s l.name l.«module»

-- the number of arguments of a constructor
abbrev pub arguments : Meaning → Option ℕ
arguments (Declared (value.Constructor count)) = Some count
arguments _ = None

abbrev pub is_constructor : Meaning → Bool
is_constructor m = is_some (arguments m)

abbrev pub is_nothing : Meaning → Bool
is_nothing Nothing = true
is_nothing _ = false

-- what has a meaning that may not be used here, since it doesn't stand earlier

abbrev pub is_abbrev : TypeKind → Bool
is_abbrev kind.Abbrev = true
is_abbrev _ = false

abbrev pub is_in_type : Within → Bool
is_in_type within.AType = true
is_in_type _ = false

-- whether a module name is that of the own text
unfoldable pub is_own_module : Known → Scope → ℕ → Bool
is_own_module k s m = is_there_and (λ text. nat_eq text s.text) (lookup (nat_eq m) k.modules)

abbrev pub is_of_own_text : Known → Scope → Option ℕ → Bool
is_of_own_text k s None = true
is_of_own_text k s (Some m) = is_own_module k s m

-- on the right side of a `type`, a `type` of the own text that doesn't stand earlier in it
unfoldable pub is_later_type : Known → Scope → Long → Bool
is_later_type k s l =
    is_in_type s.within && is_of_own_text k s l.«module» && is_there_and (λ entry. is_abbrev entry.kind) (type_of k s.text s.in_body l) && not (has nat_eq l.name s.abbrevs)

abbrev pub is_in_val : Within → Bool
is_in_val within.AVal = true
is_in_val _ = false

abbrev pub is_val : ValueEntry → Bool
is_val value.Val = true
is_val _ = false

-- A val that stands earlier in the body of the own text, or that an interface exports which the own interface, and not the body, names.
-- A val of the own text is the same with a module before it.
unfoldable pub is_usable_val : Known → Scope → ℕ → Option ℕ → Bool
is_usable_val k s name None = has nat_eq name s.vals
is_usable_val k s name (Some m) = if is_own_module k s m then has nat_eq name s.vals else is_there_and is_val (exported_value k s.text false m name)

-- the val that a name means, where it is no variable; what is given to each text is no val
abbrev pub val_named : Known → Scope → ℕ → Option ℕ → Option ValueEntry
val_named k s name None = own_value k s.text name
val_named k s name (Some m) = exported_value k s.text s.in_body m name

-- in the expression of a val, which has no variables, a val that it may not use
unfoldable pub is_unusable_val : Known → Scope → Long → Bool
is_unusable_val k s l = is_in_val s.within && is_there_and is_val (val_named k s l.name l.«module») && not (is_usable_val k s l.name l.«module»)

-- Whether the name binds a variable. Before `as` a name always does; alone in a pattern a short name does that is no constructor.
unfoldable pub binds : Known → Scope → Role → Long → Bool
binds k s role.Variable l = true
binds k s role.Pattern l = not (is_some l.«module») && not (is_constructor (meaning k s l))
binds k s _ l = false
