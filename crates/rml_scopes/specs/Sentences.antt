-- The module faults: one sentence or two for each row of the table in docs/language.md, "Modules and names", which say at which steps in
-- which scopes it stands.
use Rattle.std.specs.Prelude.{ℕ, Bool, true, false, ◌&&◌, ◌||◌, not, nat_eq, nat_lt, List, [], ◌∷◌, ◌++◌, is_none, is_some, if◌then◌else◌, slice_get}
use Rattle.std.specs.Map.{lookup}
use Rattle.rml_base.specs.declared.place.Place.{Place}
use Rattle.rml_syntax.specs.declared.rules.Long.{Long}
use Rattle.rml_tables.specs.Words.{has}
use Rattle.rml_outlines.specs.declared.entry.TypeEntry.{TypeEntry}
use Rattle.rml_outlines.specs.declared.entry.TypeKind.{TypeKind}
use Rattle.rml_outlines.specs.declared.entry.TypeKind.TheVariants as kind
use Rattle.rml_outlines.specs.declared.entry.ValueEntry.{ValueEntry}
use Rattle.rml_outlines.specs.declared.entry.ValueEntry.TheVariants as value
use Rattle.rml_outlines.specs.Lookups.{body_type, body_value, interface_type, interface_value, type_of, is_there_and}
use Rattle.rml_scopes.specs.declared.fault.Found.{Found}
use Rattle.rml_scopes.specs.declared.fault.ModFault.{ModFault}
use Rattle.rml_scopes.specs.declared.fault.ModFault.TheVariants as fault
use Rattle.rml_scopes.specs.declared.role.Role.{Role}
use Rattle.rml_scopes.specs.declared.role.Role.TheVariants as role
use Rattle.rml_scopes.specs.declared.scope.Scope.{Scope}
use Rattle.rml_scopes.specs.declared.world.World.{World}
use Rattle.rml_scopes.specs.Meaning.{arguments, binds, is_abbrev, is_constructor, is_later_type, is_nothing, is_unusable_val, is_val, meaning}
use Rattle.rml_scopes.specs.Steps.{Step}
use Rattle.rml_scopes.specs.Steps as step

-- Whether what a body declares can define what its interface declares: a `datatype` or `type`, which is all that a body has, an abstype;
-- a val a val, a relation a relation.

abbrev pub is_abstype : TypeKind → Bool
is_abstype kind.Abstype = true
is_abstype _ = false

abbrev pub is_relation : ValueEntry → Bool
is_relation value.Relation = true
is_relation _ = false

unfoldable pub defines_value : ValueEntry → ValueEntry → Bool
defines_value (value.Constructor count) body = false
defines_value value.Val body = is_val body
defines_value value.Relation body = is_relation body

-- in a body, the first declaration of a name, where it defines what the interface declares

unfoldable pub is_definition_of_type : World → Scope → ℕ → Bool
is_definition_of_type w s name =
    s.in_body && not (has nat_eq name s.types) && is_there_and (λ interface. is_abstype interface.kind) (interface_type w.known s.text name)

unfoldable pub is_definition_of_value : World → Scope → ValueEntry → ℕ → Bool
is_definition_of_value w s entry name =
    s.in_body && not (has nat_eq name s.values) && is_there_and (λ interface. defines_value interface entry) (interface_value w.known s.text name)

-- 1, DuplicateModule: the name is the prelude's, or an earlier text has it
unfoldable pub is_duplicate_module : World → Scope → ℕ → Bool
is_duplicate_module w s name = nat_eq name w.known.prelude_module || is_there_and (λ first. nat_lt first s.text) (lookup (nat_eq name) w.known.modules)

-- 2, NoSuchText: a `with` names no text
unfoldable pub names_no_text : World → ℕ → Bool
names_no_text w file = is_none (lookup (nat_eq file) w.known.targets)

-- 3, CircularInterfaces: an interface's `with` names a text whose interface leads back; or a `type` that defines an abstype reaches itself
-- through such types

unfoldable pub leads_back : World → Scope → ℕ → Bool
leads_back w s text = is_there_and (λ own. has nat_eq text own.circles) (slice_get w.known.texts s.text)

unfoldable pub is_on_circle : World → Scope → ℕ → Bool
is_on_circle w s file = not s.in_body && is_there_and (λ text. leads_back w s text) (lookup (nat_eq file) w.known.targets)

unfoldable pub is_circular : World → Scope → TypeEntry → ℕ → Bool
is_circular w s entry name =
    is_abbrev entry.kind && is_definition_of_type w s name && is_there_and (λ facts. has nat_eq name facts.circular) (slice_get w.facts s.text)

-- 4, DuplicateName: a name stands twice in one space of a text, but for the body's first definition of an interface's relation, val or
-- abstype; or a type variable stands twice in a list of parameters

unfoldable pub is_duplicate_type : World → Scope → Bool → ℕ → Bool
is_duplicate_type w s twice name =
    twice || has nat_eq name s.types || (s.in_body && is_some (interface_type w.known s.text name) && not (is_definition_of_type w s name))

unfoldable pub is_duplicate_value : World → Scope → ValueEntry → ℕ → Bool
is_duplicate_value w s entry name =
    has nat_eq name s.values || (s.in_body && is_some (interface_value w.known s.text name) && not (is_definition_of_value w s entry name))

-- 5, UnknownName: a name means nothing by its rules, or what may not be used here; a pattern with arguments or with a module, or an
-- expression with arguments, names no constructor; a call names a constructor; a rule's head is not its relation; a type variable is not
-- among the parameters

unfoldable pub is_unknown : World → Scope → Role → Long → Bool
is_unknown w s (role.Head relation) l = not (nat_eq l.name relation)
is_unknown w s role.Pattern l = is_some l.«module» && not (is_constructor (meaning w.known s l))
is_unknown w s role.Variable l = false
is_unknown w s (role.Constructor count) l = not (is_constructor (meaning w.known s l))
is_unknown w s role.Value l = is_nothing (meaning w.known s l) || is_unusable_val w.known s l
is_unknown w s role.Callee l = is_nothing (meaning w.known s l) || is_constructor (meaning w.known s l)
is_unknown w s (role.TypeName count) l = is_none (type_of w.known s.text s.in_body l) || is_later_type w.known s l

unfoldable pub is_unknown_variable : Scope → ℕ → Bool
is_unknown_variable s name = s.has_params && not (has nat_eq name s.params)

-- 6, WrongCount: a constructor or a type name has another number of arguments than declared
unfoldable pub has_wrong_count : World → Scope → Role → Long → Bool
has_wrong_count w s role.Pattern l = is_there_and (λ n. not (nat_eq n 0)) (arguments (meaning w.known s l))
has_wrong_count w s role.Value l = is_there_and (λ n. not (nat_eq n 0)) (arguments (meaning w.known s l))
has_wrong_count w s (role.Constructor count) l = is_there_and (λ n. not (nat_eq n count)) (arguments (meaning w.known s l))
has_wrong_count w s (role.TypeName count) l = is_there_and (λ entry. not (nat_eq entry.params count)) (type_of w.known s.text s.in_body l)
has_wrong_count w s _ l = false

-- 7, RepeatedVariable: a variable stands twice in one head, one list of result patterns or one `let`
unfoldable pub is_repeated : World → Scope → Role → Long → Bool
is_repeated w s r l = binds w.known s r l && has nat_eq l.name s.part

-- 8, Rebound: a pattern binds a variable that an earlier part of the rule bound, whether either of the two stands inside a `not` or outside
unfoldable pub is_rebound : World → Scope → Role → Long → Bool
is_rebound w s r l = binds w.known s r l && has nat_eq l.name s.bound

-- 9, NotDefined: an interface's relation, val or abstype has no definition in the body, where the body's first declaration of the name
-- counts; or a body's val has a type in neither place

unfoldable pub is_not_defined_type : World → Scope → TypeEntry → ℕ → Bool
is_not_defined_type w s entry name =
    not s.in_body && is_abstype entry.kind && is_none (body_type w.known s.text name)

abbrev pub is_constructor_entry : ValueEntry → Bool
is_constructor_entry (value.Constructor count) = true
is_constructor_entry _ = false

unfoldable pub lacks_definition : World → Scope → ValueEntry → ℕ → Bool
lacks_definition w s entry name =
    not s.in_body && not (is_constructor_entry entry) && not (is_there_and (λ body. defines_value entry body) (body_value w.known s.text name))

unfoldable pub lacks_type : World → Scope → ValueEntry → Bool → ℕ → Bool
lacks_type w s entry typed name =
    s.in_body && is_val entry && not typed && not (has nat_eq name s.values) && not (is_definition_of_value w s entry name)

-- 10, InterfaceMismatch: both places give a type and these differ, as the facts of types tell, or an abstype's parameters differ in number

unfoldable pub has_other_params : World → Scope → TypeEntry → ℕ → Bool
has_other_params w s entry name =
    is_definition_of_type w s name && is_there_and (λ interface. not (nat_eq interface.params entry.params)) (interface_type w.known s.text name)

unfoldable pub has_other_type : World → Scope → ValueEntry → ℕ → Bool
has_other_type w s entry name =
    is_definition_of_value w s entry name && is_there_and (λ facts. has nat_eq name facts.different) (slice_get w.facts s.text)

-- the faults at a step: of each row whose sentence holds, the place and the row

abbrev pub found_if : Bool → Place → ModFault → List Found
found_if holds place row = if holds then record { place = place; fault = row } ∷ [] else []

unfoldable pub with_faults : World → Scope → ℕ → Place → List Found
with_faults w s file place = found_if (names_no_text w file) place fault.NoSuchText ++ found_if (is_on_circle w s file) place fault.CircularInterfaces

unfoldable pub type_faults : World → Scope → TypeEntry → Bool → ℕ → Place → List Found
type_faults w s entry twice name place =
    found_if (is_circular w s entry name) place fault.CircularInterfaces
    ++ found_if (is_duplicate_type w s twice name) place fault.DuplicateName
    ++ found_if (is_not_defined_type w s entry name) place fault.NotDefined
    ++ found_if (has_other_params w s entry name) place fault.InterfaceMismatch

unfoldable pub value_faults : World → Scope → ValueEntry → Bool → ℕ → Place → List Found
value_faults w s entry typed name place =
    found_if (is_duplicate_value w s entry name) place fault.DuplicateName
    ++ found_if (lacks_definition w s entry name) place fault.NotDefined
    ++ found_if (lacks_type w s entry typed name) place fault.NotDefined
    ++ found_if (has_other_type w s entry name) place fault.InterfaceMismatch

unfoldable pub name_faults : World → Scope → Role → Long → List Found
name_faults w s r l =
    found_if (is_unknown w s r l) l.place fault.UnknownName
    ++ found_if (has_wrong_count w s r l) l.place fault.WrongCount
    ++ found_if (is_repeated w s r l) l.place fault.RepeatedVariable
    ++ found_if (is_rebound w s r l) l.place fault.Rebound

abbrev pub step_faults : World → Scope → Step → List Found
step_faults w s (step.Module name place) = found_if (is_duplicate_module w s name) place fault.DuplicateModule
step_faults w s (step.With file place) = with_faults w s file place
step_faults w s step.Body = []
step_faults w s (step.DeclaresType entry twice name place) = type_faults w s entry twice name place
step_faults w s (step.DeclaresValue entry typed name place) = value_faults w s entry typed name place
step_faults w s (step.Params vars) = []
step_faults w s step.AnyParams = []
step_faults w s (step.TypeVariable name place) = found_if (is_unknown_variable s name) place fault.UnknownName
step_faults w s (step.Inside within) = []
step_faults w s (step.Name r l) = name_faults w s r l
step_faults w s step.Begins = []
step_faults w s step.Part = []
step_faults w s step.Enter = []
step_faults w s step.Leave = []
