-- The types that a program's tables name: type names have as many arguments as they are declared with, and the scheme of a
-- constructor is the type from its arguments to its datatype, over the datatype's parameters.
use Rattle.std.specs.Prelude.{ℕ, Bool, true, false, ◌&&◌, ◌==◌, ◌+◌, nat_lt, List, [], ◌∷◌, length, Option, Some, None, slice_get, is_none}
use Rattle.rml_types.specs.Schemes.{every}
use Rattle.rml_types.specs.declared.scheme.Scheme.{Scheme}
use Rattle.rml_types.specs.declared.tree.SchemeTree.{SchemeTree, out-SchemeTree, fold-SchemeTree}
use Rattle.rml_types.specs.declared.tree.SchemeTree.TheOpen.{SchemeTree-F}
use Rattle.rml_builtin.specs.declared.types.TheConstants.{INT, STRING, LIST}
use Rattle.rml_resolved.specs.declared.limits.TheConstants.{CON_ARGUMENTS}
use Rattle.rml_resolved.specs.declared.tables.TypeDef.{TypeDef}
use Rattle.rml_resolved.specs.declared.tables.ConDef.{ConDef}
use Rattle.rml_resolved.specs.declared.tables.RelDef.{RelDef}

abbrev pub takes : ℕ → Option TypeDef → Bool
takes n None = false
takes n (Some d) = d.params == n

abbrev pub type_at : List TypeDef → SchemeTree-F Bool → Bool
type_at types (SchemeTree-F.Var k) = true
type_at types (SchemeTree-F.Named c ts) = takes (length ts) (slice_get types c) && every ts
type_at types (SchemeTree-F.Tuple ts) = every ts
type_at types (SchemeTree-F.Rel ins outs) = every ins && every outs

-- each name in a type is there, with as many arguments as it takes
abbrev pub type_fits : List TypeDef → SchemeTree → Bool
type_fits types = fold-SchemeTree Bool (type_at types)

abbrev pub is_relation_type : SchemeTree-F SchemeTree → Bool
is_relation_type (SchemeTree-F.Rel ins outs) = true
is_relation_type _ = false

-- the declared type of a relation, where there is one: a relation type that fits
abbrev pub scheme_fits : List TypeDef → Option Scheme → Bool
scheme_fits types None = true
scheme_fits types (Some s) = is_relation_type (out-SchemeTree s.body) && type_fits types s.body

-- ---- types

abbrev pub means_fits : List TypeDef → ℕ → Option Scheme → Bool
means_fits types params None = true
means_fits types params (Some s) = (s.vars == params) && type_fits types s.body

-- a type has names; what an abstype means has its parameters as variables
abbrev pub type_def_fits : ℕ → List TypeDef → TypeDef → Bool
type_def_fits names types d = nat_lt d.«module» names && nat_lt d.name names && means_fits types d.params d.means

-- ---- constructors

abbrev pub stands_for_none : Option TypeDef → Bool
stands_for_none None = false
stands_for_none (Some d) = is_none d.means

-- a type that is there and stands for no other
abbrev pub is_datatype : List TypeDef → ℕ → Bool
is_datatype types c = stands_for_none (slice_get types c)

abbrev pub is_var : ℕ → SchemeTree-F SchemeTree → Bool
is_var k (SchemeTree-F.Var j) = k == j
is_var k _ = false

-- the variables in order, from k on
abbrev pub are_vars : ℕ → List SchemeTree → Bool
are_vars k [] = true
are_vars k (t ∷ ts) = is_var k (out-SchemeTree t) && are_vars (k + 1) ts

-- a type name over the variables 0 and on
abbrev pub is_whole : ℕ → ℕ → SchemeTree-F SchemeTree → Bool
is_whole c vars (SchemeTree-F.Named d ts) = (c == d) && (vars == length ts) && are_vars 0 ts
is_whole c vars _ = false

abbrev pub gives_whole : ℕ → ℕ → List SchemeTree → Bool
gives_whole c vars (t ∷ []) = is_whole c vars (out-SchemeTree t)
gives_whole c vars _ = false

-- a relation type of so many arguments to a type name over the variables
abbrev pub makes_whole : ℕ → ℕ → ℕ → SchemeTree-F SchemeTree → Bool
makes_whole c vars arity (SchemeTree-F.Rel ins outs) = (arity == length ins) && gives_whole c vars outs
makes_whole c vars arity _ = false

-- a constructor has a name, a datatype, fewer than `CON_ARGUMENTS` arguments and the type that makes it one
abbrev pub con_def_fits : ℕ → List TypeDef → ConDef → Bool
con_def_fits names types d =
    nat_lt d.name names && is_datatype types d.of && nat_lt d.arity CON_ARGUMENTS && type_fits types d.scheme.body
    && makes_whole d.of d.scheme.vars d.arity (out-SchemeTree d.scheme.body)

-- ---- the relation `main`: from a list of texts to nothing, or to an integer; its type has no variables

abbrev pub is_constant : ℕ → SchemeTree-F SchemeTree → Bool
is_constant c (SchemeTree-F.Named d []) = c == d
is_constant c _ = false

abbrev pub is_list_of_texts : SchemeTree-F SchemeTree → Bool
is_list_of_texts (SchemeTree-F.Named d (t ∷ [])) = (d == LIST) && is_constant STRING (out-SchemeTree t)
is_list_of_texts _ = false

abbrev pub takes_texts : List SchemeTree → Bool
takes_texts (t ∷ []) = is_list_of_texts (out-SchemeTree t)
takes_texts _ = false

abbrev pub gives_integer : Bool → List SchemeTree → Bool
gives_integer true (t ∷ []) = is_constant INT (out-SchemeTree t)
gives_integer false [] = true
gives_integer _ _ = false

abbrev pub is_main_type : Bool → SchemeTree-F SchemeTree → Bool
is_main_type gives (SchemeTree-F.Rel ins outs) = takes_texts ins && gives_integer gives outs
is_main_type gives _ = false

abbrev pub is_main_scheme : Bool → Option Scheme → Bool
is_main_scheme gives None = false
is_main_scheme gives (Some s) = (s.vars == 0) && is_main_type gives (out-SchemeTree s.body)

abbrev pub is_main : Bool → Option RelDef → Bool
is_main gives None = false
is_main gives (Some r) = is_main_scheme gives r.scheme
