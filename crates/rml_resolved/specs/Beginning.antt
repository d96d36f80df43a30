-- What every program's tables begin with: the built-in types and those of the prelude, their constructors, and the
-- prelude's relations with their declared types.
use Rattle.std.specs.Prelude.{◌≡◌, ℕ, Bool, true, false, ◌&&◌, ◌==◌, nat_le, List, [], ◌∷◌, map, length, drop, Option, Some, None, IsSomeAnd, slice_get, codes, is_none}
use Rattle.std.specs.List.{list_all}
use Rattle.std.specs.Str.{bytes_eq}
use Rattle.rml_types.specs.declared.scheme.Scheme.{Scheme}
use Rattle.rml_types.specs.declared.tree.SchemeTree.{SchemeTree, out-SchemeTree}
use Rattle.rml_types.specs.declared.tree.SchemeTree.TheOpen.{SchemeTree-F}
use Rattle.rml_types.specs.declared.tree.SchemeTree.TheVariants as tree
use Rattle.rml_builtin.specs.declared.types.TheConstants.{INT, LIST, BOOL, OPTION}
use Rattle.rml_builtin.specs.Types.{a, int, bool, list}
use Rattle.rml_resolved.specs.declared.expected.Arguments.{Arguments}
use Rattle.rml_resolved.specs.declared.expected.Arguments.TheVariants.{Nothing, Parameter, HeadAndTail}
use Rattle.rml_resolved.specs.declared.expected.Word.{Word}
use Rattle.rml_resolved.specs.declared.expected.Word.TheVariants.{Item, ItemList, Integer, Truth}
use Rattle.rml_resolved.specs.declared.tables.TypeDef.{TypeDef}
use Rattle.rml_resolved.specs.declared.tables.ConDef.{ConDef}
use Rattle.rml_resolved.specs.declared.tables.RelDef.{RelDef}
use Rattle.rml_resolved.specs.Typing.{is_var, is_whole, is_constant}

-- there are as many items as expected, or more, and each fits what is expected in its place
abbrev pub begins : {A B : Type 0} → (A → B → Bool) → List A → List B → Bool
begins fits [] items = true
begins fits (k ∷ ks) [] = false
begins fits (k ∷ ks) (x ∷ xs) = fits k x && begins fits ks xs

abbrev pub holds : List ℕ → Option (List ℕ) → Bool
holds bytes None = false
holds bytes (Some held) = bytes_eq bytes held

-- a number names some bytes
abbrev pub is_name : List (List ℕ) → List ℕ → ℕ → Bool
is_name names bytes k = holds bytes (slice_get names k)

abbrev pub in_prelude : List (List ℕ) → ℕ → Bool
in_prelude names k = is_name names (codes "rml") k

-- ---- types

-- a name and how many arguments it takes
abbrev pub KnownType : Type 0
KnownType = List ℕ × ℕ

-- of this name in the prelude, with so many arguments, and standing for no other type
abbrev pub is_known_type : List (List ℕ) → KnownType → TypeDef → Bool
is_known_type names known d = in_prelude names d.«module» && is_name names known.0 d.name && (d.params == known.1) && is_none d.means

abbrev pub known_types : List KnownType
known_types =
    (codes "int", 0)
    ∷ (codes "char", 0)
    ∷ (codes "string", 0)
    ∷ (codes "list", 1)
    ∷ (codes "lvar", 1)
    ∷ (codes "vector", 1)
    ∷ (codes "bool", 0)
    ∷ (codes "option", 1)
    ∷ []

unfoldable pub types_begin : List (List ℕ) → List TypeDef → Bool
types_begin names types = begins (is_known_type names) known_types types

-- ---- constructors, whose schemes follow from their datatypes and these arguments

abbrev pub no_arguments : SchemeTree-F SchemeTree → Bool
no_arguments (SchemeTree-F.Rel [] outs) = true
no_arguments _ = false

-- the first parameter
abbrev pub one_argument : SchemeTree-F SchemeTree → Bool
one_argument (SchemeTree-F.Rel (t ∷ []) outs) = is_var 0 (out-SchemeTree t)
one_argument _ = false

-- the first parameter, and a list of it
abbrev pub head_and_tail : SchemeTree-F SchemeTree → Bool
head_and_tail (SchemeTree-F.Rel (t ∷ u ∷ []) outs) = is_var 0 (out-SchemeTree t) && is_whole LIST 1 (out-SchemeTree u)
head_and_tail _ = false

abbrev pub are_arguments : Arguments → SchemeTree-F SchemeTree → Bool
are_arguments Nothing = no_arguments
are_arguments Parameter = one_argument
are_arguments HeadAndTail = head_and_tail

-- a name, a datatype and the arguments
abbrev pub KnownCon : Type 0
KnownCon = List ℕ × ℕ × Arguments

abbrev pub is_known_con : List (List ℕ) → KnownCon → ConDef → Bool
is_known_con names known d = is_name names known.0 d.name && (d.of == known.1) && are_arguments known.2 (out-SchemeTree d.scheme.body)

abbrev pub known_cons : List KnownCon
known_cons =
    (codes "nil", LIST, Nothing)
    ∷ (codes "::", LIST, HeadAndTail)
    ∷ (codes "false", BOOL, Nothing)
    ∷ (codes "true", BOOL, Nothing)
    ∷ (codes "NONE", OPTION, Nothing)
    ∷ (codes "SOME", OPTION, Parameter)
    ∷ []

-- no further constructor gives a built-in type or one of the prelude
abbrev pub is_further : ConDef → Bool
is_further d = nat_le (length known_types) d.of

unfoldable pub cons_begin : List (List ℕ) → List ConDef → Bool
cons_begin names cons = begins (is_known_con names) known_cons cons && list_all is_further (drop (length known_cons) cons)

-- ---- relations

-- the type that a word of the prelude's interface stands for
abbrev pub type_of : Word → SchemeTree
type_of Item = a
type_of ItemList = list a
type_of Integer = int
type_of Truth = bool

abbrev pub is_word : Word → SchemeTree-F SchemeTree → Bool
is_word Item = is_var 0
is_word ItemList = is_whole LIST 1
is_word Integer = is_constant INT
is_word Truth = is_constant BOOL

abbrev pub are_words : List Word → List SchemeTree → Bool
are_words [] [] = true
are_words [] (t ∷ ts) = false
are_words (w ∷ ws) [] = false
are_words (w ∷ ws) (t ∷ ts) = is_word w (out-SchemeTree t) && are_words ws ts

-- a name, how many variables its type has, and the words for its inputs and outputs
abbrev pub KnownRelation : Type 0
KnownRelation = List ℕ × ℕ × List Word × List Word

abbrev pub goes_by_words : List Word → List Word → SchemeTree-F SchemeTree → Bool
goes_by_words inputs outputs (SchemeTree-F.Rel ins outs) = are_words inputs ins && are_words outputs outs
goes_by_words inputs outputs _ = false

-- the declared type is there, has so many variables, and goes by these words
abbrev pub is_declared : ℕ → List Word → List Word → Option Scheme → Bool
is_declared vars inputs outputs None = false
is_declared vars inputs outputs (Some s) = (s.vars == vars) && goes_by_words inputs outputs (out-SchemeTree s.body)

abbrev pub is_known_relation : List (List ℕ) → KnownRelation → RelDef → Bool
is_known_relation names known r = in_prelude names r.«module» && is_name names known.0 r.name && is_declared known.1 known.2 known.3 r.scheme

-- the prelude's public relations, and its private one
abbrev pub known_relations : List KnownRelation
known_relations =
    (codes "bool_and", 0, Truth ∷ Truth ∷ [], Truth ∷ [])
    ∷ (codes "bool_or", 0, Truth ∷ Truth ∷ [], Truth ∷ [])
    ∷ (codes "bool_not", 0, Truth ∷ [], Truth ∷ [])
    ∷ (codes "list_append", 1, ItemList ∷ ItemList ∷ [], ItemList ∷ [])
    ∷ (codes "list_reverse", 1, ItemList ∷ [], ItemList ∷ [])
    ∷ (codes "list_length", 1, ItemList ∷ [], Integer ∷ [])
    ∷ (codes "list_member", 1, Item ∷ ItemList ∷ [], Truth ∷ [])
    ∷ (codes "list_nth", 1, ItemList ∷ Integer ∷ [], Item ∷ [])
    ∷ (codes "list_delete", 1, ItemList ∷ Integer ∷ [], ItemList ∷ [])
    ∷ (codes "list_turn", 1, ItemList ∷ ItemList ∷ [], ItemList ∷ [])
    ∷ []

unfoldable pub relations_begin : List (List ℕ) → List RelDef → Bool
relations_begin names rels = begins (is_known_relation names) known_relations rels

-- the declared type in the words of types: the law on the prelude's relations says that each has its own
abbrev pub HasType : KnownRelation → RelDef → Type 0
HasType known r = IsSomeAnd r.scheme (λ s. (s.vars ≡ known.1) × (s.body ≡ tree.Rel (map type_of known.2) (map type_of known.3)))
