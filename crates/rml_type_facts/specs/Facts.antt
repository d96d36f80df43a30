-- What is asked of the types of a set: circles of abstypes (Circles), types that differ, and the types of `main`.
use Rattle.std.specs.Prelude.{◌≡◌, ◌⊎◌, ℕ, suc, Bool, true, false, ◌||◌, not, nat_eq, List, [], ◌∷◌, ◌++◌, filter, Option, None, Some, slice_get}
use Rattle.std.specs.Map.{keys_of, lookup}
use Rattle.std.specs.Option.{option_and_then, option_map}
use Rattle.rml_syntax.specs.declared.texts.Decl.{Decl}
use Rattle.rml_syntax.specs.declared.texts.Decl.TheVariants as decl
use Rattle.rml_syntax.specs.declared.texts.Text.{Text}
use Rattle.rml_syntax.specs.declared.types.Sig.{Sig}
use Rattle.rml_tables.specs.Words.{with_each}
use Rattle.rml_types.specs.Labels.{Label, labels}
use Rattle.rml_types.specs.declared.form.TypeCon.TheVariants as con
use Rattle.rml_types.specs.declared.tree.SchemeTree.{SchemeTree}
use Rattle.rml_types.specs.declared.tree.SchemeTree.TheVariants as tree
use Rattle.rml_outlines.specs.declared.known.Known.{Known}
use Rattle.rml_scopes.specs.declared.world.TypeFacts.{TypeFacts}
use Rattle.rml_type_facts.specs.Circles.{circular_in, edges, on_circle}
use Rattle.rml_signatures.specs.Places.{places_of}
use Rattle.rml_signatures.specs.Reading.{Context, context_of, sig_tree, type_tree}
use Rattle.rml_type_facts.specs.Same.{are_one, same_labels}
use Rattle.rml_signatures.specs.Types.{KnownTypes, context, fully, types_of}
use Rattle.rml_type_facts.specs.declared.differences.Half as declared
use Rattle.rml_signatures.specs.declared.places.Space.TheVariants as space

-- 10: the vals and relations of a text to which interface and body give types that differ, once these are written out and up to the names
-- of their variables

abbrev pub declared_type : Context → Decl → Option SchemeTree
declared_type c (decl.Datatype binds) = None
declared_type c (decl.Abbrev head t) = None
declared_type c (decl.Abstype head) = None
declared_type c (decl.Val name place t e) = option_map (type_tree c) t
declared_type c (decl.Relation name place sig rules) = option_map (sig_tree c) sig

-- a half of a text, with the places of its vals and relations
pub record Half : Type 0 where
  pub context : Context
  pub decls : List Decl
  pub places : List (ℕ × ℕ)

abbrev pub half : Context → List Decl → Half
half c decls = record { context = c; decls = decls; places = places_of space.Values decls }

abbrev pub half_of : declared.Half → Half
half_of h = record { context = context_of h.view; decls = h.decls.now; places = h.places }

-- the type that it gives a val or a relation
abbrev pub given_type : Half → ℕ → Option SchemeTree
given_type h name = option_and_then (λ place. option_and_then (declared_type h.context) (slice_get h.decls place)) (lookup (nat_eq name) h.places)

abbrev pub differ : (SchemeTree → SchemeTree) → Option SchemeTree → Option SchemeTree → Bool
differ write None b = false
differ write (Some a) None = false
differ write (Some a) (Some b) = not (are_one (write a) (write b))

abbrev pub is_different : (SchemeTree → SchemeTree) → Half → Half → ℕ → Bool
is_different write outer inner name = differ write (given_type outer name) (given_type inner name)

abbrev pub differing : (SchemeTree → SchemeTree) → Half → Half → List ℕ
differing write outer inner = with_each nat_eq [] (filter (is_different write outer inner) (keys_of inner.places))

abbrev pub different_in : KnownTypes → List Text → ℕ → Text → List ℕ
different_in w texts text t = differing (fully w texts (Some text)) (half (context w text false None) t.specs) (half (context w text true None) t.decls)

-- what is asked of the types of each text

abbrev pub facts_from : (ℕ → Bool) → KnownTypes → List Text → ℕ → List Text → List TypeFacts
facts_from test w texts text [] = []
facts_from test w texts text (t ∷ ts) =
    record { circular = circular_in test (slice_get w.numbers.texts text); different = different_in w texts text t } ∷ facts_from test w texts (suc text) ts

abbrev pub facts_by : KnownTypes → List Text → List TypeFacts
facts_by w texts = facts_from (on_circle (edges w texts)) w texts 0 texts

abbrev pub type_facts : Known → List Text → List TypeFacts
type_facts k texts = facts_by (types_of k texts) texts

-- 11: a program may begin with `string list => ()` and with `string list => int`; the built-in types have the first numbers

abbrev pub string_list : List Label
string_list = (con.Named 2, 0) ∷ (con.Named 3, 1) ∷ []

abbrev pub are_of_main : List Label → Bool
are_of_main ls = same_labels ls (string_list ++ (con.Rel 1, 1) ∷ []) || same_labels ls (string_list ++ (con.Named 0, 0) ∷ (con.Rel 1, 2) ∷ [])

abbrev pub is_main_type : SchemeTree → Bool
is_main_type t = are_of_main (labels t)

-- the same in words of types

abbrev pub lists : SchemeTree
lists = tree.Named 3 (tree.Named 2 [] ∷ [])

abbrev pub IsMainType : SchemeTree → Type 0
IsMainType t = (t ≡ tree.Rel (lists ∷ []) []) ⊎ (t ≡ tree.Rel (lists ∷ []) (tree.Named 0 [] ∷ []))

-- whether a signature in the interface of a text is such a type
abbrev pub fits_in : KnownTypes → (SchemeTree → SchemeTree) → ℕ → Sig → Bool
fits_in w write text sig = is_main_type (write (sig_tree (context w text false None) sig))

abbrev pub fits : Known → List Text → ℕ → Sig → Bool
fits k texts = fits_in (types_of k texts) (fully (types_of k texts) texts None)
