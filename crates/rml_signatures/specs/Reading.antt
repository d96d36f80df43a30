-- Types of texts as trees over numbers.
use Rattle.std.specs.Prelude.{ℕ, ◌+◌, Bool, true, nat_eq, List, [], ◌∷◌, length, Option, None, Some, if◌then◌else◌, slice_get}
use Rattle.std.specs.Option.{option_copied, option_flatten, option_map_or}
use Rattle.rml_syntax.specs.declared.rules.Long.{Long}
use Rattle.rml_syntax.specs.declared.types.Sig.{Sig, fold-Sig}
use Rattle.rml_syntax.specs.declared.types.TypeExp.{TypeExp, fold-TypeExp}
use Rattle.rml_syntax.specs.declared.types.TypeExp.TheOpen.{TypeExp-F, Sig-F}
use Rattle.rml_tables.specs.Words.{place_of}
use Rattle.rml_outlines.specs.declared.known.Known.{Known}
use Rattle.rml_types.specs.declared.tree.SchemeTree.{SchemeTree}
use Rattle.rml_types.specs.declared.tree.SchemeTree.TheVariants as tree
use Rattle.rml_signatures.specs.Numbers.{capped, number_of}
use Rattle.rml_signatures.specs.declared.numbers.Numbers.{Numbers}
use Rattle.rml_signatures.specs.declared.reading.View.{View}

-- where a type is read: in a half of a text, by what its names mean there
pub record Context : Type 0 where
  pub known : Known
  pub numbers : Numbers
  -- of each type that stands for another, how many parameters it has
  pub params : List (Option ℕ)
  pub text : ℕ
  pub in_body : Bool
  -- the type variables that have numbers; where any may stand, each has its own name as number
  pub vars : Option (List ℕ)

abbrev pub context_of : View → Context
context_of v = record { known = v.known.now; numbers = v.numbers.now; params = v.params.now; text = v.text; in_body = v.in_body; vars = option_copied v.vars }

abbrev pub variable_by : Option (List ℕ) → ℕ → ℕ
variable_by None name = name
variable_by (Some vars) name = capped (0 + place_of nat_eq name vars)

-- a type that stands for another, with a wrong number of arguments, is left as it stands: it has a number of its own
abbrev pub counted : Context → ℕ → ℕ → ℕ
counted c n count = if option_map_or (λ params. nat_eq params count) (option_flatten (slice_get c.params n)) true then n else capped (c.numbers.count + n)

-- A name that means no type equals its own spelling alone: it has a number by its name, behind all others. Behind a module it is that of the
-- module over a tuple of one, which no type of a text is.

abbrev pub spelled : Context → ℕ → ℕ
spelled c name = capped (capped (c.numbers.count + c.numbers.count) + name)

abbrev pub unknown : Context → List SchemeTree → ℕ → Option ℕ → SchemeTree
unknown c ts name None = tree.Named (spelled c name) ts
unknown c ts name (Some m) = tree.Named (spelled c m) (tree.Tuple (tree.Named (spelled c name) ts ∷ []) ∷ [])

abbrev pub named_by : Context → List SchemeTree → Long → Option ℕ → SchemeTree
named_by c ts l (Some n) = tree.Named (counted c n (length ts)) ts
named_by c ts l None = unknown c ts l.name l.«module»

-- the type that a name makes of some others
unfoldable pub named : Context → List SchemeTree → Long → SchemeTree
named c ts l = named_by c ts l (number_of c.known c.numbers c.text c.in_body l)

abbrev pub later : Context → SchemeTree → List Long → SchemeTree
later c t [] = t
later c t (l ∷ ls) = later c (named c (t ∷ []) l) ls

abbrev pub applied : Context → List SchemeTree → List Long → SchemeTree
applied c ts [] = tree.Tuple ts
applied c ts (l ∷ ls) = later c (named c ts l) ls

abbrev pub type_at : Context → TypeExp-F SchemeTree SchemeTree → SchemeTree
type_at c (TypeExp-F.Var name place) = tree.Var (variable_by c.vars name)
type_at c (TypeExp-F.App ts names) = applied c ts names
type_at c (TypeExp-F.Tuple ts) = tree.Tuple ts
type_at c (TypeExp-F.Rel sig) = sig

abbrev pub sig_at : Context → Sig-F SchemeTree SchemeTree → SchemeTree
sig_at c s = tree.Rel s.inputs s.outputs

abbrev pub type_tree : Context → TypeExp → SchemeTree
type_tree c = fold-TypeExp SchemeTree SchemeTree (type_at c) (sig_at c)

abbrev pub sig_tree : Context → Sig → SchemeTree
sig_tree c = fold-Sig SchemeTree SchemeTree (type_at c) (sig_at c)
