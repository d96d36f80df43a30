-- Patterns and expressions as text: as rules write them, with variables by number, and constructors, vals and relations with their
-- modules.
use Rattle.std.specs.Prelude.{ℕ, zero, suc, Bool, true, false, ◌==◌, if◌then◌else◌, List, [], ◌∷◌, ◌++◌, map, Option, Some, None, slice_get, codes}
use Rattle.std.specs.List.{flat_map}
use Rattle.std.specs.Fmt.{decimal, signed_decimal}
use Rattle.rml_escapes.specs.Escapes.{quoted, character_text}
use Rattle.rml_value.specs.declared.value.TheConstants.{NIL, CONS}
use Rattle.rml_fol.specs.declared.shapes.Shape.{Shape}
use Rattle.rml_fol.specs.declared.shapes.Shape.TheVariants.{Chain, Binding, Other}
use Rattle.rml_fol.specs.declared.terms.Literal.{Literal}
use Rattle.rml_fol.specs.declared.terms.Literal.TheVariants as literal
use Rattle.rml_fol.specs.declared.terms.Pattern.{Pattern, fold-Pattern}
use Rattle.rml_fol.specs.declared.terms.Pattern.TheOpen.{Pattern-F}
use Rattle.rml_fol.specs.declared.terms.Expression.{Expression, fold-Expression}
use Rattle.rml_fol.specs.declared.terms.Expression.TheOpen.{Expression-F}
use Rattle.rml_fol.specs.declared.parts.Name.{Name}
use Rattle.rml_fol.specs.declared.parts.Constructor.{Constructor}
use Rattle.rml_fol.specs.declared.parts.Val.{Val}
use Rattle.rml_fol.specs.declared.parts.Relation.{Relation}
use Rattle.rml_fol.specs.declared.parts.Parts.{Parts}

-- ---- lists of items

-- with this between them
abbrev pub separated : List ℕ → List (List ℕ) → List ℕ
separated between [] = []
separated between (t ∷ ts) = t ++ flat_map (λ u. between ++ u) ts

-- what stands before the item of a number
unfoldable pub separator_before : List ℕ → ℕ → List ℕ
separator_before between zero = []
separator_before between (suc n) = between

-- in round brackets, with commas
abbrev pub bracketed : List (List ℕ) → List ℕ
bracketed ts = 40 ∷ separated (44 ∷ 32 ∷ []) ts ++ 41 ∷ []

-- in round brackets, where there is one
abbrev pub bracketed_if_any : List (List ℕ) → List ℕ
bracketed_if_any [] = []
bracketed_if_any (t ∷ ts) = bracketed (t ∷ ts)

-- ---- names

-- v and the number
abbrev pub variable_text : ℕ → List ℕ
variable_text x = 118 ∷ decimal x

abbrev pub variables_text : List ℕ → List ℕ
variables_text xs = bracketed (map variable_text xs)

-- MODULE.NAME
abbrev pub name_text : Name → List ℕ
name_text n = n.of ++ 46 ∷ n.name

-- nothing where the number has no name
abbrev pub constructor_name : Option Constructor → List ℕ
constructor_name None = []
constructor_name (Some c) = name_text c.name

-- `[]` and `::` stand for themselves
abbrev pub constructor_text : Parts → ℕ → List ℕ
constructor_text p c = if c == NIL then codes "[]" else if c == CONS then codes "::" else constructor_name (slice_get p.cons c)

abbrev pub val_name : Option Val → List ℕ
val_name None = []
val_name (Some v) = name_text v.name

abbrev pub val_text : Parts → ℕ → List ℕ
val_text p k = val_name (slice_get p.vals k)

abbrev pub relation_name : Option Relation → List ℕ
relation_name None = []
relation_name (Some r) = name_text r.name

abbrev pub relation_text : Parts → ℕ → List ℕ
relation_text p r = relation_name (slice_get p.rels r)

-- ---- patterns and expressions

abbrev pub literal_text : Literal → List ℕ
literal_text (literal.Int n) = signed_decimal n
literal_text (literal.Char c) = character_text c
literal_text (literal.Text bytes) = quoted bytes

abbrev pub pattern_shape_at : {A : Type 0} → Pattern-F A → Shape
pattern_shape_at (Pattern-F.Cons ps) = Chain
pattern_shape_at (Pattern-F.Bind x p) = Binding
pattern_shape_at _ = Other

abbrev pub expression_shape_at : {A : Type 0} → Expression-F A → Shape
expression_shape_at (Expression-F.Cons es) = Chain
expression_shape_at _ = Other

-- a term as text, and what it is as far as brackets go
pub record Written : Type 0 where
  pub shape : Shape
  pub text : List ℕ

-- an item of a `::` chain that is itself a chain or an `as` stands in brackets
abbrev pub item_in : Shape → List ℕ → List ℕ
item_in Chain t = 40 ∷ t ++ 41 ∷ []
item_in Binding t = 40 ∷ t ++ 41 ∷ []
item_in Other t = t

-- and so does an `as` directly under another
abbrev pub behind_as_in : Shape → List ℕ → List ℕ
behind_as_in Chain t = t
behind_as_in Binding t = 40 ∷ t ++ 41 ∷ []
behind_as_in Other t = t

abbrev pub item : Written → List ℕ
item w = item_in w.shape w.text

abbrev pub behind_as : Written → List ℕ
behind_as w = behind_as_in w.shape w.text

-- a term as an item of a chain, or where it stands by itself
abbrev pub seated : Bool → Written → List ℕ
seated true w = item w
seated false w = w.text

abbrev pub chain_text : List Written → List ℕ
chain_text ws = separated (codes " :: ") (map (seated true) ws)

abbrev pub tuple_text : List Written → List ℕ
tuple_text ws = bracketed (map (seated false) ws)

abbrev pub list_text : List Written → List ℕ
list_text ws = 91 ∷ separated (44 ∷ 32 ∷ []) (map (seated false) ws) ++ 93 ∷ []

-- a constructor, and its arguments in brackets where it has any
abbrev pub application_text : Parts → ℕ → List Written → List ℕ
application_text p c ws = constructor_text p c ++ bracketed_if_any (map (seated false) ws)

-- a variable with `as`
abbrev pub binding_text : ℕ → Written → List ℕ
binding_text x w = variable_text x ++ codes " as " ++ behind_as w

abbrev pub pattern_text_at : Parts → Pattern-F Written → List ℕ
pattern_text_at p Pattern-F.Any = codes "_"
pattern_text_at p (Pattern-F.Lit l) = literal_text l
pattern_text_at p (Pattern-F.Var x) = variable_text x
pattern_text_at p (Pattern-F.Con c ws) = application_text p c ws
pattern_text_at p (Pattern-F.Tuple ws) = tuple_text ws
pattern_text_at p (Pattern-F.List ws) = list_text ws
pattern_text_at p (Pattern-F.Cons ws) = chain_text ws
pattern_text_at p (Pattern-F.Bind x w) = binding_text x w

abbrev pub pattern_at : Parts → Pattern-F Written → Written
pattern_at p w = record { shape = pattern_shape_at w; text = pattern_text_at p w }

abbrev pub pattern_written : Parts → Pattern → Written
pattern_written p = fold-Pattern Written (pattern_at p)

abbrev pub expression_text_at : Parts → Expression-F Written → List ℕ
expression_text_at p (Expression-F.Lit l) = literal_text l
expression_text_at p (Expression-F.Var x) = variable_text x
expression_text_at p (Expression-F.Val k) = val_text p k
expression_text_at p (Expression-F.Rel r) = relation_text p r
expression_text_at p (Expression-F.Con c ws) = application_text p c ws
expression_text_at p (Expression-F.Tuple ws) = tuple_text ws
expression_text_at p (Expression-F.List ws) = list_text ws
expression_text_at p (Expression-F.Cons ws) = chain_text ws

abbrev pub expression_at : Parts → Expression-F Written → Written
expression_at p w = record { shape = expression_shape_at w; text = expression_text_at p w }

abbrev pub expression_written : Parts → Expression → Written
expression_written p = fold-Expression Written (expression_at p)

abbrev pub pattern_text : Parts → Pattern → List ℕ
pattern_text p t = (pattern_written p t).text

abbrev pub expression_text : Parts → Expression → List ℕ
expression_text p e = (expression_written p e).text
