-- Trees as the grammar makes them.
use Rattle.std.specs.Prelude.{ℕ, List, [], ◌∷◌, Option, Some, None}
use Rattle.rml_base.specs.declared.place.Place.{Place}
use Rattle.rml_syntax.specs.declared.rules.Long.{Long}
use Rattle.rml_syntax.specs.declared.rules.Exp.{Exp}
use Rattle.rml_syntax.specs.declared.rules.Exp.TheVariants as exp
use Rattle.rml_syntax.specs.declared.rules.Pattern.{Pattern}
use Rattle.rml_syntax.specs.declared.rules.Pattern.TheVariants as pat
use Rattle.rml_syntax.specs.declared.rules.Goal.{Goal}
use Rattle.rml_syntax.specs.declared.rules.Rule.{Rule}
use Rattle.rml_syntax.specs.declared.types.TypeExp.{TypeExp}
use Rattle.rml_syntax.specs.declared.types.TypeExp.TheVariants as type

-- a name alone, and one with the name of a module before it
abbrev pub short : ℕ × Place → Long
short n = record { «module» = None; name = n.0; place = n.1 }

abbrev pub within : ℕ × Place → ℕ → Long
within m n = record { «module» = Some m.0; name = n; place = m.1 }

-- a name with its arguments, or without
abbrev pub applied_exp : Long → Option (List Exp) → Exp
applied_exp l None = exp.Name l
applied_exp l (Some xs) = exp.App l xs

-- what brackets give: one expression is itself, more are a tuple
abbrev pub tuple_exp : List Exp → Exp
tuple_exp [] = exp.Tuple []
tuple_exp (x ∷ []) = x
tuple_exp (x ∷ y ∷ xs) = exp.Tuple (x ∷ y ∷ xs)

-- what a chain of `::` gives: one expression is itself
abbrev pub chain_exp : List Exp → Exp
chain_exp [] = exp.Cons []
chain_exp (x ∷ []) = x
chain_exp (x ∷ y ∷ xs) = exp.Cons (x ∷ y ∷ xs)

-- results: the items of a bare tuple, or one expression, whose chain goes on with ys
abbrev pub results_exp : List Exp → List Exp → List Exp
results_exp (x ∷ y ∷ xs) [] = x ∷ y ∷ xs
results_exp xs ys = chain_exp (tuple_exp xs ∷ ys) ∷ []

-- a name with its arguments, or without
abbrev pub applied_pat : Long → Option (List Pattern) → Pattern
applied_pat l None = pat.Name l
applied_pat l (Some xs) = pat.App l xs

-- what brackets give: one pattern is itself, more are a tuple
abbrev pub tuple_pat : List Pattern → Pattern
tuple_pat [] = pat.Tuple []
tuple_pat (x ∷ []) = x
tuple_pat (x ∷ y ∷ xs) = pat.Tuple (x ∷ y ∷ xs)

-- what a chain of `::` gives: one pattern is itself
abbrev pub chain_pat : List Pattern → Pattern
chain_pat [] = pat.Cons []
chain_pat (x ∷ []) = x
chain_pat (x ∷ y ∷ xs) = pat.Cons (x ∷ y ∷ xs)

-- the patterns of results: the items of a bare tuple, or one pattern, whose chain goes on with ys
abbrev pub results_pat : List Pattern → List Pattern → List Pattern
results_pat (x ∷ y ∷ xs) [] = x ∷ y ∷ xs
results_pat xs ys = chain_pat (tuple_pat xs ∷ ys) ∷ []

-- an absent list is the empty one
abbrev pub listed : {A : Type 0} → Option (List A) → List A
listed None = []
listed (Some xs) = xs

-- a type with names behind it, or without
abbrev pub named_type : TypeExp → List Long → TypeExp
named_type t [] = t
named_type t (l ∷ ls) = type.App (t ∷ []) (l ∷ ls)

-- factors: one type is itself
abbrev pub product_type : List TypeExp → TypeExp
product_type [] = type.Tuple []
product_type (x ∷ []) = x
product_type (x ∷ y ∷ xs) = type.Tuple (x ∷ y ∷ xs)

-- the head of a rule: the name and its place, the patterns and the results
abbrev pub Head : Type 0
Head = (ℕ × Place) × List Pattern × List Exp

-- the rule of these parts, which took so many tokens
abbrev pub rule_of : Place → List Goal → Head → ℕ → Rule
rule_of p gs h n = record { place = p; head = h.0.0; head_place = h.0.1; inputs = h.1; goals = gs; results = h.2; tokens = n }
