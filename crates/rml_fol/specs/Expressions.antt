-- What an expression of clause form is worth, and the cells of the blocks that it makes.
use Rattle.std.specs.Prelude.{ℕ, ◌+◌, ◌-◌, ◌*◌, List, [], ◌∷◌, map, length, sum, Option, Some, option_map, option_and_then}
use Rattle.rml_value.specs.declared.value.Value.{Value}
use Rattle.rml_value.specs.declared.value.Value.TheVariants as value
use Rattle.rml_value.specs.Lists.{list_of}
use Rattle.rml_terms.specs.Env.{look}
use Rattle.rml_terms.specs.Evaluating.{Evaluation, Meanings, all_of, chain_of, vals_of}
use Rattle.rml_fol.specs.declared.terms.Literal.{Literal}
use Rattle.rml_fol.specs.declared.terms.Literal.TheVariants as literal
use Rattle.rml_fol.specs.declared.terms.Expression.{Expression, fold-Expression}
use Rattle.rml_fol.specs.declared.terms.Expression.TheOpen.{Expression-F}
use Rattle.rml_fol.specs.declared.parts.Val.{Val}

abbrev pub literal_value : Literal → Value
literal_value (literal.Int n) = value.Int n
literal_value (literal.Char c) = value.Char c
literal_value (literal.Text bytes) = value.Text bytes

-- what the vals are, by their numbers
abbrev pub Vals : Type 0
Vals = ℕ → Option Value

abbrev pub value_at : Vals → Expression-F Evaluation → Evaluation
value_at vals (Expression-F.Lit l) env = Some (literal_value l)
value_at vals (Expression-F.Var x) env = look x env
value_at vals (Expression-F.Val k) env = vals k
value_at vals (Expression-F.Rel r) env = Some (value.Rel r)
value_at vals (Expression-F.Con c es) env = option_map (value.Con c) (all_of es env)
value_at vals (Expression-F.Tuple es) env = option_map value.Tuple (all_of es env)
value_at vals (Expression-F.List es) env = option_map list_of (all_of es env)
value_at vals (Expression-F.Cons es) env = option_and_then chain_of (all_of es env)

-- the value of an expression, over what the vals are; None is no value
abbrev pub value_of : Meanings Expression
value_of vals = fold-Expression Evaluation (value_at vals)

-- the values of vals
abbrev pub values_of_vals : List Val → Vals
values_of_vals vals = vals_of value_of (map (λ (v : Val). v.value) vals)

-- a block is a cell and one for each part; a constructor without arguments is none
abbrev pub con_cells : ℕ → List ℕ → ℕ
con_cells c [] = 0
con_cells c (n ∷ ns) = 1 + length (n ∷ ns) + sum (n ∷ ns)

abbrev pub cells_at : Expression-F ℕ → ℕ
cells_at (Expression-F.Lit l) = 0
cells_at (Expression-F.Var x) = 0
cells_at (Expression-F.Val k) = 0
cells_at (Expression-F.Rel r) = 0
cells_at (Expression-F.Con c ns) = con_cells c ns
cells_at (Expression-F.Tuple ns) = 1 + length ns + sum ns
cells_at (Expression-F.List ns) = 3 * length ns + sum ns
cells_at (Expression-F.Cons ns) = 3 * (length ns - 1) + sum ns

-- the cells of an expression's blocks
abbrev pub cells_of : Expression → ℕ
cells_of = fold-Expression ℕ cells_at
