-- The values of expressions of rules. Evaluating never fails; None is no value, to which no expression of a program comes (see the
-- laws).
use Rattle.std.specs.Prelude.{ℕ, List, map, Option, Some, option_map, option_and_then, slice_get}
use Rattle.rml_syntax.specs.declared.token.Lit.{Lit}
use Rattle.rml_syntax.specs.declared.token.Lit.TheVariants as lit
use Rattle.rml_value.specs.declared.value.Value.{Value}
use Rattle.rml_value.specs.declared.value.Value.TheVariants as value
use Rattle.rml_value.specs.Lists.{list_of}
use Rattle.rml_terms.specs.Env.{Env, look}
use Rattle.rml_terms.specs.Evaluating.{Evaluation, Meanings, all_of, chain_of, vals_of}
use Rattle.rml_resolved.specs.declared.tables.ValDef.{ValDef}
use Rattle.rml_resolved.specs.declared.trees.RExp.{RExp, fold-RExp}
use Rattle.rml_resolved.specs.declared.trees.RExp.TheOpen.{RExp-F}
use Rattle.rml_search.specs.Context.{Context}

abbrev pub value_of_lit : List (List ℕ) → Lit → Option Value
value_of_lit names (lit.Int n) = Some (value.Int n)
value_of_lit names (lit.Char c) = Some (value.Char c)
value_of_lit names (lit.Text k) = option_map value.Text (slice_get names k)

abbrev pub value_at : List (List ℕ) → (ℕ → Option Value) → RExp-F Evaluation → Evaluation
value_at names vals (RExp-F.Lit l) env = value_of_lit names l
value_at names vals (RExp-F.Var x) env = look x env
value_at names vals (RExp-F.Val k) env = vals k
value_at names vals (RExp-F.Rel r) env = Some (value.Rel r)
value_at names vals (RExp-F.Con c es) env = option_map (value.Con c) (all_of es env)
value_at names vals (RExp-F.Tuple es) env = option_map value.Tuple (all_of es env)
value_at names vals (RExp-F.List es) env = option_map list_of (all_of es env)
value_at names vals (RExp-F.Cons es) env = option_and_then chain_of (all_of es env)

-- an expression, over what the vals are
abbrev pub meaning : List (List ℕ) → Meanings RExp
meaning names vals = fold-RExp Evaluation (value_at names vals)

-- a val is worth what its expression is
abbrev pub meaning_of_val : List (List ℕ) → Meanings ValDef
meaning_of_val names vals def = meaning names vals def.value

-- what the vals are, by their numbers
abbrev pub val_of : List (List ℕ) → List ValDef → ℕ → Option Value
val_of names vals = vals_of (meaning_of_val names) vals

-- ---- in a context

abbrev pub value_of : Context → RExp → Evaluation
value_of c = meaning c.names c.vals

abbrev pub values_of : Context → List RExp → Env → Option (List Value)
values_of c es env = all_of (map (value_of c) es) env
