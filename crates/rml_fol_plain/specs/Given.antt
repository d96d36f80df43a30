-- What the plain run is given, in the words of the definition.
use Rattle.std.specs.Prelude.{ℕ, Bool, true, false, List, [], ◌∷◌, ◌++◌, map, Option, None, option_map, option_and_then}
use Rattle.rml_simulation.specs.declared.partial.Partial.TheVariants.{Yes, No}
use Rattle.rml_simulation.specs.declared.partial.Partial.{Partial}
use Rattle.rml_simulation.specs.Partial.{untraced, unless, either}
use Rattle.rml_value.specs.declared.value.Value.{Value}
use Rattle.rml_value.specs.declared.value.Value.TheOpen.{Value-F}
use Rattle.rml_builtin.specs.Applied.{Store}
use Rattle.rml_value.specs.Same.{same}
use Rattle.rml_terms.specs.Env.{Env, look}
use Rattle.rml_terms.specs.Calling.{RelationCalls, with_value}
use Rattle.rml_fol.specs.declared.terms.Expression.{Expression}
use Rattle.rml_fol.specs.declared.parts.Val.{Val}
use Rattle.rml_fol.specs.declared.statements.Stmt.{Stmt}
use Rattle.rml_fol.specs.declared.statements.Stmt.TheOpen.{Stmt-F}
use Rattle.rml_fol.specs.declared.statements.Alternative.{Alternative}
use Rattle.rml_fol.specs.declared.statements.Case.{Case, out-Case}
use Rattle.rml_fol.specs.Weights.{not_weight}
use Rattle.rml_fol.specs.Expressions.{Vals, values_of_vals}
use Rattle.rml_fol.specs.Statements.{Given, Bodies, Doing, Scoped, Action, Choice, is_of_kind, weighing, retried, in_order, chosen, switched, with_body, body_of, act, action, alternative, choice, block, no_bodies}
use Rattle.rml_fol.specs.Relations.{relations_to}
use Rattle.rml_fol_plain.specs.declared.state.Tables.{Tables}
use Rattle.rml_fol_plain.specs.declared.named.Named.{Named}

abbrev pub given : Env → Store → Given
given env store = record { env = env; store = store }

-- the expressions of vals
abbrev pub expressions_in : List Val → List Expression
expressions_in vals = map (λ (v : Val). v.value) vals

-- what the vals are
abbrev pub vals_in : Tables → Vals
vals_in t = values_of_vals t.vals.now

-- what relations do where calls go so deep, and are cut beyond
abbrev pub calls_in : Tables → ℕ → RelationCalls
calls_in t depth = relations_to (vals_in t) t.rels.now depth

-- nothing follows: what a statement does alone
abbrev pub ends : Scoped
ends bodies env store n = Yes (given env store) untraced n

-- what a statement does alone, where no body is named
abbrev pub does_alone : Vals → RelationCalls → Stmt-F Action Scoped Choice → Doing
does_alone vals calls s = act vals calls s ends no_bodies

-- of a statement that looks at no val and calls nothing
abbrev pub no_vals : Vals
no_vals k = None

abbrev pub no_calls : RelationCalls
no_calls r s n = No untraced n

-- whether two variables stand for one value
abbrev pub equal_in : ℕ → ℕ → Env → Option Bool
equal_in x y env = option_and_then (λ v. option_map (λ w. same v w) (look y env)) (look x env)

-- what a statement does alone, where these bodies are named
abbrev pub alone : Tables → ℕ → Stmt → Scoped
alone t depth s = action (vals_in t) (calls_in t depth) s ends

-- whether nothing may follow a statement in its block
abbrev pub is_last_at : {A B C : Type 0} → Stmt-F A B C → Bool
is_last_at (Stmt-F.Or all) = true
is_last_at (Stmt-F.Cond a b c) = true
is_last_at (Stmt-F.Switch x all b) = true
is_last_at (Stmt-F.Goto j xs) = true
is_last_at (Stmt-F.Give xs) = true
is_last_at Stmt-F.Fail = true
is_last_at _ = false

-- a block
abbrev pub block_in : Tables → ℕ → List Stmt → Scoped
block_in t depth stmts = block (vals_in t) (calls_in t depth) stmts

-- bodies that were named one after the other, each knowing those before it
abbrev pub known_from : Tables → ℕ → Bodies → List Named → Bodies
known_from t depth outer [] = outer
known_from t depth outer (b ∷ bs) = known_from t depth (with_body b.number (body_of b.vars.now (block_in t depth b.block.now) outer b.env) outer) bs

abbrev pub known : Tables → ℕ → List Named → Bodies
known t depth bs = known_from t depth no_bodies bs

-- ---- statements with blocks, over the blocks as they are written

abbrev pub not_alone : Tables → ℕ → List Stmt → Doing
not_alone t depth b env store n = weighing not_weight (unless (block_in t depth b no_bodies env store n) (retried (ends no_bodies env store)))

abbrev pub in_order_in : Tables → ℕ → List Alternative → Scoped
in_order_in t depth all = in_order (map (alternative (vals_in t) (calls_in t depth)) all)

abbrev pub cond_in : Tables → ℕ → List Stmt → List Stmt → List Stmt → Scoped
cond_in t depth a b c bodies env store n =
    either (block_in t depth a no_bodies env store n) (λ g. block_in t depth b bodies (env ++ g.env) g.store) (retried (block_in t depth c bodies env store))

abbrev pub chosen_in : Tables → ℕ → List Case → List Stmt → Value-F Value → Scoped
chosen_in t depth cases otherwise v = chosen (map (choice (vals_in t) (calls_in t depth)) cases) (block_in t depth otherwise) v

abbrev pub switched_in : Tables → ℕ → List Case → List Stmt → Value-F Value → Scoped
switched_in t depth cases otherwise v = switched (map (choice (vals_in t) (calls_in t depth)) cases) (block_in t depth otherwise) v

-- whether a value is of the kind that the first tag asks for
abbrev pub are_of_kind : List Case → Value-F Value → Bool
are_of_kind [] v = true
are_of_kind (k ∷ ks) v = is_of_kind (out-Case k).tag v

abbrev pub goto_in : Tables → ℕ → ℕ → List Value → Bodies → Store → ℕ → Partial Given
goto_in t depth j vs bodies store n = with_value (bodies j) (λ does. does vs store) n
