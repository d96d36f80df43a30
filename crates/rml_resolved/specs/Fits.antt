-- The numbers in a program lead into its tables, constructors have as many arguments as they are declared with, integers
-- are in range, characters are bytes, and a chain of `::` has at least two items.
use Rattle.std.specs.Prelude.{ℕ, Bool, true, false, ◌&&◌, ◌==◌, nat_lt, nat_le, List, map, length, Option, Some, None, slice_get}
use Rattle.std.specs.List.{list_all}
use Rattle.rml_syntax.specs.declared.token.Lit.{Lit}
use Rattle.rml_syntax.specs.declared.token.Lit.TheVariants as lit
use Rattle.rml_types.specs.Schemes.{every}
use Rattle.rml_value.specs.Range.{is_integer}
use Rattle.rml_builtin.specs.declared.row.TheConstants.{ROWS}
use Rattle.rml_resolved.specs.declared.parts.Counts.{Counts}
use Rattle.rml_resolved.specs.declared.tables.TypeDef.{TypeDef}
use Rattle.rml_resolved.specs.declared.tables.ConDef.{ConDef}
use Rattle.rml_resolved.specs.declared.tables.ValDef.{ValDef}
use Rattle.rml_resolved.specs.declared.tables.RelDef.{RelDef}
use Rattle.rml_resolved.specs.declared.tables.RRule.{RRule}
use Rattle.rml_resolved.specs.declared.trees.RPat.{RPat, fold-RPat}
use Rattle.rml_resolved.specs.declared.trees.RPat.TheOpen.{RPat-F}
use Rattle.rml_resolved.specs.declared.trees.RExp.{RExp, fold-RExp}
use Rattle.rml_resolved.specs.declared.trees.RExp.TheOpen.{RExp-F}
use Rattle.rml_resolved.specs.declared.trees.Callee.{Callee}
use Rattle.rml_resolved.specs.declared.trees.Callee.TheVariants as callee
use Rattle.rml_resolved.specs.declared.trees.RGoal.{RGoal, fold-RGoal}
use Rattle.rml_resolved.specs.declared.trees.RGoal.TheOpen.{RGoal-F}
use Rattle.rml_resolved.specs.Typing.{type_fits, scheme_fits}

abbrev pub lit_fits : Counts → Lit → Bool
lit_fits n (lit.Int i) = is_integer i
lit_fits n (lit.Char c) = nat_lt c 256
lit_fits n (lit.Text name) = nat_lt name n.names

abbrev pub has_arity : ℕ → Option ConDef → Bool
has_arity k None = false
has_arity k (Some d) = d.arity == k

-- a constructor that is there, with this many arguments
abbrev pub con_fits : List ConDef → ℕ → ℕ → Bool
con_fits cons c k = has_arity k (slice_get cons c)

abbrev pub pattern_at : Counts → List ConDef → ℕ → RPat-F Bool → Bool
pattern_at n cons vars RPat-F.Any = true
pattern_at n cons vars (RPat-F.Lit l) = lit_fits n l
pattern_at n cons vars (RPat-F.Var x) = nat_lt x vars
pattern_at n cons vars (RPat-F.Con c ps) = con_fits cons c (length ps) && every ps
pattern_at n cons vars (RPat-F.Tuple ps) = every ps
pattern_at n cons vars (RPat-F.List ps) = every ps
pattern_at n cons vars (RPat-F.Cons ps) = nat_le 2 (length ps) && every ps
pattern_at n cons vars (RPat-F.Bind x p) = nat_lt x vars && p

abbrev pub pattern_fits : Counts → List ConDef → ℕ → RPat → Bool
pattern_fits n cons vars = fold-RPat Bool (pattern_at n cons vars)

abbrev pub exp_at : Counts → List ConDef → ℕ → RExp-F Bool → Bool
exp_at n cons vars (RExp-F.Lit l) = lit_fits n l
exp_at n cons vars (RExp-F.Var x) = nat_lt x vars
exp_at n cons vars (RExp-F.Val v) = nat_lt v n.vals
exp_at n cons vars (RExp-F.Rel r) = nat_lt r n.rels
exp_at n cons vars (RExp-F.Con c es) = con_fits cons c (length es) && every es
exp_at n cons vars (RExp-F.Tuple es) = every es
exp_at n cons vars (RExp-F.List es) = every es
exp_at n cons vars (RExp-F.Cons es) = nat_le 2 (length es) && every es

abbrev pub exp_fits : Counts → List ConDef → ℕ → RExp → Bool
exp_fits n cons vars = fold-RExp Bool (exp_at n cons vars)

abbrev pub callee_fits : Counts → ℕ → Callee → Bool
callee_fits n vars (callee.Rel r) = nat_lt r n.rels
callee_fits n vars (callee.Built k) = nat_lt k (length ROWS)
callee_fits n vars (callee.Var x) = nat_lt x vars
callee_fits n vars (callee.Val v) = nat_lt v n.vals

abbrev pub exps_fit : Counts → List ConDef → ℕ → List RExp → Bool
exps_fit n cons vars es = every (map (exp_fits n cons vars) es)

abbrev pub patterns_fit : Counts → List ConDef → ℕ → List RPat → Bool
patterns_fit n cons vars ps = every (map (pattern_fits n cons vars) ps)

abbrev pub goal_fits_at : Counts → List ConDef → ℕ → RGoal-F Bool → Bool
goal_fits_at n cons vars (RGoal-F.Call f es ps) = callee_fits n vars f && exps_fit n cons vars es && patterns_fit n cons vars ps
goal_fits_at n cons vars (RGoal-F.Equal a b) = exp_fits n cons vars a && exp_fits n cons vars b
goal_fits_at n cons vars (RGoal-F.Let p e) = pattern_fits n cons vars p && exp_fits n cons vars e
goal_fits_at n cons vars (RGoal-F.Not g) = g
goal_fits_at n cons vars (RGoal-F.All gs) = every gs

abbrev pub goal_fits : Counts → List ConDef → ℕ → RGoal → Bool
goal_fits n cons vars = fold-RGoal Bool (goal_fits_at n cons vars)

abbrev pub goals_fit : Counts → List ConDef → ℕ → List RGoal → Bool
goals_fit n cons vars gs = every (map (goal_fits n cons vars) gs)

abbrev pub rule_fits : Counts → List ConDef → RRule → Bool
rule_fits n cons r = patterns_fit n cons r.vars r.inputs && goals_fit n cons r.vars r.goals && exps_fit n cons r.vars r.results

-- a relation has names, a relation type that fits where its type is declared, and at least one rule
abbrev pub relation_fits : Counts → List TypeDef → List ConDef → RelDef → Bool
relation_fits n types cons r =
    nat_lt r.«module» n.names && nat_lt r.name n.names && scheme_fits types r.scheme && nat_lt 0 (length r.rules) && list_all (rule_fits n cons) r.rules

-- a val has names and a type that fits, and its expression has no variable
abbrev pub val_fits : Counts → List TypeDef → List ConDef → ValDef → Bool
val_fits n types cons v = nat_lt v.«module» n.names && nat_lt v.name n.names && type_fits types v.scheme.body && exp_fits n cons 0 v.value

abbrev pub counts_of : List (List ℕ) → List ValDef → List RelDef → Counts
counts_of names vals rels = record { names = length names; vals = length vals; rels = length rels }
