-- How large programs in clause form are: what follows stays small by the tokens of the rules.
use Rattle.std.specs.Prelude.{ℕ, Bool, ◌&&◌, ◌+◌, ◌*◌, nat_lt, nat_le, List, sum, sum_by}
use Rattle.rml_fol.specs.declared.limits.TheConstants.{PER_TOKEN, WEIGHT}
use Rattle.rml_fol.specs.declared.terms.Pattern.{Pattern, fold-Pattern}
use Rattle.rml_fol.specs.declared.terms.Pattern.TheOpen.{Pattern-F}
use Rattle.rml_fol.specs.declared.terms.Expression.{Expression, fold-Expression}
use Rattle.rml_fol.specs.declared.terms.Expression.TheOpen.{Expression-F}
use Rattle.rml_fol.specs.declared.statements.Stmt.{Stmt, fold-Stmt}
use Rattle.rml_fol.specs.declared.statements.Alternative.{Alternative, fold-Alternative}
use Rattle.rml_fol.specs.declared.statements.Case.{Case, fold-Case}
use Rattle.rml_fol.specs.declared.statements.Stmt.TheOpen.{Stmt-F, Alternative-F, Case-F}
use Rattle.rml_fol.specs.declared.parts.Val.{Val}
use Rattle.rml_fol.specs.declared.parts.Relation.{Relation}
use Rattle.rml_fol.specs.declared.parts.Parts.{Parts}

abbrev pub nodes_at : Expression-F ℕ → ℕ
nodes_at (Expression-F.Con c ns) = 1 + sum ns
nodes_at (Expression-F.Tuple ns) = 1 + sum ns
nodes_at (Expression-F.List ns) = 1 + sum ns
nodes_at (Expression-F.Cons ns) = 1 + sum ns
nodes_at _ = 1

-- the expressions in an expression, itself included
abbrev pub nodes : Expression → ℕ
nodes = fold-Expression ℕ nodes_at

abbrev pub pattern_nodes_at : Pattern-F ℕ → ℕ
pattern_nodes_at (Pattern-F.Con c ns) = 1 + sum ns
pattern_nodes_at (Pattern-F.Tuple ns) = 1 + sum ns
pattern_nodes_at (Pattern-F.List ns) = 1 + sum ns
pattern_nodes_at (Pattern-F.Cons ns) = 1 + sum ns
pattern_nodes_at (Pattern-F.Bind x n) = 1 + n
pattern_nodes_at _ = 1

-- the patterns in a pattern, itself included
abbrev pub pattern_nodes : Pattern → ℕ
pattern_nodes = fold-Pattern ℕ pattern_nodes_at

abbrev pub size_at : Stmt-F ℕ ℕ ℕ → ℕ
size_at (Stmt-F.Match x p) = 1 + pattern_nodes p
size_at (Stmt-F.Not block) = 1 + sum block
size_at (Stmt-F.Or alternatives) = 1 + sum alternatives
size_at (Stmt-F.Cond first second third) = 1 + sum first + sum second + sum third
size_at (Stmt-F.Switch x cases otherwise) = 1 + sum cases + sum otherwise
size_at (Stmt-F.Body j xs block) = 1 + sum block
size_at _ = 1

abbrev pub alternative_size_at : Alternative-F ℕ ℕ ℕ → ℕ
alternative_size_at a = 1 + sum a.block

abbrev pub case_size_at : Case-F ℕ ℕ ℕ → ℕ
case_size_at k = 1 + sum k.block

-- the statements in a statement, itself included; an alternative and a case count as one, and so does each pattern in a `match`
abbrev pub size : Stmt → ℕ
size = fold-Stmt ℕ ℕ ℕ size_at alternative_size_at case_size_at

abbrev pub alternative_size : Alternative → ℕ
alternative_size = fold-Alternative ℕ ℕ ℕ size_at alternative_size_at case_size_at

abbrev pub case_size : Case → ℕ
case_size = fold-Case ℕ ℕ ℕ size_at alternative_size_at case_size_at

-- the statements with their patterns, the variables and the bodies of a relation are at most `PER_TOKEN` for each token of its rules
abbrev pub relation_is_small : Relation → Bool
relation_is_small r = nat_le (sum_by size r.body.stmts) (PER_TOKEN * r.tokens) && nat_le r.vars (PER_TOKEN * r.tokens) && nat_le r.bodies (PER_TOKEN * r.tokens)

-- the tokens of all rules and the expressions of all vals
abbrev pub weight_of : List Val → List Relation → ℕ
weight_of vals rels = sum_by (λ (r : Relation). r.tokens) rels + sum_by (λ (v : Val). nodes v.value) vals

-- are at most what is kept as the weight, which is below `WEIGHT`; and no rule is longer
abbrev pub is_light : Parts → Bool
is_light p = nat_le (weight_of p.vals p.rels) p.weight && nat_le p.longest p.weight && nat_lt p.weight WEIGHT
