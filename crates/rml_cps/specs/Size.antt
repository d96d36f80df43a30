-- How large programs in continuation form are: what follows stays small by the tokens of the rules.
use Rattle.std.specs.Prelude.{ℕ, Bool, ◌&&◌, ◌+◌, ◌*◌, nat_lt, nat_le, List, sum, sum_by}
use Rattle.rml_fol.specs.declared.limits.TheConstants.{WEIGHT}
use Rattle.rml_fol.specs.declared.parts.Val.{Val}
use Rattle.rml_fol.specs.Size.{nodes}
use Rattle.rml_cps.specs.declared.limits.TheConstants.{PER_TOKEN}
use Rattle.rml_cps.specs.declared.statements.Stmt.{Stmt, fold-Stmt}
use Rattle.rml_cps.specs.declared.statements.Case.{Case, fold-Case}
use Rattle.rml_cps.specs.declared.statements.Stmt.TheOpen.{Stmt-F, Case-F}
use Rattle.rml_cps.specs.declared.parts.Relation.{Relation}
use Rattle.rml_cps.specs.declared.parts.Parts.{Parts}

abbrev pub size_at : Stmt-F ℕ ℕ → ℕ
size_at (Stmt-F.Success k xs block) = 1 + sum block
size_at (Stmt-F.Failure h block) = 1 + sum block
size_at (Stmt-F.Body j xs h block) = 1 + sum block
size_at (Stmt-F.Switch x cases otherwise) = 1 + sum cases + sum otherwise
size_at _ = 1

abbrev pub case_size_at : Case-F ℕ ℕ → ℕ
case_size_at k = 1 + sum k.block

-- the statements in a statement, itself included; a case counts as one
abbrev pub size : Stmt → ℕ
size = fold-Stmt ℕ ℕ size_at case_size_at

abbrev pub case_size : Case → ℕ
case_size = fold-Case ℕ ℕ size_at case_size_at

-- the statements, variables and names of a relation are at most `PER_TOKEN` for each token of its rules
abbrev pub relation_is_small : Relation → Bool
relation_is_small r = nat_le (sum_by size r.body.stmts) (PER_TOKEN * r.tokens) && nat_le r.vars (PER_TOKEN * r.tokens) && nat_le r.names (PER_TOKEN * r.tokens)

-- the tokens of all rules and the expressions of all vals
abbrev pub weight_of : List Val → List Relation → ℕ
weight_of vals rels = sum_by (λ (r : Relation). r.tokens) rels + sum_by (λ (v : Val). nodes v.value) vals

-- are at most what is kept as the weight, which is below `WEIGHT`; and no rule is longer
abbrev pub is_light : Parts → Bool
is_light p = nat_le (weight_of p.vals p.rels) p.weight && nat_le p.longest p.weight && nat_lt p.weight WEIGHT
