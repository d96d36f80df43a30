-- What each statement does, a lemma a statement: a fold does not open by itself.
use Rattle.std.specs.Prelude.{◌≡◌, ℕ, List, map}
use Rattle.std.proofs.Common.{sym, ap, ◌∙◌}
use Rattle.rml_terms.specs.Calling.{RelationCalls}
use Rattle.rml_fol.specs.declared.terms.Pattern.{Pattern}
use Rattle.rml_fol.specs.declared.terms.Expression.{Expression}
use Rattle.rml_fol.specs.declared.statements.Callee.{Callee}
use Rattle.rml_fol.specs.declared.statements.Stmt.{Stmt, fold-roll-Stmt}
use Rattle.rml_fol.specs.declared.statements.Stmt.TheVariants as stmt
use Rattle.rml_fol.specs.declared.statements.Stmt.TheVariants.{rolls-Match, rolls-Set, rolls-Call, rolls-Builtin, rolls-Equal, rolls-Not, rolls-Or, rolls-Cond, rolls-Switch, rolls-Body, rolls-Goto, rolls-Give, rolls-Fail}
use Rattle.rml_fol.specs.declared.statements.Stmt.TheOpen.{Stmt-F, Alternative-F, Case-F}
use Rattle.rml_fol.specs.declared.statements.Alternative.{Alternative, roll-Alternative, fold-roll-Alternative}
use Rattle.rml_fol.specs.declared.statements.Case.{Case, roll-Case, fold-roll-Case}
use Rattle.rml_fol.specs.Expressions.{Vals}
use Rattle.rml_fol.specs.Statements.{Scoped, Action, Choice, act, alternative_at, choice_at, action, alternative, choice, block}

module _ (vals : Vals) (calls : RelationCalls) where
  pub acts-Match : (x : ℕ) (p : Pattern) → action vals calls (stmt.Match x p) ≡ act vals calls (Stmt-F.Match x p)
  acts-Match x p = ap (action vals calls) (sym (rolls-Match x p)) ∙ fold-roll-Stmt Action Scoped Choice (act vals calls) (alternative_at vals calls) (choice_at vals calls) (Stmt-F.Match x p)

  pub acts-Set : (x : ℕ) (e : Expression) → action vals calls (stmt.Set x e) ≡ act vals calls (Stmt-F.Set x e)
  acts-Set x e = ap (action vals calls) (sym (rolls-Set x e)) ∙ fold-roll-Stmt Action Scoped Choice (act vals calls) (alternative_at vals calls) (choice_at vals calls) (Stmt-F.Set x e)

  pub acts-Call : (f : Callee) (xs ys : List ℕ) → action vals calls (stmt.Call f xs ys) ≡ act vals calls (Stmt-F.Call f xs ys)
  acts-Call f xs ys = ap (action vals calls) (sym (rolls-Call f xs ys)) ∙ fold-roll-Stmt Action Scoped Choice (act vals calls) (alternative_at vals calls) (choice_at vals calls) (Stmt-F.Call f xs ys)

  pub acts-Builtin : (number : ℕ) (xs ys : List ℕ) → action vals calls (stmt.Builtin number xs ys) ≡ act vals calls (Stmt-F.Builtin number xs ys)
  acts-Builtin number xs ys = ap (action vals calls) (sym (rolls-Builtin number xs ys)) ∙ fold-roll-Stmt Action Scoped Choice (act vals calls) (alternative_at vals calls) (choice_at vals calls) (Stmt-F.Builtin number xs ys)

  pub acts-Equal : (x y : ℕ) → action vals calls (stmt.Equal x y) ≡ act vals calls (Stmt-F.Equal x y)
  acts-Equal x y = ap (action vals calls) (sym (rolls-Equal x y)) ∙ fold-roll-Stmt Action Scoped Choice (act vals calls) (alternative_at vals calls) (choice_at vals calls) (Stmt-F.Equal x y)

  pub acts-Not : (b : List Stmt) → action vals calls (stmt.Not b) ≡ act vals calls (Stmt-F.Not (map (action vals calls) b))
  acts-Not b = ap (action vals calls) (sym (rolls-Not b)) ∙ fold-roll-Stmt Action Scoped Choice (act vals calls) (alternative_at vals calls) (choice_at vals calls) (Stmt-F.Not b)

  pub acts-Or : (all : List Alternative) → action vals calls (stmt.Or all) ≡ act vals calls (Stmt-F.Or (map (alternative vals calls) all))
  acts-Or all = ap (action vals calls) (sym (rolls-Or all)) ∙ fold-roll-Stmt Action Scoped Choice (act vals calls) (alternative_at vals calls) (choice_at vals calls) (Stmt-F.Or all)

  pub acts-Cond : (a b c : List Stmt) → action vals calls (stmt.Cond a b c) ≡ act vals calls (Stmt-F.Cond (map (action vals calls) a) (map (action vals calls) b) (map (action vals calls) c))
  acts-Cond a b c = ap (action vals calls) (sym (rolls-Cond a b c)) ∙ fold-roll-Stmt Action Scoped Choice (act vals calls) (alternative_at vals calls) (choice_at vals calls) (Stmt-F.Cond a b c)

  pub acts-Switch : (x : ℕ) (all : List Case) (b : List Stmt) → action vals calls (stmt.Switch x all b) ≡ act vals calls (Stmt-F.Switch x (map (choice vals calls) all) (map (action vals calls) b))
  acts-Switch x all b = ap (action vals calls) (sym (rolls-Switch x all b)) ∙ fold-roll-Stmt Action Scoped Choice (act vals calls) (alternative_at vals calls) (choice_at vals calls) (Stmt-F.Switch x all b)

  pub acts-Body : (j : ℕ) (xs : List ℕ) (b : List Stmt) → action vals calls (stmt.Body j xs b) ≡ act vals calls (Stmt-F.Body j xs (map (action vals calls) b))
  acts-Body j xs b = ap (action vals calls) (sym (rolls-Body j xs b)) ∙ fold-roll-Stmt Action Scoped Choice (act vals calls) (alternative_at vals calls) (choice_at vals calls) (Stmt-F.Body j xs b)

  pub acts-Goto : (j : ℕ) (xs : List ℕ) → action vals calls (stmt.Goto j xs) ≡ act vals calls (Stmt-F.Goto j xs)
  acts-Goto j xs = ap (action vals calls) (sym (rolls-Goto j xs)) ∙ fold-roll-Stmt Action Scoped Choice (act vals calls) (alternative_at vals calls) (choice_at vals calls) (Stmt-F.Goto j xs)

  pub acts-Give : (xs : List ℕ) → action vals calls (stmt.Give xs) ≡ act vals calls (Stmt-F.Give xs)
  acts-Give xs = ap (action vals calls) (sym (rolls-Give xs)) ∙ fold-roll-Stmt Action Scoped Choice (act vals calls) (alternative_at vals calls) (choice_at vals calls) (Stmt-F.Give xs)

  pub acts-Fail : action vals calls stmt.Fail ≡ act vals calls Stmt-F.Fail
  acts-Fail = ap (action vals calls) (sym rolls-Fail) ∙ fold-roll-Stmt Action Scoped Choice (act vals calls) (alternative_at vals calls) (choice_at vals calls) Stmt-F.Fail

  -- an alternative is its block, and a case has its tag, its variables and its block
  pub acts-Alternative : (y : Alternative-F Stmt Alternative Case) → alternative vals calls (roll-Alternative y) ≡ block vals calls y.block
  acts-Alternative y = fold-roll-Alternative Action Scoped Choice (act vals calls) (alternative_at vals calls) (choice_at vals calls) y

  pub acts-Case : (y : Case-F Stmt Alternative Case) → choice vals calls (roll-Case y) ≡ record { tag = y.tag; vars = y.vars; block = block vals calls y.block }
  acts-Case y = fold-roll-Case Action Scoped Choice (act vals calls) (alternative_at vals calls) (choice_at vals calls) y
