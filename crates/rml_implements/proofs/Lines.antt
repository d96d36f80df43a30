-- Each line of a block does what its line of the meaning says, before what follows it.
use Rattle.std.proofs.Common.{◌≡◌, ℕ, List, ◌∷◌, map, Option, Some, None, refl, sym, ap, ◌∙◌}
use Rattle.rml_base.specs.Run.{Rest}
use Rattle.rml_simulation.specs.Simulates.{Credit, Simulates}
use Rattle.rml_simulation.proofs.Callers.{old_wrong}
use Rattle.rml_builtin.specs.Applied.{Store}
use Rattle.rml_terms.specs.Env.{Env, look}
use Rattle.rml_terms.specs.Evaluating.{Evaluation}
use Rattle.rml_fol.specs.declared.terms.Expression.{Expression, fold-roll-Expression}
use Rattle.rml_fol.specs.declared.terms.Expression.TheOpen.{Expression-F}
use Rattle.rml_fol.specs.declared.terms.Expression.TheVariants as expression
use Rattle.rml_fol.specs.declared.statements.Callee.{Callee}
use Rattle.rml_fol.specs.Expressions.{Vals, value_at, value_of}
use Rattle.rml_cps.specs.declared.statements.Continuation.{Continuation}
use Rattle.rml_cps.specs.declared.statements.Stmt.{Stmt}
use Rattle.rml_cps.specs.declared.statements.Stmt.TheVariants as stmt
use Rattle.rml_cps.specs.declared.statements.Stmt.TheOpen.{Stmt-F}
use Rattle.rml_cps.specs.Statements.{RelationActs, Scope, Action, with_known, act, action, block}
use Rattle.rml_cps.specs.Acts.{acts-Set, acts-Field, acts-Success, acts-Failure, acts-Body, acts-Call, acts-Answer, acts-Fail, acts-Goto}

-- goes on with what is there
pub known : {A : Type 0} → (i : ℕ) (c : Credit) (o : Option A) (go : A → Rest) (g : Rest) → ((a : A) → o ≡ Some a → Simulates i c (go a) g) → Simulates i c (with_known o go) g
known i c None go g u = old_wrong i c (with_known None go) g 0 refl
known i c (Some a) go g u = u a refl

pub variable-value : (vals : Vals) (x : ℕ) (env : Env) → value_of vals (expression.Var x) env ≡ look x env
variable-value vals x env = ap (λ e. value_of vals e env) (sym (expression.rolls-Var x)) ∙ ap (λ (w : Evaluation). w env) (fold-roll-Expression Evaluation (value_at vals) (Expression-F.Var x))

module _ (vals : Vals) (calls : RelationActs) (rest : List Stmt) (scope : Scope) (env : Env) (store : Store) (n : ℕ) where
  before : (s : Stmt) (a : Action) → action vals calls s ≡ a → block vals calls (s ∷ rest) scope env store n ≡ a (block vals calls rest) scope env store n
  before s a e = ap (λ (z : Action). z (block vals calls rest) scope env store n) e

  pub line-Set : (x : ℕ) (e : Expression) → block vals calls (stmt.Set x e ∷ rest) scope env store n ≡ act vals calls (Stmt-F.Set x e) (block vals calls rest) scope env store n
  line-Set x e = before (stmt.Set x e) (act vals calls (Stmt-F.Set x e)) (acts-Set vals calls x e)

  pub line-Field : (x y i : ℕ) → block vals calls (stmt.Field x y i ∷ rest) scope env store n ≡ act vals calls (Stmt-F.Field x y i) (block vals calls rest) scope env store n
  line-Field x y i = before (stmt.Field x y i) (act vals calls (Stmt-F.Field x y i)) (acts-Field vals calls x y i)

  pub line-Success : (k : ℕ) (xs : List ℕ) (b : List Stmt) → block vals calls (stmt.Success k xs b ∷ rest) scope env store n ≡ act vals calls (Stmt-F.Success k xs (map (action vals calls) b)) (block vals calls rest) scope env store n
  line-Success k xs b = before (stmt.Success k xs b) (act vals calls (Stmt-F.Success k xs (map (action vals calls) b))) (acts-Success vals calls k xs b)

  pub line-Failure : (h : ℕ) (b : List Stmt) → block vals calls (stmt.Failure h b ∷ rest) scope env store n ≡ act vals calls (Stmt-F.Failure h (map (action vals calls) b)) (block vals calls rest) scope env store n
  line-Failure h b = before (stmt.Failure h b) (act vals calls (Stmt-F.Failure h (map (action vals calls) b))) (acts-Failure vals calls h b)

  pub line-Body : (j : ℕ) (xs : List ℕ) (h : ℕ) (b : List Stmt) → block vals calls (stmt.Body j xs h b ∷ rest) scope env store n ≡ act vals calls (Stmt-F.Body j xs h (map (action vals calls) b)) (block vals calls rest) scope env store n
  line-Body j xs h b = before (stmt.Body j xs h b) (act vals calls (Stmt-F.Body j xs h (map (action vals calls) b))) (acts-Body vals calls j xs h b)

  pub line-Call : (f : Callee) (xs : List ℕ) (k h : Continuation) → block vals calls (stmt.Call f xs k h ∷ rest) scope env store n ≡ act vals calls (Stmt-F.Call f xs k h) (block vals calls rest) scope env store n
  line-Call f xs k h = before (stmt.Call f xs k h) (act vals calls (Stmt-F.Call f xs k h)) (acts-Call vals calls f xs k h)

  pub line-Answer : (k : Continuation) (xs : List ℕ) → block vals calls (stmt.Answer k xs ∷ rest) scope env store n ≡ act vals calls (Stmt-F.Answer k xs) (block vals calls rest) scope env store n
  line-Answer k xs = before (stmt.Answer k xs) (act vals calls (Stmt-F.Answer k xs)) (acts-Answer vals calls k xs)

  pub line-Fail : (h : Continuation) → block vals calls (stmt.Fail h ∷ rest) scope env store n ≡ act vals calls (Stmt-F.Fail h) (block vals calls rest) scope env store n
  line-Fail h = before (stmt.Fail h) (act vals calls (Stmt-F.Fail h)) (acts-Fail vals calls h)

  pub line-Goto : (j : ℕ) (xs : List ℕ) (h : Continuation) → block vals calls (stmt.Goto j xs h ∷ rest) scope env store n ≡ act vals calls (Stmt-F.Goto j xs h) (block vals calls rest) scope env store n
  line-Goto j xs h = before (stmt.Goto j xs h) (act vals calls (Stmt-F.Goto j xs h)) (acts-Goto vals calls j xs h)
