-- What each statement does, a lemma a statement: a fold does not open by itself.
use Rattle.std.specs.Prelude.{◌≡◌, ℕ, List, map}
use Rattle.std.proofs.Common.{sym, ap, ◌∙◌}
use Rattle.rml_fol.specs.declared.terms.Expression.{Expression}
use Rattle.rml_fol.specs.declared.statements.Callee.{Callee}
use Rattle.rml_fol.specs.Expressions.{Vals}
use Rattle.rml_cps.specs.declared.statements.Continuation.{Continuation}
use Rattle.rml_cps.specs.declared.statements.Stmt.{Stmt, map-Stmt, roll-Stmt, fold-roll-Stmt}
use Rattle.rml_cps.specs.declared.statements.Stmt.TheVariants as stmt
use Rattle.rml_cps.specs.declared.statements.Stmt.TheVariants.{rolls-Set, rolls-Field, rolls-Builtin, rolls-Equal, rolls-Success, rolls-Failure, rolls-Body, rolls-Call, rolls-Answer, rolls-Fail, rolls-Goto, rolls-Switch}
use Rattle.rml_cps.specs.declared.statements.Stmt.TheOpen.{Stmt-F, Case-F}
use Rattle.rml_cps.specs.declared.statements.Case.{Case, roll-Case, fold-roll-Case}
use Rattle.rml_cps.specs.Statements.{RelationActs, Action, Choice, act, choice_at, action, choice, block}

module _ (vals : Vals) (calls : RelationActs) where
  opened : (y : Stmt-F Stmt Case) (x : Stmt) → roll-Stmt y ≡ x → action vals calls x ≡ act vals calls (map-Stmt Stmt Case Action Choice (action vals calls) (choice vals calls) y)
  opened y x e = ap (action vals calls) (sym e) ∙ fold-roll-Stmt Action Choice (act vals calls) (choice_at vals calls) y

  pub acts-Set : (x : ℕ) (e : Expression) → action vals calls (stmt.Set x e) ≡ act vals calls (Stmt-F.Set x e)
  acts-Set x e = opened (Stmt-F.Set x e) (stmt.Set x e) (rolls-Set x e)

  pub acts-Field : (x y i : ℕ) → action vals calls (stmt.Field x y i) ≡ act vals calls (Stmt-F.Field x y i)
  acts-Field x y i = opened (Stmt-F.Field x y i) (stmt.Field x y i) (rolls-Field x y i)

  pub acts-Builtin : (number : ℕ) (xs ys : List ℕ) (h : Continuation) → action vals calls (stmt.Builtin number xs ys h) ≡ act vals calls (Stmt-F.Builtin number xs ys h)
  acts-Builtin number xs ys h = opened (Stmt-F.Builtin number xs ys h) (stmt.Builtin number xs ys h) (rolls-Builtin number xs ys h)

  pub acts-Equal : (x y : ℕ) (h : Continuation) → action vals calls (stmt.Equal x y h) ≡ act vals calls (Stmt-F.Equal x y h)
  acts-Equal x y h = opened (Stmt-F.Equal x y h) (stmt.Equal x y h) (rolls-Equal x y h)

  pub acts-Success : (k : ℕ) (xs : List ℕ) (b : List Stmt) → action vals calls (stmt.Success k xs b) ≡ act vals calls (Stmt-F.Success k xs (map (action vals calls) b))
  acts-Success k xs b = opened (Stmt-F.Success k xs b) (stmt.Success k xs b) (rolls-Success k xs b)

  pub acts-Failure : (h : ℕ) (b : List Stmt) → action vals calls (stmt.Failure h b) ≡ act vals calls (Stmt-F.Failure h (map (action vals calls) b))
  acts-Failure h b = opened (Stmt-F.Failure h b) (stmt.Failure h b) (rolls-Failure h b)

  pub acts-Body : (j : ℕ) (xs : List ℕ) (h : ℕ) (b : List Stmt) → action vals calls (stmt.Body j xs h b) ≡ act vals calls (Stmt-F.Body j xs h (map (action vals calls) b))
  acts-Body j xs h b = opened (Stmt-F.Body j xs h b) (stmt.Body j xs h b) (rolls-Body j xs h b)

  pub acts-Call : (f : Callee) (xs : List ℕ) (k h : Continuation) → action vals calls (stmt.Call f xs k h) ≡ act vals calls (Stmt-F.Call f xs k h)
  acts-Call f xs k h = opened (Stmt-F.Call f xs k h) (stmt.Call f xs k h) (rolls-Call f xs k h)

  pub acts-Answer : (k : Continuation) (xs : List ℕ) → action vals calls (stmt.Answer k xs) ≡ act vals calls (Stmt-F.Answer k xs)
  acts-Answer k xs = opened (Stmt-F.Answer k xs) (stmt.Answer k xs) (rolls-Answer k xs)

  pub acts-Fail : (h : Continuation) → action vals calls (stmt.Fail h) ≡ act vals calls (Stmt-F.Fail h)
  acts-Fail h = opened (Stmt-F.Fail h) (stmt.Fail h) (rolls-Fail h)

  pub acts-Goto : (j : ℕ) (xs : List ℕ) (h : Continuation) → action vals calls (stmt.Goto j xs h) ≡ act vals calls (Stmt-F.Goto j xs h)
  acts-Goto j xs h = opened (Stmt-F.Goto j xs h) (stmt.Goto j xs h) (rolls-Goto j xs h)

  pub acts-Switch : (x : ℕ) (all : List Case) (b : List Stmt) → action vals calls (stmt.Switch x all b) ≡ act vals calls (Stmt-F.Switch x (map (choice vals calls) all) (map (action vals calls) b))
  acts-Switch x all b = opened (Stmt-F.Switch x all b) (stmt.Switch x all b) (rolls-Switch x all b)

  -- a case has its tag and its block
  pub acts-Case : (y : Case-F Stmt Case) → choice vals calls (roll-Case y) ≡ record { tag = y.tag; block = block vals calls y.block }
  acts-Case y = fold-roll-Case Action Choice (act vals calls) (choice_at vals calls) y
