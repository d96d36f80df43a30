-- What is used was bound or named before, on each way there, and is used as it was named: a success is answered with as many values as it
-- receives, and a body is handed as many. What is bound is new there, and so is what is named: it does not stand for something already.
use Rattle.std.specs.Prelude.{ℕ, Bool, true, false, ◌&&◌, ◌==◌, if◌then◌else◌, not, nat_lt, List, [], ◌∷◌, map, length, Option, Some, None, is_none, slice_get}
use Rattle.std.specs.List.{list_all}
use Rattle.rml_fol.specs.declared.statements.Callee.{Callee}
use Rattle.rml_fol.specs.declared.statements.Callee.TheVariants as callee
use Rattle.rml_fol.specs.Fits.{Signatures, is_just, takes_and_gives}
use Rattle.rml_fol.specs.Scoped.{with_var as one_more, knows}
use Rattle.rml_cps.specs.declared.statements.Continuation.{Continuation}
use Rattle.rml_cps.specs.declared.statements.Continuation.TheVariants as continuation
use Rattle.rml_cps.specs.declared.statements.Stmt.{Stmt, fold-Stmt}
use Rattle.rml_cps.specs.declared.statements.Stmt.TheOpen.{Stmt-F, Case-F}
use Rattle.rml_cps.specs.declared.parts.Relation.{Relation}
use Rattle.rml_cps.specs.Statements.{is_named}

-- what may be used: variables; successes, each with how many values it is answered; failures; bodies, each with how many it is handed
pub record InScope : Type 0 where
  pub vars : ℕ → Bool
  pub successes : Continuation → Option ℕ
  pub failures : Continuation → Bool
  pub bodies : ℕ → Option ℕ

-- where a relation begins: its parameters, and what it was called with
abbrev pub own_success : ℕ → Continuation → Option ℕ
own_success results continuation.Own = Some results
own_success results (continuation.Named n) = None

abbrev pub own_failure : Continuation → Bool
own_failure continuation.Own = true
own_failure (continuation.Named n) = false

abbrev pub at_beginning : ℕ → ℕ → InScope
at_beginning params results = record { vars = λ x. nat_lt x params; successes = own_success results; failures = own_failure; bodies = λ j. None }

abbrev pub with_var : ℕ → InScope → InScope
with_var x s = record s { vars = one_more x s.vars }

abbrev pub with_success : ℕ → ℕ → InScope → InScope
with_success k values s = record s { successes = λ c. if is_named k c then Some values else s.successes c }

abbrev pub with_failure : ℕ → InScope → InScope
with_failure h s = record s { failures = λ c. if is_named h c then true else s.failures c }

abbrev pub with_body : ℕ → ℕ → InScope → InScope
with_body j values s = record s { bodies = λ i. if i == j then Some values else s.bodies i }

-- whether a block uses only what is in scope
abbrev pub Checked : Type 0
Checked = InScope → Bool

-- variables that are new here are bound, and then comes what follows
abbrev pub binds : List ℕ → Checked → Checked
binds [] next s = next s
binds (x ∷ xs) next s = not (s.vars x) && binds xs next (with_var x s)

abbrev pub all_known : List ℕ → InScope → Bool
all_known xs s = list_all s.vars xs

-- a relation that takes so many values and gives as many as are received; of what a variable stands for the run alone tells
abbrev pub call_fits : Signatures → InScope → ℕ → Callee → Option ℕ → Bool
call_fits n s taken f None = false
call_fits n s taken (callee.Rel r) (Some given) = takes_and_gives taken given (slice_get n.rels r)
call_fits n s taken (callee.Var x) (Some given) = s.vars x

-- statements one after another
abbrev pub in_turn : List (Checked → Checked) → Checked
in_turn [] s = true
in_turn (a ∷ rest) s = a (in_turn rest) s

abbrev pub scoped_at : Signatures → Stmt-F (Checked → Checked) Checked → Checked → Checked
scoped_at n (Stmt-F.Set x e) next s = knows s.vars e && binds (x ∷ []) next s
scoped_at n (Stmt-F.Field x y i) next s = s.vars y && binds (x ∷ []) next s
scoped_at n (Stmt-F.Builtin k xs ys h) next s = all_known xs s && s.failures h && binds ys next s
scoped_at n (Stmt-F.Equal x y h) next s = s.vars x && s.vars y && s.failures h && next s
scoped_at n (Stmt-F.Success k xs block) next s =
    is_none (s.successes (continuation.Named k)) && binds xs (in_turn block) s && next (with_success k (length xs) s)
scoped_at n (Stmt-F.Failure h block) next s = not (s.failures (continuation.Named h)) && in_turn block s && next (with_failure h s)
scoped_at n (Stmt-F.Body j xs h block) next s =
    is_none (s.bodies j) && not (s.failures (continuation.Named h)) && binds xs (in_turn block) (with_failure h s) && next (with_body j (length xs) s)
scoped_at n (Stmt-F.Call f xs k h) next s = call_fits n s (length xs) f (s.successes k) && all_known xs s && s.failures h
scoped_at n (Stmt-F.Answer k xs) next s = is_just (length xs) (s.successes k) && all_known xs s
scoped_at n (Stmt-F.Fail h) next s = s.failures h
scoped_at n (Stmt-F.Goto j xs h) next s = is_just (length xs) (s.bodies j) && all_known xs s && s.failures h
scoped_at n (Stmt-F.Switch x cases otherwise) next s = s.vars x && list_all (λ (c : Checked). c s) cases && in_turn otherwise s

abbrev pub case_scoped_at : Case-F (Checked → Checked) Checked → Checked
case_scoped_at k = in_turn k.block

-- a statement, before what follows it
abbrev pub scoped : Signatures → Stmt → Checked → Checked
scoped n = fold-Stmt (Checked → Checked) Checked (scoped_at n) case_scoped_at

abbrev pub relation_is_scoped : Signatures → Relation → Bool
relation_is_scoped n r = in_turn (map (scoped n) r.body.stmts) (at_beginning r.params r.results)
