-- What is used was bound or named before: each variable, and each body with as many variables as are handed on to it. What is bound or
-- named is new on its way. What is bound in an alternative, a case or a block is known to what follows in it alone; the first block of a
-- `cond` is on the way to the second, and is not on the way to the third.
use Rattle.std.specs.Prelude.{ℕ, Bool, true, false, ◌&&◌, ◌==◌, not, if◌then◌else◌, nat_lt, List, [], ◌∷◌, map, length, Option, Some, None, is_none}
use Rattle.std.specs.List.{list_all}
use Rattle.rml_fol.specs.declared.terms.Expression.{Expression, fold-Expression}
use Rattle.rml_fol.specs.declared.terms.Expression.TheOpen.{Expression-F}
use Rattle.rml_fol.specs.declared.statements.Callee.{Callee}
use Rattle.rml_fol.specs.declared.statements.Callee.TheVariants as callee
use Rattle.rml_fol.specs.declared.statements.Stmt.{Stmt, fold-Stmt}
use Rattle.rml_fol.specs.declared.statements.Stmt.TheOpen.{Stmt-F, Alternative-F, Case-F}
use Rattle.rml_fol.specs.declared.parts.Relation.{Relation}
use Rattle.rml_fol.specs.Fits.{every, is_just}
use Rattle.rml_fol.specs.Patterns.{bound}

-- ---- variables

-- whether a variable is bound
abbrev pub Known : Type 0
Known = ℕ → Bool

abbrev pub with_var : ℕ → Known → Known
with_var x known y = if y == x then true else known y

abbrev pub knows_at : Known → Expression-F Bool → Bool
knows_at known (Expression-F.Lit l) = true
knows_at known (Expression-F.Var x) = known x
knows_at known (Expression-F.Val k) = true
knows_at known (Expression-F.Rel r) = true
knows_at known (Expression-F.Con c es) = every es
knows_at known (Expression-F.Tuple es) = every es
knows_at known (Expression-F.List es) = every es
knows_at known (Expression-F.Cons es) = every es

-- whether all variables of an expression are bound
abbrev pub knows : Known → Expression → Bool
knows known = fold-Expression Bool (knows_at known)

abbrev pub knows_all : Known → List ℕ → Bool
knows_all known xs = list_all known xs

-- what a variable stands for, or a relation
abbrev pub knows_callee : Known → Callee → Bool
knows_callee known (callee.Rel r) = true
knows_callee known (callee.Var x) = known x

-- ---- statements

-- what may be used: variables, and bodies, each with how many values it is handed
pub record InScope : Type 0 where
  pub vars : Known
  pub bodies : ℕ → Option ℕ

-- whether what comes uses only what is in scope
abbrev pub Checked : Type 0
Checked = InScope → Bool

-- nothing comes
abbrev pub at_end : Checked
at_end s = true

-- variables that are new here are bound, and then comes what follows
abbrev pub binding : List ℕ → Checked → Checked
binding [] next s = next s
binding (x ∷ xs) next s = not (s.vars x) && binding xs next (record s { vars = with_var x s.vars })

abbrev pub with_body : ℕ → ℕ → InScope → InScope
with_body j values s = record s { bodies = λ i. if i == j then Some values else s.bodies i }

-- inside a `not` and the first block of a `cond` no body is known
abbrev pub without_bodies : InScope → InScope
without_bodies s = record s { bodies = λ j. None }

-- a block, by what comes after what it gives
abbrev pub Block : Type 0
Block = Checked → Checked

-- a statement: what comes after what its block gives, and what follows it in its block
abbrev pub Action : Type 0
Action = Checked → Checked → Checked

-- statements one after another
abbrev pub in_turn : List Action → Block
in_turn [] given s = true
in_turn (a ∷ rest) given s = a given (in_turn rest given) s

abbrev pub all_scoped : List Block → Block
all_scoped blocks given s = list_all (λ (b : Block). b given s) blocks

-- the second block of a `cond`, which knows the bodies that its `cond` knows
abbrev pub second_block : Block → Checked → InScope → Checked
second_block second given outer s = second given (record s { bodies = outer.bodies })

abbrev pub scoped_at : Stmt-F Action Block Block → Action
scoped_at (Stmt-F.Match x p) given next s = s.vars x && binding (bound p) next s
scoped_at (Stmt-F.Set x e) given next s = knows s.vars e && binding (x ∷ []) next s
scoped_at (Stmt-F.Call f xs ys) given next s = knows_callee s.vars f && knows_all s.vars xs && binding ys next s
scoped_at (Stmt-F.Builtin k xs ys) given next s = knows_all s.vars xs && binding ys next s
scoped_at (Stmt-F.Equal x y) given next s = s.vars x && s.vars y && next s
scoped_at (Stmt-F.Not block) given next s = in_turn block at_end (without_bodies s) && next s
scoped_at (Stmt-F.Or alternatives) given next s = all_scoped alternatives given s
scoped_at (Stmt-F.Cond first second third) given next s =
    in_turn first (second_block (in_turn second) given s) (without_bodies s) && in_turn third given s
scoped_at (Stmt-F.Switch x cases otherwise) given next s = s.vars x && all_scoped cases given s && in_turn otherwise given s
scoped_at (Stmt-F.Body j xs block) given next s = is_none (s.bodies j) && binding xs (in_turn block given) s && next (with_body j (length xs) s)
scoped_at (Stmt-F.Goto j xs) given next s = is_just (length xs) (s.bodies j) && knows_all s.vars xs
scoped_at (Stmt-F.Give xs) given next s = knows_all s.vars xs && given s
scoped_at Stmt-F.Fail given next s = true

abbrev pub alternative_scoped_at : Alternative-F Action Block Block → Block
alternative_scoped_at a = in_turn a.block

abbrev pub case_scoped_at : Case-F Action Block Block → Block
case_scoped_at k given = binding k.vars (in_turn k.block given)

abbrev pub scoped : Stmt → Action
scoped = fold-Stmt Action Block Block scoped_at alternative_scoped_at case_scoped_at

-- a relation begins with its parameters
abbrev pub at_beginning : ℕ → InScope
at_beginning params = record { vars = λ x. nat_lt x params; bodies = λ j. None }

abbrev pub relation_is_scoped : Relation → Bool
relation_is_scoped r = in_turn (map scoped r.body.stmts) at_end (at_beginning r.params)
