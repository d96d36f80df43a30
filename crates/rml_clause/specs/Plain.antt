-- The plain form of rules: one `or` with an alternative for each rule, in order. An alternative has the matches of the head, the premises
-- in order, the sets of the results and one `give`. A premise has the sets of its expressions, its own statement and the matches of its
-- patterns. An expression that is a variable has no set; a `let` has no statement of its own; goals in brackets are their premises in
-- order; and the block of a `not` is its goal in this form and `give()`. Which variables hold what is set and received is left open.
use Rattle.std.specs.Prelude.{◌≡◌, ℕ, suc, zero, ◌+◌, List, [], ◌∷◌, ◌++◌, slice_index_or}
use Rattle.rml_syntax.specs.declared.token.Lit.{Lit}
use Rattle.rml_syntax.specs.declared.token.Lit.TheVariants as lit
use Rattle.rml_resolved.specs.declared.trees.RPat.{RPat, fold-RPat}
use Rattle.rml_resolved.specs.declared.trees.RPat.TheOpen.{RPat-F}
use Rattle.rml_resolved.specs.declared.trees.RExp.{RExp, out-RExp, fold-RExp}
use Rattle.rml_resolved.specs.declared.trees.RExp.TheOpen.{RExp-F}
use Rattle.rml_resolved.specs.declared.trees.RExp.TheVariants as exp
use Rattle.rml_resolved.specs.declared.trees.RGoal.{RGoal}
use Rattle.rml_resolved.specs.declared.trees.RGoal.TheVariants as goal
use Rattle.rml_resolved.specs.declared.trees.Callee.TheVariants as called
use Rattle.rml_resolved.specs.declared.tables.RRule.{RRule}
use Rattle.rml_fol.specs.declared.terms.Literal.{Literal}
use Rattle.rml_fol.specs.declared.terms.Literal.TheVariants as literal
use Rattle.rml_fol.specs.declared.terms.Pattern.{Pattern}
use Rattle.rml_fol.specs.declared.terms.Pattern.TheVariants as pattern
use Rattle.rml_fol.specs.declared.terms.Expression.{Expression}
use Rattle.rml_fol.specs.declared.terms.Expression.TheVariants as expression
use Rattle.rml_fol.specs.declared.statements.Stmt.{Stmt}
use Rattle.rml_fol.specs.declared.statements.Stmt.TheVariants as stmt
use Rattle.rml_fol.specs.declared.statements.Callee.TheVariants as callee
use Rattle.rml_fol.specs.declared.statements.Alternative.{Alternative, out-Alternative}

-- ---- literals, patterns and expressions: the parameters are the first variables, and those of the rule come behind them

abbrev pub literal_of : List (List ℕ) → Lit → Literal
literal_of names (lit.Int n) = literal.Int n
literal_of names (lit.Char c) = literal.Char c
literal_of names (lit.Text k) = literal.Text (slice_index_or names k [])

abbrev pub pattern_at : List (List ℕ) → ℕ → RPat-F Pattern → Pattern
pattern_at names params RPat-F.Any = pattern.Any
pattern_at names params (RPat-F.Lit l) = pattern.Lit (literal_of names l)
pattern_at names params (RPat-F.Var x) = pattern.Var (params + x)
pattern_at names params (RPat-F.Con c ps) = pattern.Con c ps
pattern_at names params (RPat-F.Tuple ps) = pattern.Tuple ps
pattern_at names params (RPat-F.List ps) = pattern.List ps
pattern_at names params (RPat-F.Cons ps) = pattern.Cons ps
pattern_at names params (RPat-F.Bind x p) = pattern.Bind (params + x) p

abbrev pub pattern_of : List (List ℕ) → ℕ → RPat → Pattern
pattern_of names params = fold-RPat Pattern (pattern_at names params)

abbrev pub expression_at : List (List ℕ) → ℕ → RExp-F Expression → Expression
expression_at names params (RExp-F.Lit l) = expression.Lit (literal_of names l)
expression_at names params (RExp-F.Var x) = expression.Var (params + x)
expression_at names params (RExp-F.Val k) = expression.Val k
expression_at names params (RExp-F.Rel r) = expression.Rel r
expression_at names params (RExp-F.Con c es) = expression.Con c es
expression_at names params (RExp-F.Tuple es) = expression.Tuple es
expression_at names params (RExp-F.List es) = expression.List es
expression_at names params (RExp-F.Cons es) = expression.Cons es

abbrev pub expression_of : List (List ℕ) → ℕ → RExp → Expression
expression_of names params = fold-RExp Expression (expression_at names params)

abbrev pub IsNoVariableAt : {A : Type 0} → RExp-F A → Type 0
IsNoVariableAt (RExp-F.Var x) = ⊥
IsNoVariableAt _ = Unit {0}

-- ---- where the values of expressions are

-- an expression is in a variable: its own, or one that is set to it
pub data IsIn (names : List (List ℕ)) (params : ℕ) : RExp → ℕ → List Stmt → Type 0 where
  own : (x : ℕ) → IsIn names params (exp.Var x) (params + x) []
  set : (e : RExp) (y : ℕ) → IsNoVariableAt (out-RExp e) → IsIn names params e y (stmt.Set y (expression_of names params e) ∷ [])

-- and so are expressions in a row
pub data AreIn (names : List (List ℕ)) (params : ℕ) : List RExp → List ℕ → List Stmt → Type 0 where
  none : AreIn names params [] [] []
  more : (e : RExp) (es : List RExp) (y : ℕ) (ys : List ℕ) (first rest : List Stmt) → IsIn names params e y first → AreIn names params es ys rest
      → AreIn names params (e ∷ es) (y ∷ ys) (first ++ rest)

-- patterns against as many variables
pub data AreMatched (names : List (List ℕ)) (params : ℕ) : List RPat → List ℕ → List Stmt → Type 0 where
  none : AreMatched names params [] [] []
  more : (p : RPat) (ps : List RPat) (y : ℕ) (ys : List ℕ) (rest : List Stmt) → AreMatched names params ps ys rest
      → AreMatched names params (p ∷ ps) (y ∷ ys) (stmt.Match y (pattern_of names params p) ∷ rest)

-- ---- premises

mutual
  pub data IsPremise (names : List (List ℕ)) (params : ℕ) : RGoal → List Stmt → Type 0 where
    relation : (r : ℕ) (es : List RExp) (ps : List RPat) (xs ys : List ℕ) (sets matches : List Stmt) → AreIn names params es xs sets → AreMatched names params ps ys matches
        → IsPremise names params (goal.Call (called.Rel r) es ps) (sets ++ stmt.Call (callee.Rel r) xs ys ∷ matches)
    variable : (x : ℕ) (es : List RExp) (ps : List RPat) (xs ys : List ℕ) (sets matches : List Stmt) → AreIn names params es xs sets → AreMatched names params ps ys matches
        → IsPremise names params (goal.Call (called.Var x) es ps) (sets ++ stmt.Call (callee.Var (params + x)) xs ys ∷ matches)
    -- a val that is called is set first
    val : (k y : ℕ) (es : List RExp) (ps : List RPat) (xs ys : List ℕ) (sets matches : List Stmt) → AreIn names params es xs sets → AreMatched names params ps ys matches
        → IsPremise names params (goal.Call (called.Val k) es ps) (sets ++ stmt.Set y (expression.Val k) ∷ stmt.Call (callee.Var y) xs ys ∷ matches)
    built_in : (k : ℕ) (es : List RExp) (ps : List RPat) (xs ys : List ℕ) (sets matches : List Stmt) → AreIn names params es xs sets → AreMatched names params ps ys matches
        → IsPremise names params (goal.Call (called.Built k) es ps) (sets ++ stmt.Builtin k xs ys ∷ matches)
    equality : (a b : RExp) (x y : ℕ) (first second : List Stmt) → IsIn names params a x first → IsIn names params b y second
        → IsPremise names params (goal.Equal a b) (first ++ second ++ stmt.Equal x y ∷ [])
    binding : (p : RPat) (e : RExp) (y : ℕ) (first : List Stmt) → IsIn names params e y first
        → IsPremise names params (goal.Let p e) (first ++ stmt.Match y (pattern_of names params p) ∷ [])
    negation : (g : RGoal) (block : List Stmt) → IsPremise names params g block → IsPremise names params (goal.Not g) (stmt.Not (block ++ stmt.Give [] ∷ []) ∷ [])
    brackets : (gs : List RGoal) (block : List Stmt) → ArePremises names params gs block → IsPremise names params (goal.All gs) block

  pub data ArePremises (names : List (List ℕ)) (params : ℕ) : List RGoal → List Stmt → Type 0 where
    none : ArePremises names params [] []
    more : (g : RGoal) (gs : List RGoal) (first rest : List Stmt) → IsPremise names params g first → ArePremises names params gs rest → ArePremises names params (g ∷ gs) (first ++ rest)

-- ---- rules and relations

abbrev pub numbers_from : ℕ → ℕ → List ℕ
numbers_from x zero = []
numbers_from x (suc n) = x ∷ numbers_from (suc x) n

-- the block of a rule of a relation with so many parameters
pub record IsRule (names : List (List ℕ)) (params : ℕ) (r : RRule) (block : List Stmt) : Type 0 where
  pub head : List Stmt
  pub premises : List Stmt
  pub sets : List Stmt
  pub results : List ℕ
  pub matched : AreMatched names params r.inputs (numbers_from 0 params) head
  pub searched : ArePremises names params r.goals premises
  pub given : AreIn names params r.results results sets
  pub is : block ≡ head ++ premises ++ sets ++ stmt.Give results ∷ []

pub data AreRules (names : List (List ℕ)) (params : ℕ) : List RRule → List Alternative → Type 0 where
  none : AreRules names params [] []
  more : (r : RRule) (rs : List RRule) (a : Alternative) (rest : List Alternative) → IsRule names params r (out-Alternative a).block → AreRules names params rs rest
      → AreRules names params (r ∷ rs) (a ∷ rest)

-- a body in plain form
pub record IsPlain (names : List (List ℕ)) (params : ℕ) (rules : List RRule) (body : List Stmt) : Type 0 where
  pub alternatives : List Alternative
  pub each : AreRules names params rules alternatives
  pub is : body ≡ stmt.Or alternatives ∷ []
