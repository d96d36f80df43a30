-- The clauses of a relation: the plain form of its rules, and what its variables are. The parameters are the first variables; in the
-- alternative of a rule its own stand behind them, and behind those the ones that are set and received, in the order of the text. Each rule
-- has these numbers for itself.
use Rattle.std.specs.Prelude.{◌≡◌, ℕ, ◌+◌, ◌≤◌, ◌<◌, ◌^◌, List, [], ◌∷◌}
use Rattle.rml_resolved.specs.declared.tables.RRule.{RRule}
use Rattle.rml_resolved.specs.Size.{rule_size}
use Rattle.rml_fol.specs.declared.statements.Stmt.{Stmt}
use Rattle.rml_fol.specs.declared.statements.Stmt.TheVariants as stmt
use Rattle.rml_fol.specs.declared.statements.Alternative.{Alternative, out-Alternative}
use Rattle.rml_clause.specs.declared.pass.making.Making.{Making}
use Rattle.rml_clause.specs.Fresh.{fresh_in}
use Rattle.rml_clause.specs.Plain.{numbers_from, IsRule, AreRules}

-- a block sets and receives `from` and the numbers behind it, so many as its rule has parts at most, in the order of its text; they are
-- below `end`
pub record IsNumbered (from most end : ℕ) (block : List Stmt) : Type 0 where
  pub count : ℕ
  pub in_order : fresh_in block ≡ numbers_from from count
  pub few : count ≤ most
  pub below : from + count ≤ end

-- the block of a rule
pub record IsBlock (names : List (List ℕ)) (params : ℕ) (r : RRule) (m : Making) : Type 0 where
  pub rule : IsRule names params r m.stmts
  pub numbered : IsNumbered (params + r.vars) (rule_size r) m.next m.stmts
  -- and it needs no more numbers
  pub few : m.next ≤ params + r.vars + rule_size r

-- the alternatives of rules
abbrev pub EachNumbered : ℕ → ℕ → List RRule → List Alternative → Type 0
EachNumbered params end [] [] = Unit {0}
EachNumbered params end [] (a ∷ alternatives) = ⊥
EachNumbered params end (r ∷ rules) [] = ⊥
EachNumbered params end (r ∷ rules) (a ∷ alternatives) = IsNumbered (params + r.vars) (rule_size r) end (out-Alternative a).block × EachNumbered params end rules alternatives

-- so many numbers are enough for the variables of each rule: the parameters, its own, and one for each of its parts
abbrev pub AreEnough : ℕ → ℕ → List RRule → Type 0
AreEnough params most [] = Unit {0}
AreEnough params most (r ∷ rules) = (params + r.vars + rule_size r ≤ most) × AreEnough params most rules

-- a body in plain form, whose variables are numbers below `vars`
pub record AreClauses (names : List (List ℕ)) (params : ℕ) (rules : List RRule) (body : List Stmt) (vars : ℕ) : Type 0 where
  pub alternatives : List Alternative
  pub each : AreRules names params rules alternatives
  pub is : body ≡ stmt.Or alternatives ∷ []
  pub numbered : EachNumbered params vars rules alternatives
  pub params_below : params ≤ vars
  -- which is no more than what is enough
  pub few : (most : ℕ) → params ≤ most → AreEnough params most rules → vars ≤ most

-- there are numbers enough for the variables of each rule
abbrev pub HasRoom : ℕ → RRule → Type 0
HasRoom params r = params + r.vars + rule_size r < 2 ^ 32
