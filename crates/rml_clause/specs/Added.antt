-- What is added to a block that is being made: statements of some form, whose own variables are the next ones, in the order of the text.
use Rattle.std.specs.Prelude.{◌≡◌, ℕ, ◌+◌, ◌≤◌, List, [], ◌∷◌, ◌++◌}
use Rattle.rml_resolved.specs.declared.trees.RPat.{RPat}
use Rattle.rml_fol.specs.declared.statements.Stmt.{Stmt}
use Rattle.rml_fol.specs.declared.statements.Stmt.TheVariants as stmt
use Rattle.rml_clause.specs.declared.pass.making.Making.{Making}
use Rattle.rml_clause.specs.Fresh.{fresh_in}
use Rattle.rml_clause.specs.Plain.{numbers_from, AreMatched}

-- of this form, with so many variables at most
pub record Adds (old new : Making) (most : ℕ) (Form : List Stmt → Type 0) : Type 0 where
  pub stmts : List Stmt
  pub count : ℕ
  pub form : Form stmts
  pub are_added : new.stmts ≡ old.stmts ++ stmts
  pub next : new.next ≡ old.next + count
  pub few : count ≤ most
  -- the variables that they set and receive are the next ones, each once, in the order of the text
  pub in_order : fresh_in stmts ≡ numbers_from old.next count

-- a call, whose results are received in some variables and matched
pub record Receives (names : List (List ℕ)) (params : ℕ) (calls : List ℕ → Stmt) (ps : List RPat) (stmts : List Stmt) : Type 0 where
  pub ys : List ℕ
  pub matches : List Stmt
  pub matched : AreMatched names params ps ys matches
  pub is : stmts ≡ calls ys ∷ matches

-- a `not`, whose block is of this form and then gives nothing
pub record Negates (Form : List Stmt → Type 0) (stmts : List Stmt) : Type 0 where
  pub block : List Stmt
  pub form : Form block
  pub is : stmts ≡ stmt.Not (block ++ stmt.Give [] ∷ []) ∷ []
