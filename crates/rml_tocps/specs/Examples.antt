-- A relation that begins with alternatives, and the one of continuation form that is made of it.
use Rattle.std.specs.Prelude.{List, [], ◌∷◌}
use Rattle.rml_fol.specs.declared.statements.Stmt.{Stmt as Clause}
use Rattle.rml_fol.specs.declared.statements.Stmt.TheVariants as clause_of
use Rattle.rml_fol.specs.declared.statements.Alternative.{Alternative, roll-Alternative}
use Rattle.rml_fol.specs.declared.parts.Name.{Name}
use Rattle.rml_fol.specs.declared.parts.Relation as clause_relation
use Rattle.rml_cps.specs.declared.statements.Continuation.TheVariants as continuation
use Rattle.rml_cps.specs.declared.statements.Stmt.{Stmt}
use Rattle.rml_cps.specs.declared.statements.Stmt.TheVariants as stmt
use Rattle.rml_cps.specs.declared.parts.Relation.{Relation}

-- gives what it is called with
abbrev pub gives_on : List Clause
gives_on = clause_of.Give (0 ∷ []) ∷ []

-- fails
abbrev pub fails_on : List Clause
fails_on = clause_of.Fail ∷ []

abbrev pub alternatives : List Alternative
alternatives = roll-Alternative (record { block = gives_on }) ∷ roll-Alternative (record { block = fails_on }) ∷ []

abbrev pub answers : List Stmt
answers = stmt.Answer continuation.Own (0 ∷ []) ∷ []

abbrev pub other : List Stmt
other = stmt.Fail continuation.Own ∷ []

-- `f(v0)`: `or`, `alt` `give(v0)`, `alt` `fail`
abbrev pub in_clauses : Name → clause_relation.Relation
in_clauses name = record { name = name; params = 1; results = 1; vars = 1; bodies = 0; tokens = 1; body = record { stmts = clause_of.Or alternatives ∷ [] } }

-- `f(v0 ; k, h)`: `failure h0`, `fail h`, and then `answer k(v0)`
abbrev pub in_continuations : Name → Relation
in_continuations name = record { name = name; params = 1; results = 1; vars = 1; names = 1; tokens = 1; body = record { stmts = stmt.Failure 0 other ∷ answers } }
