-- What the pass makes of a relation's rules is made of them: its variables, which are numbers in a row, are fresh.
use Rattle.std.proofs.Common.{ℕ, ◌+◌, ◌≤◌, List, [], ◌∷◌, sym, subst, arith}
use Rattle.rml_resolved.specs.declared.tables.RRule.{RRule}
use Rattle.rml_fol.specs.declared.statements.Alternative.{Alternative}
use Rattle.rml_fol.specs.declared.parts.Relation.{Relation}
use Rattle.rml_clause.specs.Fresh.{AreFresh, EachFresh}
use Rattle.rml_clause.specs.Clauses.{AreClauses, EachNumbered}
use Rattle.rml_clause.specs.Made.{IsClausesOf}
use Rattle.rml_clause.proofs.Adding.{numbers-fresh}

pub each-fresh : (params end : ℕ) (rules : List RRule) (all : List Alternative) → EachNumbered params end rules all → EachFresh params rules all
each-fresh params end [] all h = tt
each-fresh params end (r ∷ rules) [] h = absurd h
each-fresh params end (r ∷ rules) (a ∷ all) h =
    (subst (λ xs. AreFresh (params + r.vars) xs) (sym h.0.in_order) (numbers-fresh (params + r.vars) (params + r.vars) h.0.count (omega arith)), each-fresh params end rules all h.1)

pub made : (names : List (List ℕ)) (rules : List RRule) (r : Relation) (vars : ℕ) → AreClauses names r.params rules r.body.stmts vars → IsClausesOf names rules r
made names rules r vars h = record {
  plain = record { alternatives = h.alternatives; each = h.each; is = h.is };
  fresh = each-fresh r.params vars rules h.alternatives h.numbered;
}
