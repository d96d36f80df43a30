-- What the pass says of a relation: the relation in clause form carries the one with rules. The search takes a step for each rule that is
-- begun, and clause form one for each failure that a further alternative takes, which is one fewer: so a relation has earned a step by its
-- end. Of `main` that step pays for the failure that the end of the run takes.
use Rattle.std.specs.Prelude.{◌≡◌, ℕ, List, Option, Some, None, slice_get}
use Rattle.rml_simulation.specs.declared.partial.Partial.{Partial}
use Rattle.rml_simulation.specs.Simulates.{Credit}
use Rattle.rml_simulation.specs.Moves.{more_steps}
use Rattle.rml_simulation.specs.Carries.{kept, CarriesCall}
use Rattle.rml_builtin.specs.declared.applied.Answer.{Answer}
use Rattle.rml_builtin.specs.Called.{Called}
use Rattle.rml_resolved.specs.declared.program.Program.{Program}
use Rattle.rml_resolved.specs.declared.tables.RelDef.{RelDef}
use Rattle.rml_resolved.specs.declared.tables.RRule.{RRule}
use Rattle.rml_search.specs.Context.{Context}
use Rattle.rml_terms.specs.Calling.{RelationCalls}
use Rattle.rml_search.specs.Search.{try}
use Rattle.rml_search.specs.Whole.{context_of}
use Rattle.rml_fol.specs.declared.parts.Parts.{Parts}
use Rattle.rml_fol.specs.declared.parts.Relation.{Relation}
use Rattle.rml_fol.specs.Expressions.{Vals, values_of_vals}
use Rattle.rml_fol.specs.Relations.{relation_does}

-- what a relation does by its rules, and what it does in clause form, over what calls give
abbrev pub by_rules : Context → List RRule → RelationCalls → Called → ℕ → Partial Answer
by_rules c rules calls s n = try c calls rules s n

abbrev pub by_clauses : Vals → Relation → RelationCalls → Called → ℕ → Partial Answer
by_clauses vals r calls s n = relation_does vals calls r s n

-- the relation in clause form carries the one with these rules, and has earned so much by its end
abbrev pub Carries : (Credit → Credit) → Context → Vals → List RRule → Relation → Type 0
Carries earned c vals rules r = CarriesCall earned (by_rules c rules) (by_clauses vals r)

-- relations of one number: each carries where there is one, and there is one in both or in neither
abbrev pub EachCarries : Context → Vals → Option RelDef → Option Relation → Type 0
EachCarries c vals None None = Unit {0}
EachCarries c vals (Some old) (Some new) = Carries kept c vals old.rules new
EachCarries c vals None (Some new) = ⊥
EachCarries c vals (Some old) None = ⊥

-- both are there, and the second has earned a step by its end
abbrev pub FirstCarries : Context → Vals → Option RelDef → Option Relation → Type 0
FirstCarries c vals (Some old) (Some new) = Carries (more_steps 1) c vals old.rules new
FirstCarries c vals None w = ⊥
FirstCarries c vals (Some old) None = ⊥

-- tables in clause form carry a program, relation by relation
pub record AreCarried (p : Program) (q : Parts) : Type 0 where
  pub main : q.main ≡ p.main
  pub each : (r : ℕ) → EachCarries (context_of p) (values_of_vals q.vals) (slice_get p.rels r) (slice_get q.rels r)
  pub first : FirstCarries (context_of p) (values_of_vals q.vals) (slice_get p.rels p.main) (slice_get q.rels p.main)
