-- What relations in continuation form do.
use Rattle.std.specs.Prelude.{ℕ, ◌==◌, if◌then◌else◌, List, length, Option, Some, None, slice_get}
use Rattle.rml_base.specs.Run.{Rest, Wrong, bare, step, weigh}
use Rattle.rml_simulation.specs.Acts.{acts_to, acts_by_steps}
use Rattle.rml_builtin.specs.Called.{Called}
use Rattle.rml_fol.specs.Expressions.{Vals}
use Rattle.rml_fol.specs.Relations.{bound_from}
use Rattle.rml_cps.specs.declared.parts.Relation.{Relation}
use Rattle.rml_cps.specs.Weights.{entry_weight}
use Rattle.rml_cps.specs.Statements.{OnAnswer, RelationActs, own, block}

-- a relation, called with as many values as it has parameters
abbrev pub relation_does : Vals → RelationActs → Relation → OnAnswer → Rest → Called → Rest
relation_does vals calls r k h s n =
    if r.params == length s.values then weigh (entry_weight r.params) (block vals calls r.body.stmts (own k h) (bound_from 0 s.values) s.store n)
    else bare Wrong

-- a number that no relation has fails
abbrev pub does_if_there : Vals → RelationActs → Option Relation → OnAnswer → Rest → Called → Rest
does_if_there vals calls None k h s n = step h n
does_if_there vals calls (Some r) k h s n = relation_does vals calls r k h s n

-- what a relation does, over what the calls give
abbrev pub relation_body : Vals → List Relation → RelationActs → RelationActs
relation_body vals rels calls r k h s n = does_if_there vals calls (slice_get rels r) k h s n

-- what relations do where calls go so deep, and are cut beyond
abbrev pub relations_to : Vals → List Relation → ℕ → RelationActs
relations_to vals rels depth = acts_to (relation_body vals rels) depth

-- what relations do, by the steps alone: each call takes one, so no call goes deeper than there are steps
abbrev pub relations : Vals → List Relation → RelationActs
relations vals rels = acts_by_steps (relation_body vals rels)
