-- What relations in clause form do.
use Rattle.std.specs.Prelude.{ℕ, suc, ◌==◌, if◌then◌else◌, List, [], ◌∷◌, length, Option, Some, None, slice_get}
use Rattle.rml_simulation.specs.declared.partial.Partial.{Partial}
use Rattle.rml_simulation.specs.declared.partial.Partial.TheVariants.{Yes, No, GoneWrong}
use Rattle.rml_simulation.specs.Partial.{untraced, take_step, then_go}
use Rattle.rml_simulation.specs.Calls.{calls_to, calls_by_steps}
use Rattle.rml_value.specs.declared.value.Value.{Value}
use Rattle.rml_builtin.specs.declared.applied.Answer.{Answer}
use Rattle.rml_builtin.specs.Called.{Called}
use Rattle.rml_terms.specs.Env.{Env, values_in}
use Rattle.rml_terms.specs.Calling.{RelationCalls}
use Rattle.rml_fol.specs.declared.parts.Relation.{Relation}
use Rattle.rml_fol.specs.Expressions.{Vals}
use Rattle.rml_fol.specs.Weights.{entry_weight}
use Rattle.rml_fol.specs.Statements.{Given, no_bodies, weighing, block}

-- the variables from x on, as many as there are values
abbrev pub bound_from : ℕ → List Value → Env
bound_from x [] = []
bound_from x (v ∷ vs) = record { var = x; value = v } ∷ bound_from (suc x) vs

-- the answer of a relation is a step: the values that its block gives
abbrev pub answered : Given → ℕ → Partial Answer
answered g n = take_step (λ m. Yes (record { values = values_in g.env; store = g.store }) untraced m) n

-- a relation, called with as many values as it has parameters
abbrev pub relation_does : Vals → RelationCalls → Relation → Called → ℕ → Partial Answer
relation_does vals calls r s n =
    if r.params == length s.values then weighing (entry_weight r.params) (then_go (block vals calls r.body.stmts no_bodies (bound_from 0 s.values) s.store n) answered)
    else GoneWrong untraced

-- a number that no relation has fails
abbrev pub does_if_there : Vals → RelationCalls → Option Relation → Called → ℕ → Partial Answer
does_if_there vals calls None s n = No untraced n
does_if_there vals calls (Some r) s n = relation_does vals calls r s n

-- what a relation does, over what the calls give
abbrev pub relation_body : Vals → List Relation → RelationCalls → RelationCalls
relation_body vals rels calls r s n = does_if_there vals calls (slice_get rels r) s n

-- what relations do where calls go so deep, and are cut beyond
abbrev pub relations_to : Vals → List Relation → ℕ → RelationCalls
relations_to vals rels depth = calls_to (relation_body vals rels) depth

-- what relations do, by the steps alone: each call takes one, so no call goes deeper than there are steps
abbrev pub relations : Vals → List Relation → RelationCalls
relations vals rels = calls_by_steps (relation_body vals rels)
