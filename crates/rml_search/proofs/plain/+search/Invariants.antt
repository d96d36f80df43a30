use Rattle.std.proofs.Common.{◌≡◌, ℕ, ◌+◌, ◌*◌, List, drop, sum_by}
use Rattle.rml_simulation.specs.Partial.{after}
use Rattle.rml_resolved.specs.declared.tables.RelDef.{RelDef}
use Rattle.rml_resolved.specs.Size.{goal_size}
use Rattle.rml_search.specs.Size.{relations_size}
use Rattle.rml_search.specs.Given.{context_in, relations_in}
use Rattle.rml_search.specs.Search.{going_all, try}
use Rattle.rml_search.proofs.plain.+search.Given as goal

-- more than all that is done at one depth
abbrev room : List RelDef → ℕ
room rels = 2 * relations_size rels + 9

abbrev pub decreases-by_relation : goal.decreases-by_relation
decreases-by_relation l = l.depth * room l.tables.now.rels.now

abbrev pub decreases-by_rules : goal.decreases-by_rules
decreases-by_rules l = l.depth * room l.tables.now.rels.now + 2 * relations_size l.tables.now.rels.now + 8

abbrev pub decreases-by_rule : goal.decreases-by_rule
decreases-by_rule l = l.depth * room l.tables.now.rels.now + 2 * relations_size l.tables.now.rels.now + 7

abbrev pub decreases-after_head : goal.decreases-after_head
decreases-after_head l = l.depth * room l.tables.now.rels.now + 2 * relations_size l.tables.now.rels.now + 6

abbrev pub decreases-go_all : goal.decreases-go_all
decreases-go_all l = l.depth * room l.tables.now.rels.now + 2 * sum_by goal_size l.goals.now + 5

abbrev pub decreases-go : goal.decreases-go
decreases-go l = l.depth * room l.tables.now.rels.now + 2 * goal_size l.goal.now + 4

abbrev pub decreases-called : goal.decreases-called
decreases-called l = l.depth * room l.tables.now.rels.now + 3

abbrev pub decreases-called_at : goal.decreases-called_at
decreases-called_at l = l.depth * room l.tables.now.rels.now + 2

abbrev pub decreases-call : goal.decreases-call
decreases-call l = l.depth * room l.tables.now.rels.now + 1

abbrev pub invariant-by_rules-loop-rule : goal.invariant-by_rules-loop-rule
invariant-by_rules-loop-rule l =
    try (context_in l.tables) (relations_in l.tables l.depth) l.rules (record { values = l.args; store = l.store }) l.fn.n
    ≡ after l.trace (try (context_in l.tables) (relations_in l.tables l.depth) (drop l.rule-index l.rules) (record { values = l.args; store = l.store }) l.left)

abbrev pub invariant-go_all-loop-goal : goal.invariant-go_all-loop-goal
invariant-go_all-loop-goal l =
    going_all (context_in l.tables) (relations_in l.tables l.depth) l.goals l.fn.env l.fn.store l.fn.n
    ≡ after l.trace (going_all (context_in l.tables) (relations_in l.tables l.depth) (drop l.goal-index l.goals) l.env l.store l.left)
