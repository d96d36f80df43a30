use Rattle.std.proofs.Common.{◌≡◌, ◌≤◌, ℕ, ◌+◌, ◌*◌, List, drop, length, sum_by}
use Rattle.rml_simulation.specs.Partial.{after}
use Rattle.rml_value.specs.declared.value.Value.{out-Value}
use Rattle.rml_fol.specs.declared.parts.Relation.{Relation}
use Rattle.rml_fol.specs.Size.{size, alternative_size, case_size}
use Rattle.rml_fol_plain.specs.Sizes.{stmts_size, bodies_size, relations_size}
use Rattle.rml_fol_plain.specs.Given.{known, block_in, in_order_in, chosen_in}
use Rattle.rml_fol_plain.proofs.blocks.+blocks.Given as goal

-- more than all that is done at one depth
abbrev room : List Relation → ℕ
room rels = 4 * relations_size rels + 9

abbrev pub decreases-call : goal.decreases-call
decreases-call l = l.depth * room l.tables.now.rels.now + 1

abbrev pub decreases-called : goal.decreases-called
decreases-called l = l.depth * room l.tables.now.rels.now + 2

abbrev pub decreases-by_relation : goal.decreases-by_relation
decreases-by_relation l = l.depth * room l.tables.now.rels.now

abbrev pub decreases-block : goal.decreases-block
decreases-block l = l.depth * room l.tables.now.rels.now + 4 * (stmts_size l.stmts.now + bodies_size l.bodies) + 4

abbrev pub decreases-statement : goal.decreases-statement
decreases-statement l = l.depth * room l.tables.now.rels.now + 4 * (size l.stmt.now + bodies_size l.bodies) + 3

abbrev pub decreases-not : goal.decreases-not
decreases-not l = l.depth * room l.tables.now.rels.now + 4 * stmts_size l.stmts.now + 5

abbrev pub decreases-in_order : goal.decreases-in_order
decreases-in_order l = l.depth * room l.tables.now.rels.now + 4 * (sum_by alternative_size l.alternatives.now + bodies_size l.bodies) + 5

abbrev pub decreases-cond : goal.decreases-cond
decreases-cond l = l.depth * room l.tables.now.rels.now + 4 * (stmts_size l.blocks.0.now + stmts_size l.blocks.1.now + stmts_size l.blocks.2.now + bodies_size l.bodies) + 5

abbrev pub decreases-switched : goal.decreases-switched
decreases-switched l = l.depth * room l.tables.now.rels.now + 4 * (sum_by case_size l.blocks.0.now + stmts_size l.blocks.1.now + bodies_size l.bodies) + 6

abbrev pub decreases-chosen : goal.decreases-chosen
decreases-chosen l = l.depth * room l.tables.now.rels.now + 4 * (sum_by case_size l.blocks.0.now + stmts_size l.blocks.1.now + bodies_size l.bodies) + 5

abbrev pub decreases-goto : goal.decreases-goto
decreases-goto l = l.depth * room l.tables.now.rels.now + 4 * bodies_size l.bodies + 5

abbrev pub invariant-block-loop-stmt : goal.invariant-block-loop-stmt
invariant-block-loop-stmt l =
    (block_in l.tables l.depth l.stmts (known l.tables l.depth l.fn.bodies) l.fn.env l.fn.store l.fn.n
    ≡ after l.trace (block_in l.tables l.depth (drop l.stmt-index l.stmts) (known l.tables l.depth l.bodies) l.env l.store l.left))
    × (stmts_size (drop l.stmt-index l.stmts) + bodies_size l.bodies ≤ stmts_size l.stmts + bodies_size l.fn.bodies)

abbrev pub invariant-in_order-loop-i : goal.invariant-in_order-loop-i
invariant-in_order-loop-i l =
    in_order_in l.tables l.depth l.alternatives (known l.tables l.depth l.fn.bodies) l.fn.env l.fn.store l.fn.n
    ≡ after l.trace (in_order_in l.tables l.depth (drop l.i l.alternatives) (known l.tables l.depth l.fn.bodies) l.fn.env l.fn.store l.left)

abbrev pub invariant-chosen-loop-case : goal.invariant-chosen-loop-case
invariant-chosen-loop-case l =
    (chosen_in l.tables l.depth l.cases l.otherwise (out-Value l.value) (known l.tables l.depth l.fn.bodies) l.env l.fn.store l.n
    ≡ chosen_in l.tables l.depth (drop l.case-index l.cases) l.otherwise (out-Value l.value) (known l.tables l.depth l.bodies) l.env l.store l.n)
    × (l.bodies ≡ l.fn.bodies)

abbrev pub decreases-goto-loop-named : goal.decreases-goto-loop-named
decreases-goto-loop-named l = length l.before

abbrev pub invariant-goto-loop-named : goal.invariant-goto-loop-named
invariant-goto-loop-named l =
    (known l.tables l.depth l.fn.bodies l.number ≡ known l.tables l.depth l.before l.number) × (l.store ≡ l.fn.store) × (bodies_size l.before ≤ bodies_size l.fn.bodies)
