use Rattle.std.proofs.Common.{◌≡◌, ◌++◌, ◌+◌, ◌*◌, ℕ, List, map, drop, option_map, sum_by}
use Rattle.rml_fol.specs.declared.parts.Val.{Val}
use Rattle.rml_fol.specs.Size.{nodes}
use Rattle.rml_fol.specs.Expressions.{value_of}
use Rattle.rml_terms.specs.Evaluating.{all_of, vals_to}
use Rattle.rml_fol_plain.specs.Given.{expressions_in}
use Rattle.rml_fol_plain.proofs.values.+values.Given as goal

abbrev pub invariant-values-loop-expression : goal.invariant-values-loop-expression
invariant-values-loop-expression l =
    all_of (map (value_of (vals_to value_of (expressions_in l.vals) l.depth)) l.expressions) l.env
    ≡ option_map (λ rest. l.all ++ rest) (all_of (map (value_of (vals_to value_of (expressions_in l.vals) l.depth)) (drop l.expression-index l.expressions)) l.env)

-- more than all that is done at one depth
abbrev room : List Val → ℕ
room vals = 2 * sum_by nodes (expressions_in vals) + 4

abbrev pub decreases-val : goal.decreases-val
decreases-val l = l.depth * room l.vals.now

abbrev pub decreases-val_by : goal.decreases-val_by
decreases-val_by l = l.depth * room l.vals.now + 2 * sum_by nodes (expressions_in l.vals.now) + 3

abbrev pub decreases-value : goal.decreases-value
decreases-value l = l.depth * room l.vals.now + 2 * nodes l.expression.now + 1

abbrev pub decreases-values : goal.decreases-values
decreases-values l = l.depth * room l.vals.now + 2 * sum_by nodes l.expressions.now + 2
