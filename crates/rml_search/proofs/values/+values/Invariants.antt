use Rattle.std.proofs.Common.{◌≡◌, ◌++◌, ◌+◌, ◌*◌, ℕ, List, map, drop, option_map, sum_by}
use Rattle.rml_resolved.specs.Size.{exp_size, val_size}
use Rattle.rml_resolved.specs.declared.tables.ValDef.{ValDef}
use Rattle.rml_terms.specs.Evaluating.{all_of, vals_to}
use Rattle.rml_search.specs.Values.{meaning, meaning_of_val}
use Rattle.rml_search.proofs.values.+values.Given as goal

abbrev pub invariant-values-loop-exp : goal.invariant-values-loop-exp
invariant-values-loop-exp l =
    all_of (map (meaning l.names (vals_to (meaning_of_val l.names) l.vals l.depth)) l.exps) l.env
    ≡ option_map (λ rest. l.all ++ rest) (all_of (map (meaning l.names (vals_to (meaning_of_val l.names) l.vals l.depth)) (drop l.exp-index l.exps)) l.env)

-- more than all that is done at one depth
abbrev room : List ValDef → ℕ
room vals = 2 * sum_by val_size vals + 4

abbrev pub decreases-val : goal.decreases-val
decreases-val l = l.depth * room l.vals.now

abbrev pub decreases-val_by : goal.decreases-val_by
decreases-val_by l = l.depth * room l.vals.now + 2 * sum_by val_size l.vals.now + 3

abbrev pub decreases-value : goal.decreases-value
decreases-value l = l.depth * room l.vals.now + 2 * exp_size l.exp.now + 1

abbrev pub decreases-values : goal.decreases-values
decreases-values l = l.depth * room l.vals.now + 2 * sum_by exp_size l.exps.now + 2
