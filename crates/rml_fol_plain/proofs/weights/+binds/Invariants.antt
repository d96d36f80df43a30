use Rattle.std.proofs.Common.{◌≡◌, ◌+◌, ◌*◌, map, drop, sum, sum_by}
use Rattle.rml_fol.specs.Patterns.{binds}
use Rattle.rml_fol.specs.Size.{pattern_nodes}
use Rattle.rml_fol_plain.proofs.weights.+binds.Given as goal

abbrev pub invariant-all_bind-loop-pattern : goal.invariant-all_bind-loop-pattern
invariant-all_bind-loop-pattern l = l.all + sum (map binds (drop l.pattern-index l.patterns)) ≡ sum (map binds l.patterns)

abbrev pub decreases-binds : goal.decreases-binds
decreases-binds l = 2 * pattern_nodes l.pattern.now

abbrev pub decreases-all_bind : goal.decreases-all_bind
decreases-all_bind l = 2 * sum_by pattern_nodes l.patterns.now + 1
