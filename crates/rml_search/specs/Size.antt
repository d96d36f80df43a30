-- How large the goals of relations are, which bounds a recursion over them.
use Rattle.std.specs.Prelude.{ℕ, List, sum_by}
use Rattle.rml_resolved.specs.declared.tables.RelDef.{RelDef}
use Rattle.rml_resolved.specs.declared.tables.RRule.{RRule}
use Rattle.rml_resolved.specs.Size.{goal_size}

abbrev pub goals_size : RRule → ℕ
goals_size r = sum_by goal_size r.goals

abbrev pub relation_size : RelDef → ℕ
relation_size r = sum_by goals_size r.rules

abbrev pub relations_size : List RelDef → ℕ
relations_size rels = sum_by relation_size rels
