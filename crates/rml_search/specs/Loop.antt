-- The smallest relation that is a part by itself: one rule, which calls the relation again.
use Rattle.std.specs.Prelude.{ℕ, zero, suc, Bool, true, false, [], ◌∷◌}
use Rattle.rml_base.specs.declared.place.Place.{Place}
use Rattle.rml_resolved.specs.declared.tables.RRule.{RRule}
use Rattle.rml_resolved.specs.declared.trees.Callee.TheVariants as callee
use Rattle.rml_resolved.specs.declared.trees.RGoal.TheVariants.{Call}
use Rattle.rml_search.specs.Search.{Rules}

abbrev pub loop : Place → RRule
loop p = record { place = p; inputs = []; goals = Call (callee.Rel 0) [] [] ∷ []; results = []; vars = 0; tokens = 3 }

-- relation 0 is the loop; the others have any rules
abbrev pub loop_and : Place → Rules → Rules
loop_and p others zero = loop p ∷ []
loop_and p others (suc r) = others r

abbrev pub first_relation : ℕ → Bool
first_relation zero = true
first_relation (suc r) = false
