use Rattle.rml_type_facts.proofs.CircleGraph.{circle-test}
use Rattle.rml_type_facts.proofs.MainTypes.{main-types}
use Rattle.rml_type_facts.proofs.SameTypes.{one-types}
use Rattle.rml_type_facts.proofs.laws.tests_say_what_is_meant.Goals as goal

pub returns-clause-types : goal.returns-clause-types
returns-clause-types c = one-types

pub returns-clause-circles : goal.returns-clause-circles
returns-clause-circles c = circle-test (record { enough = c.short_paths_are_enough.ensures.enough; sound = c.short_paths_are_enough.ensures.sound })

pub returns-clause-main : goal.returns-clause-main
returns-clause-main c = main-types
