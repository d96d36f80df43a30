use Rattle.std.proofs.Common.{◌≡◌, ◌++◌, drop}
use Rattle.rml_type_facts.specs.Circles.{holds}
use Rattle.rml_type_facts.specs.Facts.{facts_from}
use Rattle.rml_signatures.specs.Types.{told}
use Rattle.rml_type_facts.proofs.facts.facts.Given as goal

abbrev pub invariant-loop-number : goal.invariant-loop-number
invariant-loop-number l = facts_from (holds l.circles) (told l.known l.tables) l.texts 0 l.texts ≡ l.facts ++ facts_from (holds l.circles) (told l.known l.tables) l.texts l.number (drop l.number l.texts)
