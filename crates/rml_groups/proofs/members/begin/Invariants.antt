use Rattle.rml_groups.specs.Members.{Begins}
use Rattle.rml_groups.proofs.members.begin.Given as goal

abbrev pub invariant-loop-number : goal.invariant-loop-number
invariant-loop-number l = Begins l.coding l.unit.rels.now l.unit.number l.number l.graph l.members.items l.nodes.items
