use Rattle.std.proofs.Common.{◌≡◌, drop}
use Rattle.rml_given.specs.Built.{with_relations}
use Rattle.rml_given.proofs.built.add_relations.Given as goal

abbrev pub invariant-loop-name : goal.invariant-loop-name
invariant-loop-name l = with_relations l.values (drop l.name-index l.names) ≡ with_relations l.fn.values l.names
