use Rattle.std.proofs.Common.{◌≡◌, drop, length}
use Rattle.rml_tables.specs.Words.{Grows, with_each}
use Rattle.rml_tables.proofs.name_set.NameSet.add_each.Given as goal

abbrev pub invariant-loop-name : goal.invariant-loop-name
invariant-loop-name g l = (with_each g.K.PartialEq.eq l.fn.self l.more ≡ with_each g.K.PartialEq.eq l.self (drop l.name-index l.more)) × Grows l.fn.self l.self
