use Rattle.rml_top.specs.Names.{names_in}
use Rattle.rml_top.proofs.Turns.{ReadTo}
use Rattle.rml_top.proofs.sources.read_sources.Given as goal

abbrev pub invariant-loop-k : goal.invariant-loop-k
invariant-loop-k g l = ReadTo (names_in l.names) l.k l.bytes
    (g.F.Files.seen l.initial.files)
    (g.F.Files.seen l.files)
    l.sources.items
