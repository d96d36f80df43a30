use Rattle.std.proofs.Common.{◌≡◌, ◌++◌, map, take}
use Rattle.rml_fol.specs.TermText.{separated, seated, pattern_written}
use Rattle.rml_fol.proofs.patterns.+patterns.Given as goal

abbrev pub invariant-write_patterns-loop-i : goal.invariant-write_patterns-loop-i
invariant-write_patterns-loop-i l = l.out.items ≡ l.fn.out.items ++ separated l.between (map (λ x. seated l.in_chain (pattern_written l.parts x)) (take l.i l.patterns))
