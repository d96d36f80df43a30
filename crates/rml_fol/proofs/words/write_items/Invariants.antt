use Rattle.std.proofs.Common.{◌≡◌, [], ◌∷◌, ◌++◌, map, take}
use Rattle.rml_fol.specs.TermText.{separated, variable_text}
use Rattle.rml_fol.proofs.words.write_items.Given as goal

abbrev pub invariant-loop-i : goal.invariant-loop-i
invariant-loop-i l = l.out.items ≡ l.fn.out.items ++ separated (44 ∷ 32 ∷ []) (map variable_text (take l.i l.xs))
