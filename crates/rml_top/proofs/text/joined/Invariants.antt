use Rattle.std.proofs.Common.{◌≡◌, ◌++◌, drop, flat_map}
use Rattle.rml_lex.specs.Character.{unescaped}
use Rattle.rml_top.specs.FirstForm.{spelled}
use Rattle.rml_top.proofs.text.joined.Given as goal

abbrev pub invariant-loop-literal : goal.invariant-loop-literal
invariant-loop-literal l = l.text.items ++ flat_map unescaped (drop l.literal-index (spelled l.literals)) ≡ flat_map unescaped (spelled l.literals)
