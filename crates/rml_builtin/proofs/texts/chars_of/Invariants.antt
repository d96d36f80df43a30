use Rattle.std.proofs.Common.{◌≡◌, map, take}
use Rattle.rml_value.specs.declared.value.Value.TheVariants as value
use Rattle.rml_builtin.proofs.texts.chars_of.Given as goal

abbrev pub invariant-loop-c : goal.invariant-loop-c
invariant-loop-c l = l.all ≡ map value.Char (take l.c-index l.text)
