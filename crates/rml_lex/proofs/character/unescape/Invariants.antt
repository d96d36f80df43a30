use Rattle.std.proofs.Common.{◌≡◌, ◌++◌, drop}
use Rattle.rml_lex.specs.Character.{values_from, HasDigits}
use Rattle.rml_lex.specs.declared.character.Inside.TheVariants.{Between}
use Rattle.rml_lex.proofs.character.unescape.Given as goal

abbrev pub invariant-loop-b : goal.invariant-loop-b
invariant-loop-b l = record {
  values : l.values.items ++ values_from l.inside (drop l.b-index l.characters) ≡ values_from Between l.characters;
  digits : HasDigits l.inside;
}
