use Rattle.std.proofs.Common.{◌≡◌, ◌≤◌, ◌+◌}
use Rattle.rml_lex.specs.Character.{read_of, HasDigits}
use Rattle.rml_lex.specs.Literal.{text_step, text_stop}
use Rattle.rml_lex.specs.declared.character.Inside.TheVariants.{Between}
use Rattle.rml_lex.proofs.Machines.{Leads}
use Rattle.rml_lex.proofs.literal.text_end.Given as goal

abbrev pub invariant-loop-i : goal.invariant-loop-i
invariant-loop-i l = record {
  leads : Leads text_stop text_step (record { at = 1; count = 0; inside = Between }) l.bytes l.i l.state;
  place : l.state.at + read_of l.state.inside ≡ l.i + 1;
  count : l.state.count ≤ l.i;
  digits : HasDigits l.state.inside;
}
