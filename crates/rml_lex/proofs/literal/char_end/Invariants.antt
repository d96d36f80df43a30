use Rattle.std.proofs.Common.{◌≡◌, ◌+◌, None}
use Rattle.rml_lex.specs.Character.{read_of, HasDigits}
use Rattle.rml_lex.specs.Literal.{char_step, char_stop}
use Rattle.rml_lex.specs.declared.character.Inside.TheVariants.{Between}
use Rattle.rml_lex.proofs.Machines.{Leads}
use Rattle.rml_lex.proofs.literal.char_end.Given as goal

abbrev pub invariant-loop-i : goal.invariant-loop-i
invariant-loop-i l = record {
  leads : Leads char_stop char_step (record { at = 2; first = None; inside = Between }) l.bytes l.i l.state;
  place : l.state.at + read_of l.state.inside ≡ l.i + 2;
  digits : HasDigits l.state.inside;
}
