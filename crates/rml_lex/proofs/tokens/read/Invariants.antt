use Rattle.std.proofs.Common.{◌≡◌, ◌≤◌, ◌+◌, ◌^◌, length}
use Rattle.rml_lex.specs.Reading.{Reads, shown}
use Rattle.rml_lex.specs.Numbered.{names_in, with_names}
use Rattle.rml_lex.proofs.tokens.read.Given as goal

abbrev pub invariant-loop-rest : goal.invariant-loop-rest
invariant-loop-rest l = record {
  read : Reads l.text l.bytes l.fn.names l.rest l.place l.spots.items l.names;
  numbers : l.names ≡ with_names l.fn.names (names_in (shown l.names l.spots.items));
  line : l.place.line + length l.rest ≤ 1 + length l.bytes;
  column : l.place.column + length l.rest ≤ 1 + length l.bytes;
  room : length l.names + length l.rest ≤ 2 ^ 31 + length l.bytes;
}

abbrev pub decreases-loop-rest : goal.decreases-loop-rest
decreases-loop-rest l = length l.rest
