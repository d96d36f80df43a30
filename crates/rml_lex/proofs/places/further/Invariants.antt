use Rattle.std.proofs.Common.{◌≡◌, ◌≤◌, ◌+◌, drop}
use Rattle.rml_lex.specs.Places.{place_after}
use Rattle.rml_lex.proofs.places.further.Given as goal

abbrev pub invariant-loop-b : goal.invariant-loop-b
invariant-loop-b l = record {
  same : place_after l.place (drop l.b-index l.bytes) ≡ place_after l.fn.from l.bytes;
  line : l.place.line ≤ l.fn.from.line + l.b-index;
  column : l.place.column ≤ l.fn.from.column + l.b-index;
}
