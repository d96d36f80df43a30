use Rattle.std.proofs.Common.{◌≡◌, ◌≤◌, drop}
use Rattle.rml_lex.specs.Bytes.{number_from}
use Rattle.rml_lex.proofs.number.int.Given as goal

abbrev pub invariant-loop-d : goal.invariant-loop-d
invariant-loop-d l = record {
  small : l.distance ≤ l.limit;
  rest : number_from l.distance (drop l.d-index l.digits) ≡ number_from 0 l.digits;
}
