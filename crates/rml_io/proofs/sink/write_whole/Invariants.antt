use Rattle.std.proofs.Common.{◌≤◌, length}
use Rattle.rml_io.proofs.Fronts.{WroteTo}
use Rattle.rml_io.proofs.sink.write_whole.Given as goal

abbrev pub invariant-loop-rest : goal.invariant-loop-rest
invariant-loop-rest g l = record {
  wrote : WroteTo (g.S.Sink.seen l.fn.sink).text (g.S.Sink.seen l.sink).text l.piece l.rest;
  later : (g.S.Sink.seen l.fn.sink).faults ≤ (g.S.Sink.seen l.sink).faults;
}

abbrev pub decreases-loop-rest : goal.decreases-loop-rest
decreases-loop-rest g l = length l.rest
