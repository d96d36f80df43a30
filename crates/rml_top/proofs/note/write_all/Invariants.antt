use Rattle.std.proofs.Common.{◌≡◌, ◌≤◌, take}
use Rattle.std.specs.List.{flat_map}
use Rattle.rml_io.specs.Sink.{and_bytes}
use Rattle.rml_top.proofs.note.write_all.Given as goal

abbrev pub invariant-loop-piece : goal.invariant-loop-piece
invariant-loop-piece g l = record {
  written : (g.N.Sink.seen l.note).text ≡ and_bytes (g.N.Sink.seen l.initial.note).text (flat_map (λ p. p.now) (take l.piece-index l.pieces));
  later : (g.N.Sink.seen l.initial.note).faults ≤ (g.N.Sink.seen l.note).faults;
}
