use Rattle.std.proofs.Common.{◌≡◌, ◌-◌, ◌≤◌, vec_items, vec_len}
use Rattle.std.specs.Io.KnownBytes.{Consumes}
use Rattle.rml_io.specs.Counts.{raised}
use Rattle.rml_io.proofs.limited.read_to_limit.Given as goal

abbrev pub invariant-loop-bytes : goal.invariant-loop-bytes
invariant-loop-bytes g l = record {
  within : vec_len l.bytes ≤ l.limit;
  bytes : Consumes (g.F.Read.remaining l.fn.file) (g.F.Read.remaining l.file) (vec_items l.bytes);
  taken : l.taken ≡ raised l.fn.taken (vec_len l.bytes);
}

abbrev pub decreases-loop-bytes : goal.decreases-loop-bytes
decreases-loop-bytes g l = l.limit - vec_len l.bytes
