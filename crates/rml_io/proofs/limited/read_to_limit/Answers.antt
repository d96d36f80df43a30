use Rattle.std.proofs.Common.{arith, subst, sym}
use Rattle.std.specs.Io.KnownBytes.{Consumes}
use Rattle.std.proofs.KnownBytes.{Consumes-nil}
use Rattle.rml_io.proofs.limited.read_to_limit.Goals as goal

pub loop-bytes-init : goal.loop-bytes-init
loop-bytes-init g c = record {
  within = omega (arith, c.new-bytes.ensures.len);
  bytes = subst (Consumes _ _) (sym c.new-bytes.ensures.items) (Consumes-nil _);
  taken = omega (arith, c.new-bytes.ensures.len);
}
