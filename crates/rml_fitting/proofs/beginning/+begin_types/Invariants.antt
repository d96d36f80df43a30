use Rattle.std.proofs.Common.{length}
use Rattle.rml_fitting.proofs.beginning.+begin_types.Given as goal

abbrev pub decreases-begin_types : goal.decreases-begin_types
decreases-begin_types l = length l.expected.now
