use Rattle.std.proofs.Common.{length}
use Rattle.rml_fitting.proofs.beginning.+begin_cons.Given as goal

abbrev pub decreases-begin_cons : goal.decreases-begin_cons
decreases-begin_cons l = length l.expected.now
