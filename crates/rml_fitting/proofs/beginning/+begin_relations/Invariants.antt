use Rattle.std.proofs.Common.{length}
use Rattle.rml_fitting.proofs.beginning.+begin_relations.Given as goal

abbrev pub decreases-begin_relations : goal.decreases-begin_relations
decreases-begin_relations l = length l.expected.now
