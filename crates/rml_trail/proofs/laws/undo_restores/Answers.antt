use Rattle.rml_trail.proofs.Futures.{future-same, future-then, future-set, future-undone, future-added, future-taken_back, future-written, future-restored}
use Rattle.rml_trail.proofs.laws.undo_restores.Goals as goal

pub returns-clause-same : goal.returns-clause-same
returns-clause-same c = future-same

pub returns-clause-follows : goal.returns-clause-follows
returns-clause-follows c = future-then

pub returns-clause-set : goal.returns-clause-set
returns-clause-set c = future-set

pub returns-clause-undone : goal.returns-clause-undone
returns-clause-undone c = future-undone

pub returns-clause-added : goal.returns-clause-added
returns-clause-added c = future-added

pub returns-clause-taken_back : goal.returns-clause-taken_back
returns-clause-taken_back c = future-taken_back

pub returns-clause-written : goal.returns-clause-written
returns-clause-written c = future-written

pub returns-clause-restored : goal.returns-clause-restored
returns-clause-restored c = future-restored
