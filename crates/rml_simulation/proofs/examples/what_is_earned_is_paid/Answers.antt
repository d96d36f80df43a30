use Rattle.rml_simulation.proofs.Tried.{late_local, late_keeps, late_earns, late_pays}
use Rattle.rml_simulation.proofs.examples.what_is_earned_is_paid.Goals as goal

pub returns-clause-local : goal.returns-clause-local
returns-clause-local c = late_local

pub returns-clause-kept : goal.returns-clause-kept
returns-clause-kept c = late_keeps

pub returns-clause-earned : goal.returns-clause-earned
returns-clause-earned c = late_earns

pub returns-clause-paid : goal.returns-clause-paid
returns-clause-paid c = late_pays
