use Rattle.rml_top.proofs.EachDue.{each-due}
use Rattle.rml_top.proofs.Unique.{due-or-missing, one-due, one-missing}
use Rattle.std.proofs.Common.{Some, refl}
use Rattle.rml_top.proofs.laws.one_due.Goals as goal

pub returns-clause-each : goal.returns-clause-each
returns-clause-each c = each-due

pub returns-clause-due : goal.returns-clause-due
returns-clause-due c = λ files words line s t a b d e. one-due (Some files) words line s t a b (λ asks is r. (files, refl)) d e

pub returns-clause-missing : goal.returns-clause-missing
returns-clause-missing c = one-missing

pub returns-clause-either : goal.returns-clause-either
returns-clause-either c = due-or-missing
