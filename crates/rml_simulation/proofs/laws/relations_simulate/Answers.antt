use Rattle.rml_simulation.proofs.Carried.{calls_simulate, first_simulates, acts_simulate, told_simulate}
use Rattle.rml_simulation.proofs.laws.relations_simulate.Goals as goal

pub returns-clause-direct : goal.returns-clause-direct
returns-clause-direct g c = calls_simulate

pub returns-clause-first : goal.returns-clause-first
returns-clause-first g c = first_simulates

pub returns-clause-told : goal.returns-clause-told
returns-clause-told g c = acts_simulate

pub returns-clause-to_told : goal.returns-clause-to_told
returns-clause-to_told g c = told_simulate
