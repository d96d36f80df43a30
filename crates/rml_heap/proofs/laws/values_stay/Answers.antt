use Rattle.rml_heap.proofs.Readings.{one-reading, below-deep, below-higher, below-agrees}
use Rattle.rml_heap.proofs.laws.values_stay.Goals as goal

pub returns-clause-one : goal.returns-clause-one
returns-clause-one c = one-reading

pub returns-clause-deeper : goal.returns-clause-deeper
returns-clause-deeper c = below-deep

pub returns-clause-higher : goal.returns-clause-higher
returns-clause-higher c = below-higher

pub returns-clause-agrees : goal.returns-clause-agrees
returns-clause-agrees c = below-agrees
