use Rattle.rml_stages.proofs.OneReading.{each-text, not-both, one-refusal, one-text}
use Rattle.rml_stages.proofs.laws.one_reading.Goals as goal

pub returns-clause-each : goal.returns-clause-each
returns-clause-each c = each-text

pub returns-clause-tree : goal.returns-clause-tree
returns-clause-tree c = λ number bytes old a b t u h k. one-text number bytes old t u a b h k

pub returns-clause-refusal : goal.returns-clause-refusal
returns-clause-refusal c = one-refusal

pub returns-clause-either : goal.returns-clause-either
returns-clause-either c = λ number bytes old new t r h k. not-both number bytes old t new r h k
