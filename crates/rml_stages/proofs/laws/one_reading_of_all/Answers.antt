use Rattle.rml_stages.proofs.OneReadingOfAll.{each-list, not-both-of-all, one-first-refusal, one-list-of-trees}
use Rattle.rml_stages.proofs.laws.one_reading_of_all.Goals as goal

pub returns-clause-each : goal.returns-clause-each
returns-clause-each c = each-list

pub returns-clause-trees : goal.returns-clause-trees
returns-clause-trees c = λ number texts old a b ts us h k. one-list-of-trees texts number old a b ts us h k

pub returns-clause-refusal : goal.returns-clause-refusal
returns-clause-refusal c = one-first-refusal

pub returns-clause-either : goal.returns-clause-either
returns-clause-either c = not-both-of-all
