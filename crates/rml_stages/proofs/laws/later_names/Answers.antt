use Rattle.rml_stages.proofs.Over.{all-behind, all-later, behind, over-later}
use Rattle.rml_stages.proofs.laws.later_names.Goals as goal

pub returns-clause-behind : goal.returns-clause-behind
returns-clause-behind c = behind

pub returns-clause-later : goal.returns-clause-later
returns-clause-later c = λ most number bytes names later tree g h. over-later most number bytes names later tree g h

pub returns-clause-all_behind : goal.returns-clause-all_behind
returns-clause-all_behind c = λ number texts old new trees h. all-behind texts number old new trees h

pub returns-clause-all_later : goal.returns-clause-all_later
returns-clause-all_later c = λ most number texts names later trees g h. all-later most names later g texts number trees h
