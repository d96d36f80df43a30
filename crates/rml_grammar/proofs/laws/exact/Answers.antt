use Rattle.rml_grammar.proofs.Places.{sound, complete, placed}
use Rattle.rml_grammar.proofs.laws.exact.Goals as goal

pub returns-clause-sound : goal.returns-clause-sound
returns-clause-sound c = sound

pub returns-clause-complete : goal.returns-clause-complete
returns-clause-complete c = complete

pub returns-clause-placed : goal.returns-clause-placed
returns-clause-placed c = placed
