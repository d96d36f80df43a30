use Rattle.rml_tocps.proofs.Wholes.{relation-carried}
use Rattle.rml_tocps.proofs.made.made_relations_carry.Goals as goal

pub returns : goal.returns
returns c = relation-carried
