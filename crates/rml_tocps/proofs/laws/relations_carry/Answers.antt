use Rattle.rml_tocps.proofs.Relations.{relation_carries, carried_is_light}
use Rattle.rml_tocps.proofs.laws.relations_carry.Goals as goal

pub returns : goal.returns
returns c = record { relations = relation_carries; programs = carried_is_light }
