use Rattle.rml_resolved.proofs.Rounds.{exact}
use Rattle.rml_resolved.proofs.laws.rounds_find_circles.Goals as goal

pub returns : goal.returns
returns c = exact
