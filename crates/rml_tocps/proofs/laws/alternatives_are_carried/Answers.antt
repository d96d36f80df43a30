use Rattle.rml_tocps.proofs.Examples.{alternatives_carry}
use Rattle.rml_tocps.proofs.laws.alternatives_are_carried.Goals as goal

pub returns : goal.returns
returns c = alternatives_carry
