use Rattle.std.proofs.Common.{refl, arith}
use Rattle.rml_acts.proofs.switch.are_same.Goals as goal

pub returns : goal.returns
returns c = (λ _ k below. c.loop-k.invariant k (omega (arith, below)), λ _. refl)
