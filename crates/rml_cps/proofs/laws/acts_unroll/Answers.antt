use Rattle.rml_cps.proofs.Depth.{steps_to_act, acts_unroll}
use Rattle.rml_cps.proofs.laws.acts_unroll.Goals as goal

pub returns : goal.returns
returns c = record { local = steps_to_act; unrolls = acts_unroll }
