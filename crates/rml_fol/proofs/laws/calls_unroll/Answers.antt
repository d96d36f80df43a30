use Rattle.rml_fol.proofs.Depth.{steps_to_call, depth_is_no_bound, calls_unroll}
use Rattle.rml_fol.proofs.laws.calls_unroll.Goals as goal

pub returns : goal.returns
returns c = record { local = steps_to_call; depth = depth_is_no_bound; unrolls = calls_unroll }
