use Rattle.rml_code.proofs.KeptLimits.{runs-within, runs-beyond, limit-given, limit-stays}
use Rattle.rml_code.proofs.laws.limits_are_kept.Goals as goal

pub returns : goal.returns
returns c = record { within = runs-within; beyond = runs-beyond; begun = limit-given; kept = limit-stays }
