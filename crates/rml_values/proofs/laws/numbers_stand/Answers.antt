use Rattle.rml_values.proofs.Standing.{below, declared-there, differ, from, stands}
use Rattle.rml_values.proofs.laws.numbers_stand.Goals as goal

pub returns : goal.returns
returns c = record { stands = stands; differ = differ; from = from; below = below; declared = declared-there }
