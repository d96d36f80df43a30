use Rattle.rml_values.proofs.Says.{says}
use Rattle.rml_values.proofs.Standing.{as-many}
use Rattle.rml_values.proofs.laws.meanings_are_kept.Goals as goal

pub returns : goal.returns
returns c = record { says = says; lists = as-many }
