use Rattle.rml_prims.proofs.Variables.{lvars-append, lvars-added, lvars-made, lvars-set}
use Rattle.rml_prims.proofs.laws.variables_are_found.Goals as goal

pub returns : goal.returns
returns c = record { first = lvars-append 0; added = lvars-added; made = lvars-made; written = lvars-set 0 }
