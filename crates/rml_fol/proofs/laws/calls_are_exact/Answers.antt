use Rattle.rml_fol.proofs.Exact.{body_spends, relations_spend}
use Rattle.rml_fol.proofs.laws.calls_are_exact.Goals as goal

pub returns : goal.returns
returns c = record { body = body_spends; relations = relations_spend }
