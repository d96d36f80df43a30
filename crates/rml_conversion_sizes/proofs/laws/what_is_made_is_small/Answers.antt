use Rattle.rml_conversion_sizes.proofs.MadeSmall.{body-adds, tables-light}
use Rattle.rml_conversion_sizes.proofs.laws.what_is_made_is_small.Goals as goal

pub returns : goal.returns
returns c = record { statements = λ r. (body-adds r).statements; variables = λ r. (body-adds r).variables; names = λ r. (body-adds r).names; light = tables-light }
