use Rattle.rml_conversion_fits.proofs.MadeFits.{relation-fits, signatures-kept, names-kept, tables-fit}
use Rattle.rml_conversion_fits.proofs.laws.what_is_made_fits.Goals as goal

pub returns : goal.returns
returns c = record { relations = relation-fits; signatures = signatures-kept; names = names-kept; tables = tables-fit }
