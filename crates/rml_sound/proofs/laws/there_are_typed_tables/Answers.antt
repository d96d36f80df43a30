use Rattle.rml_sound.proofs.Sample.{sample}
use Rattle.rml_sound.proofs.laws.there_are_typed_tables.Goals as goal

pub returns : goal.returns
returns c = sample
