use Rattle.rml_sound.proofs.Rows.{row-safe}
use Rattle.rml_sound.proofs.laws.built_ins_keep_types.Goals as goal

pub returns : goal.returns
returns c = λ p S ts store row vs stored h. row-safe p S ts store stored row vs h
