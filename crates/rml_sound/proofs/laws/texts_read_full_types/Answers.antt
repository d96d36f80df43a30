use Rattle.rml_sound.proofs.Written.{reads-full}
use Rattle.rml_sound.proofs.laws.texts_read_full_types.Goals as goal

pub returns : goal.returns
returns c = λ p text fixed. reads-full p.types p.types_end text fixed
