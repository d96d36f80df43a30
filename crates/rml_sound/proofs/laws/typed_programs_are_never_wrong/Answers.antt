use Rattle.rml_sound.proofs.Ran.{answers-fit, never-wrong}
use Rattle.rml_sound.proofs.laws.typed_programs_are_never_wrong.Goals as goal

pub returns : goal.returns
returns c = record {
  never = never-wrong;
  answers = answers-fit;
}
