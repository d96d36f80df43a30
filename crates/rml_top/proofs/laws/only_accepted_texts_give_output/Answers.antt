use Rattle.rml_top.proofs.Ending.{accepted}
use Rattle.rml_top.proofs.laws.only_accepted_texts_give_output.Goals as goal

pub returns : goal.returns
returns c = λ w due p. accepted w due p.ends
