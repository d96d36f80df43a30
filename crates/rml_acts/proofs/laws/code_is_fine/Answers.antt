use Rattle.rml_acts.proofs.FromCode.{instr-fine}
use Rattle.rml_acts.proofs.laws.code_is_fine.Goals as goal

pub returns : goal.returns
returns c = λ l at i small light fits quiet. instr-fine l small light at i fits quiet
