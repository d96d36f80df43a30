use Rattle.rml_whole.proofs.MoreNames.{text-more}
use Rattle.rml_whole.proofs.laws.more_names.Goals as goal

pub returns : goal.returns
returns c = λ n m t le h. text-more n m le t h
