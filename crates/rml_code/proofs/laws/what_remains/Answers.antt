use Rattle.rml_code.proofs.Remains.{remains-first, remains-block, remains-turn}
use Rattle.rml_code.proofs.laws.what_remains.Goals as goal

pub returns : goal.returns
returns c = record { first = remains-first; block = remains-block; turn = remains-turn }
