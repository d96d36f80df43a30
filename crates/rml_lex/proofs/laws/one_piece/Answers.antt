use Rattle.rml_lex.proofs.Wholes.{one-piece}
use Rattle.rml_lex.proofs.laws.one_piece.Goals as goal

pub returns : goal.returns
returns c = one-piece
