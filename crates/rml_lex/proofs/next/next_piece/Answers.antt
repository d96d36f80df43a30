use Rattle.rml_lex.proofs.Wholes.{found-is}
use Rattle.rml_lex.proofs.next.next_piece.Goals as goal

pub returns : goal.returns
returns c = found-is c.args.bytes.now c.longest.result c.longest.ensures
