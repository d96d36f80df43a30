use Rattle.std.proofs.Common.{add-one, ◌∷◌}
use Rattle.rml_lex.specs.Bytes.{is_name_byte}
use Rattle.rml_lex.specs.Spelling.{name_piece}
use Rattle.rml_lex.proofs.Longests.{run-longest}
use Rattle.rml_lex.proofs.next.after.Goals as goal

pub returns-in-Letter : goal.returns-in-Letter
returns-in-Letter c = rw (← c.in-Letter.ensures, c.name.ensures, c.requires.parts, add-one) (run-longest is_name_byte (λ bs. name_piece (c.args.first ∷ bs)) c.args.more.now c.name_length-n.result c.name_length-n.ensures)
