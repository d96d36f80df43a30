use Rattle.rml_lex.proofs.PlacesBehind.{first-line, later-line}
use Rattle.rml_lex.proofs.laws.places_exact.Goals as goal

pub returns-clause-first : goal.returns-clause-first
returns-clause-first c = first-line

pub returns-clause-later : goal.returns-clause-later
returns-clause-later c = later-line
