use Rattle.rml_prelude.proofs.Standing.{tree-stands, word-number, words-known, words-stand}
use Rattle.rml_prelude.proofs.laws.the_prelude_stands.Goals as goal

pub returns : goal.returns
returns c = record { tree = tree-stands; words = words-stand; known = words-known; numbers = word-number }
