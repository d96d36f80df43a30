use Rattle.rml_given.proofs.Standing.{all-later, built-stands, tree-later}
use Rattle.rml_given.proofs.laws.what_is_given_stands.Goals as goal

pub returns : goal.returns
returns c = record { tree = tree-later; built = built-stands; known = all-later }
