use Rattle.rml_tocps.proofs.Parts.{any-made, var-made, bind-made, literal-made, tuple-made, con-made, nil-made, front-made}
use Rattle.rml_tocps.proofs.made.made_patterns_match.Goals as goal

pub returns : goal.returns
returns c = record {
  anys = any-made;
  vars = var-made;
  binds = bind-made;
  literals = literal-made;
  tuples = tuple-made;
  constructors = con-made;
  nils = nil-made;
  fronts = front-made;
}
