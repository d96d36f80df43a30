use Rattle.rml_tocps.proofs.Parts.{parts-none, parts-more, any-part-made, var-part-made, bind-part-made, fresh-part-made}
use Rattle.rml_tocps.proofs.made.made_parts_match.Goals as goal

pub returns : goal.returns
returns c = record {
  none = parts-none;
  more = parts-more;
  anys = any-part-made;
  vars = var-part-made;
  binds = bind-part-made;
  fresh = fresh-part-made;
}
