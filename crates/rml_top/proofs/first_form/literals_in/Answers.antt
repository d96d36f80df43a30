use Rattle.rml_top.specs.FirstForm.{spelled}
use Rattle.rml_top.proofs.Form.{given}
use Rattle.rml_top.proofs.first_form.literals_in.Goals as goal

pub returns : goal.returns
returns c = let g = given (λ v. spelled v.items) (spelled c.args.tokens.now) c.read.result c.read.ensures in record { found = g.0; only = g.1 }
