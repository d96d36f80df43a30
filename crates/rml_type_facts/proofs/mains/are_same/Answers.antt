use Rattle.std.proofs.Common.{rules}
use Rattle.std.proofs.lemmas.Slice.Eq.{slice_eq-Decides}
use Rattle.rml_type_facts.specs.Same.{same_labels}
use Rattle.rml_type_facts.proofs.SameTypes.{labels-same, one-answer, same-labels}
use Rattle.rml_type_facts.proofs.mains.are_same.Goals as goal

pub returns : goal.returns
returns c =
    let d = slice_eq-Decides (λ l m. search rules) c.args.labels.now c.args.others.now c.eq.result c.eq.ensures in
    one-answer c.eq.result (same_labels c.args.labels.now c.args.others.now) (λ e. labels-same c.args.labels.now c.args.others.now (d.0 e)) (λ e. d.1 (same-labels c.args.labels.now c.args.others.now e))
