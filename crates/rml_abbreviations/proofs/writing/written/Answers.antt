use Rattle.std.proofs.Common.{◌≡◌, ℕ, List, subst, sym, ◌∙◌}
use Rattle.rml_types.specs.Labels.{Label, labels}
use Rattle.rml_types.specs.Runs.{Ready}
use Rattle.rml_types.proofs.Callers.{labels-ready}
use Rattle.rml_abbreviations.specs.Written.{meaning_in}
use Rattle.rml_abbreviations.proofs.Labels.{written_by_labels}
use Rattle.rml_abbreviations.proofs.writing.written.Goals as goal

pub written_of-requires : goal.written_of-requires
written_of-requires c =
    let e : c.deref.result.now ≡ labels c.args.tree.now = c.deref.ensures.value ∙ c.in_ok-labels.ensures in
    subst (λ (all : List Label). (vars : ℕ) × Ready vars all 0) (sym e) (labels-ready c.args.tree.now)

pub returns : goal.returns
returns c = written_by_labels (meaning_in c.args.bodies.now) c.args.tree.now c.in_ok-tree.tree c.deref.result.now (c.deref.ensures.value ∙ c.in_ok-labels.ensures) c.in_ok-tree.ensures
