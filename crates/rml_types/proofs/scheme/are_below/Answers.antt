use Rattle.std.proofs.Common.{ℕ, ◌∙◌, ap}
use Rattle.std.specs.List.{list_all}
use Rattle.rml_types.specs.declared.form.TypeCon.{TypeCon}
use Rattle.rml_types.specs.Schemes.{names_below}
use Rattle.rml_types.proofs.LabelNumbers.{labels-below}
use Rattle.rml_types.proofs.scheme.are_below.Goals as goal

pub returns : goal.returns
returns c =
    c.are_labels_below.ensures
    ∙ ap (list_all (λ (l : TypeCon × ℕ). names_below c.args.vars l.0)) (c.deref.ensures.value ∙ c.in_ok-labels.ensures)
    ∙ labels-below c.args.vars c.args.tree.now
