use Rattle.std.proofs.Common.{◌∙◌, sym, subst}
use Rattle.rml_types.specs.Runs.{Ready}
use Rattle.rml_types.proofs.LabelNumbers.{copied, labels-ready}
use Rattle.rml_types.proofs.tree.copy_tree.Goals as goal

pub tree_of-requires : goal.tree_of-requires
tree_of-requires c =
    let r = labels-ready c.args.tree.now in
    (r.0, subst (λ ls. Ready r.0 ls 0) (sym (c.deref.ensures.value ∙ c.in_ok-labels.ensures)) r.1)

pub returns : goal.returns
returns c = copied c.tree_of.result c.deref.result.now c.args.tree.now (c.deref.ensures.value ∙ c.in_ok-labels.ensures) c.tree_of.ensures
