use Rattle.std.proofs.Common.{◌∙◌, ap, sym, subst}
use Rattle.rml_types.specs.Runs.{Ready}
use Rattle.rml_types.specs.Schemes.{inst}
use Rattle.rml_types.proofs.Callers.{copied, labels-ready}
use Rattle.rml_type_ops.specs.Replaced.{replaced}
use Rattle.rml_type_ops.proofs.Replacing.{labels-inst}
use Rattle.rml_type_ops.proofs.substitution.substitute.Goals as goal

pub tree_of-requires : goal.tree_of-requires
tree_of-requires c =
    let r = labels-ready (inst c.args.types.now c.args.body.now) in
    (r.0, subst (λ ls. Ready r.0 ls 0) (sym (c.deref-2.ensures.value ∙ c.in_ok-replaced.ensures ∙ ap (replaced c.args.types.now) (c.deref.ensures.value ∙ c.in_ok-labels.ensures) ∙ sym (labels-inst c.args.types.now c.args.body.now))) r.1)

pub returns : goal.returns
returns c = copied c.tree_of.result c.deref-2.result.now (inst c.args.types.now c.args.body.now)
    (c.deref-2.ensures.value ∙ c.in_ok-replaced.ensures ∙ ap (replaced c.args.types.now) (c.deref.ensures.value ∙ c.in_ok-labels.ensures) ∙ sym (labels-inst c.args.types.now c.args.body.now)) c.tree_of.ensures
