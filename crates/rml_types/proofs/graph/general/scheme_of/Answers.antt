use Rattle.std.proofs.Common.{◌∙◌, sym, subst, length}
use Rattle.rml_types.specs.Kept.{known_by}
use Rattle.rml_types.specs.Runs.{Ready}
use Rattle.rml_types.specs.Spelled.{Numbered}
use Rattle.rml_types.proofs.General.{ready-named}
use Rattle.rml_types.proofs.LabelNumbers.{named-by}
use Rattle.rml_types.proofs.graph.general.scheme_of.Goals as goal

pub tree_of-requires : goal.tree_of-requires
tree_of-requires c =
    let numbered = c.in_ok-labels.ensures in (
      length numbered.vars,
      subst (λ ls. Ready (length numbered.vars) ls 0) (sym c.deref.ensures.value)
          (ready-named (known_by c.args.forms.now c.args.shapes.now) c.requires.unfixed numbered.vars c.requires.ready.0 c.args.classes.now c.in_ok-labels.labels.items numbered.names 0 c.requires.ready.1),
    )

pub invariant_of-result : goal.invariant_of-result
invariant_of-result c = record {
  vars_named = named-by (known_by c.args.forms.now c.args.shapes.now) c.args.classes.now c.in_ok-labels.labels.items c.in_ok-labels.vars c.in_ok-body.body c.in_ok-labels.ensures (c.in_ok-body.ensures ∙ c.deref.ensures.value);
}

pub returns : goal.returns
returns c = subst (λ ls. Numbered (known_by c.args.forms.now c.args.shapes.now) c.args.classes.now ls c.in_ok-labels.vars) (sym (c.in_ok-body.ensures ∙ c.deref.ensures.value)) c.in_ok-labels.ensures
