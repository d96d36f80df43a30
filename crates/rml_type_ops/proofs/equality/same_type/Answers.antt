use Rattle.std.proofs.Common.{◌∙◌, ◌≡◌, ap, sym, rules}
use Rattle.std.proofs.lemmas.Slice.Eq.{slice_eq-Decides}
use Rattle.rml_types.specs.Labels.{labels}
use Rattle.rml_types.proofs.Callers.{labels-one}
use Rattle.rml_type_ops.proofs.equality.same_type.Goals as goal

pub returns : goal.returns
returns c =
    let d = slice_eq-Decides (λ l m. search rules) c.as_slice.result.now c.as_slice-2.result.now c.eq.result c.eq.ensures in
    let these : c.as_slice.result.now ≡ labels c.args.a.now = c.as_slice.ensures.value ∙ c.in_ok-these.ensures in
    let those : c.as_slice-2.result.now ≡ labels c.args.b.now = c.as_slice-2.ensures.value ∙ c.in_ok-those.ensures in (
      λ t. labels-one c.args.a.now c.args.b.now (sym these ∙ d.0 t ∙ those),
      λ e. d.1 (these ∙ ap labels e ∙ sym those),
    )
