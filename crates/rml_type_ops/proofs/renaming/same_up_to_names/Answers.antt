use Rattle.std.proofs.Common.{◌∙◌}
use Rattle.rml_type_ops.proofs.Renamings.{up-to-names}
use Rattle.rml_type_ops.proofs.renaming.same_up_to_names.Goals as goal

pub returns : goal.returns
returns c = up-to-names c.agree.result c.deref.result.now c.deref-2.result.now c.args.a.now c.args.b.now (c.deref.ensures.value ∙ c.in_ok-these.ensures) (c.deref-2.ensures.value ∙ c.in_ok-those.ensures) c.agree.ensures
