use Rattle.std.proofs.Common.{◌∙◌, ap, sym, length, arith, []}
use Rattle.rml_type_ops.proofs.Renamings.{length-numbered}
use Rattle.rml_type_ops.proofs.renaming.agree.Goals as goal

pub returns-then-these-those : goal.returns-then-these-those
returns-then-these-those c = (
  λ t. cc,
  λ e. absurd (let l = sym (length-numbered [] c.args.these.now) ∙ ap length e ∙ length-numbered [] c.args.those.now in let n = c.if-these-those.true in omega arith),
)
