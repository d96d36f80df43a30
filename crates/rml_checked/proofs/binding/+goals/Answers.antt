use Rattle.std.proofs.Common.{◌≡◌, ◌∙◌, sym, ap, take, Some, rules}
use Rattle.rml_resolved.specs.declared.trees.RGoal.{RGoal}
use Rattle.rml_resolved.specs.declared.trees.RGoal.TheVariants.{Not}
use Rattle.rml_resolved.specs.Binding.{after_goal}
use Rattle.rml_checked.proofs.Kept.{after-not}
use Rattle.rml_checked.proofs.binding.+goals.Goals as goal

pub after_goal-returns-in-Some : goal.after_goal-returns-in-Some
after_goal-returns-in-Some t c =
    let whole : c.args.goal.now ≡ Not c.get.result.now = search rules in
    let here : Some c.in-Some.inside ≡ after_goal c.get.result.now c.args.bound = sym c.in-Some.is ∙ c.in_ok-inside-in-Not.ensures in
    ap Some (c.cut.ensures ∙ ap (λ n. take n c.in-Some.inside) c.len-outside.ensures)
    ∙ sym (ap (λ (g : RGoal). after_goal g c.args.bound) whole ∙ after-not c.get.result.now c.args.bound c.in-Some.inside here)
