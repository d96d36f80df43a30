use Rattle.std.proofs.Common.{List, sym, ap, ◌∙◌}
use Rattle.rml_syntax.specs.declared.rules.Goal.{fold-roll-Goal}
use Rattle.rml_syntax.specs.declared.rules.Goal.TheVariants.{rolls-Not}
use Rattle.rml_syntax.specs.declared.rules.Goal.TheOpen.{Goal-F}
use Rattle.rml_scopes.specs.Steps.{Step, goal_at, goal_steps}
use Rattle.rml_scopes.specs.Walks.{run}
use Rattle.rml_walks.proofs.Runs.{run_more, run_not}
use Rattle.rml_walks.proofs.goals.+goals.Goals as goal

pub goals-loop-item-preserved : goal.goals-loop-item-preserved
goals-loop-item-preserved t c =
    run_more c.args.world.now goal_steps c.args.trees.now c.loop-item.item-index c.item-item.result c.args.walk.now c.loop-item.walk c.goal.new.walk
    c.loop-item-test.true c.item-item.is c.loop-item.invariant c.in_ok-goal.ensures

pub goal-returns-in_ok-goal-in-Not : goal.goal-returns-in_ok-goal-in-Not
goal-returns-in_ok-goal-in-Not t c =
    rw c.in-Not.is
    (run_not c.args.world.now (goal_steps c.in-Not.inner) c.args.walk.now c.enter.new.self c.goal.new.walk c.leave.new.self
    c.in_ok-enter-in-Not.ensures (c.in_ok-goal-in-Not.ensures ∙ ap (λ g. run c.args.world.now c.enter.new.self (goal_steps g)) c.get-in-Not.ensures) c.leave.ensures
    ∙ ap (λ s. run c.args.world.now c.args.walk.now s) (sym (ap goal_steps (sym (rolls-Not c.in-Not.inner)) ∙ fold-roll-Goal (List Step) goal_at (Goal-F.Not c.in-Not.inner))))
