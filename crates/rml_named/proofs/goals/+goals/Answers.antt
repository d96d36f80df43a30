use Rattle.std.proofs.Common.{List, sym, ap, ◌∙◌}
use Rattle.rml_syntax.specs.declared.rules.Goal.{fold-roll-Goal}
use Rattle.rml_syntax.specs.declared.rules.Goal.TheVariants.{rolls-Not}
use Rattle.rml_syntax.specs.declared.rules.Goal.TheOpen.{Goal-F}
use Rattle.rml_scopes.specs.Steps.{Step, goal_at, goal_steps}
use Rattle.rml_named.specs.Gathered.{gather_each}
use Rattle.rml_named.proofs.Turns.{gather_more, gather_not}
use Rattle.rml_named.proofs.goals.+goals.Goals as goal

pub goals-loop-item-preserved : goal.goals-loop-item-preserved
goals-loop-item-preserved t c =
    gather_more c.args.world.now c.args.values.now goal_steps c.args.trees.now c.loop-item.item-index c.item-item.result c.args.gathering.now c.loop-item.gathering c.goal.new.gathering
    c.loop-item-test.true c.item-item.is c.loop-item.invariant c.in_ok-goal.ensures

pub goal-returns-in_ok-goal-in-Not : goal.goal-returns-in_ok-goal-in-Not
goal-returns-in_ok-goal-in-Not t c =
    rw c.in-Not.is
    (gather_not c.args.world.now c.args.values.now (goal_steps c.in-Not.inner) c.args.gathering.now c.enter.new.self c.goal.new.gathering c.leave.new.self
    c.in_ok-enter-in-Not.ensures (c.in_ok-goal-in-Not.ensures ∙ ap (λ g. gather_each c.args.world.now c.args.values.now c.enter.new.self (goal_steps g)) c.get-in-Not.ensures) c.leave.ensures
    ∙ ap (λ s. gather_each c.args.world.now c.args.values.now c.args.gathering.now s) (sym (ap goal_steps (sym (rolls-Not c.in-Not.inner)) ∙ fold-roll-Goal (List Step) goal_at (Goal-F.Not c.in-Not.inner))))
