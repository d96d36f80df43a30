use denote.Param.Weighed.{at_most}
use Rattle.std.proofs.lemmas.Grind.{common_steps}
use Rattle.std.proofs.Common.{ap, ◌∙◌, List, [], arith, subst, sym}
use Rattle.std.proofs.lemmas.Result.{err_from_is_err_and}
use Rattle.rml_types.specs.declared.tree.SchemeTree.{SchemeTree}
use Rattle.rml_resolved.specs.declared.trees.RExp.{RExp}
use Rattle.rml_resolved.specs.declared.trees.RPat.{RPat}
use Rattle.rml_resolved.specs.declared.trees.RGoal.{RGoal, size-RGoal}
use Rattle.rml_resolved.specs.declared.trees.RGoal.TheOpen.{RGoal-F}
use Rattle.rml_resolved.specs.declared.trees.RGoal.TheVariants as tree
use Rattle.rml_typed.specs.Typed.{CalleeOf, GoalOf, GoalsOf}
use Rattle.rml_generator.specs.declared.scope.Scope.{Scope}
use Rattle.rml_generator.specs.Adds.{Bare, Told}
use Rattle.rml_generator.specs.Scopes.{FindsFact, reads, uses, watched}
use Rattle.rml_generator.proofs.Facts.{FactsOf, facts-found, facts-left, facts-more, facts-none}
use Rattle.rml_generator.proofs.GoalParts.{SignatureOf, each-goal, goal-found, goals-each}
use Rattle.rml_generator.proofs.Owning.{serves-later}
use Rattle.rml_generator.proofs.goals.+goals.Goals as goal

abbrev IsOf : Scope → Told → RGoal → Type 0
IsOf s told x = GoalOf (reads s) (uses s told) told.vars x

abbrev AllOf : Scope → List RGoal → Told → Type 0
AllOf s xs told = GoalsOf (reads s) (uses s told) told.vars xs

pub goal-returns-in-Call : goal.goal-returns-in-Call
goal-returns-in-Call t c =
    let s = c.args.scope.now in let g = c.args.graph.now in let h = c.call.new.graph in
    let Found : List RExp → List RPat → Type 0 = λ es ps.
    FindsFact s g h (λ told. (u : SchemeTree) × CalleeOf (reads s) (uses s told) told.vars c.in-Call.f u × SignatureOf (reads s) (uses s told) told.vars es ps u) c.call.result in
    goal-found s g h c.args.one.now (RGoal-F.Call c.in-Call.f c.in-Call.inputs c.in-Call.outputs) c.call.result (tree.rolls-Call c.in-Call.f c.in-Call.inputs c.in-Call.outputs ∙ sym c.in-Call.is)
    (subst (λ (es : List RExp). Found es c.in-Call.outputs) c.as_slice.ensures (subst (λ (ps : List RPat). Found c.as_slice.result.now ps) c.as_slice-in-Call.ensures c.call.ensures))

pub goal-returns-in-Equal : goal.goal-returns-in-Equal
goal-returns-in-Equal t c =
    goal-found c.args.scope.now c.args.graph.now c.equal.new.graph c.args.one.now (RGoal-F.Equal c.in-Equal.a c.in-Equal.b) c.equal.result (tree.rolls-Equal c.in-Equal.a c.in-Equal.b ∙ sym c.in-Equal.is) c.equal.ensures

pub goal-returns-in-Let : goal.goal-returns-in-Let
goal-returns-in-Let t c =
    goal-found c.args.scope.now c.args.graph.now c.define.new.graph c.args.one.now (RGoal-F.Let c.in-Let.p c.in-Let.e) c.define.result (tree.rolls-Let c.in-Let.p c.in-Let.e ∙ sym c.in-Let.is) c.define.ensures

pub goal-returns-in-Not : goal.goal-returns-in-Not
goal-returns-in-Not t c =
    let s = c.args.scope.now in let g = c.args.graph.now in let h = c.goal.new.graph in
    goal-found s g h c.args.one.now (RGoal-F.Not c.in-Not.inner) c.goal.result (tree.rolls-Not c.in-Not.inner ∙ sym c.in-Not.is)
    (subst (λ (x : RGoal). FindsFact s g h (λ told. IsOf s told x) c.goal.result) c.get.ensures c.goal.ensures)

pub goal-returns-in-All : goal.goal-returns-in-All
goal-returns-in-All t c =
    let s = c.args.scope.now in let g = c.args.graph.now in let h = c.goals.new.graph in
    goal-found s g h c.args.one.now (RGoal-F.All c.in-All.inner) c.goals.result (tree.rolls-All c.in-All.inner ∙ sym c.in-All.is)
    (subst (λ (xs : List RGoal). FindsFact s g h (AllOf s xs) c.goals.result) c.as_slice-in-All.ensures c.goals.ensures)

pub goals-loop-one-init : goal.goals-loop-one-init
goals-loop-one-init t c = let s = c.args.scope.now in facts-none s.coding (watched s) (IsOf s) c.args.all.now c.args.graph.now c.requires.live

pub goals-loop-one-preserved : goal.goals-loop-one-preserved
goals-loop-one-preserved t c =
    let s = c.args.scope.now in
    facts-more s.coding (watched s) (IsOf s) c.args.all.now c.args.graph.now c.loop-one.graph c.goal.new.graph c.loop-one.one-index c.one-item.result c.loop-one-test.true c.one-item.is c.requires.within c.loop-one.invariant c.in_ok-goal.ensures.ok

pub goals-goal-requires : goal.goals-goal-requires
goals-goal-requires t c =
    let s = c.args.scope.now in
    let deepest = at_most (λ (x : RGoal). size-RGoal x) c.args.all.now c.loop-one.one-index c.one-item.result c.loop-one-test.true in
    let same = ap (λ (x : RGoal). size-RGoal x) c.one-item.is in
    (first_of (omega (arith, deepest, same, c.decreases), grind (arith, common_steps, deepest, same, c.decreases)), serves-later s c.args.graph.now c.loop-one.graph (Bare (FactsOf s.coding (watched s) (IsOf s) c.args.all.now c.loop-one.one-index)) [] c.requires c.loop-one.invariant)

pub goals-returns-in_err-goal : goal.goals-returns-in_err-goal
goals-returns-in_err-goal t c =
    let s = c.args.scope.now in
    let p = err_from_is_err_and c.from_residual.result c.from_residual.ensures.1 in
    facts-left s.coding (watched s) (IsOf s) c.args.all.now c.args.graph.now c.loop-one.graph c.goal.new.graph c.goal.new.graph c.loop-one.one-index c.one-item.result (AllOf s c.args.all.now) c.from_residual.result p
    c.loop-one-test.true c.one-item.is c.requires.within (λ told u. each-goal (reads s) (uses s told) told.vars c.args.all.now u) c.loop-one.invariant c.in_err-goal.ensures

pub goals-returns : goal.goals-returns
goals-returns t c =
    let s = c.args.scope.now in
    facts-found s.coding (watched s) (IsOf s) c.args.all.now c.args.graph.now c.loop-one.graph c.loop-one.one-index (AllOf s c.args.all.now) _ c.loop-one-test.false
    (λ told z. goals-each (reads s) (uses s told) told.vars c.args.all.now z) (λ told u. each-goal (reads s) (uses s told) told.vars c.args.all.now u) c.loop-one.invariant
