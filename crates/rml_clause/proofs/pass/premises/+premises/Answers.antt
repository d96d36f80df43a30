use denote.Param.Weighed.{at_most}
use Rattle.std.proofs.Common.{◌+◌, ◌-◌, [], ◌∷◌, ◌++◌, length, sym, ap, ◌∙◌, arith}
use Rattle.std.proofs.lemmas.Grind.{common_steps}
use Rattle.rml_resolved.specs.declared.trees.RGoal.{RGoal, size-RGoal}
use Rattle.std.specs.Prelude.{sum_by}
use Rattle.rml_resolved.specs.declared.trees.RGoal.TheVariants as goal_of
use Rattle.rml_resolved.specs.Size.{exp_size, goal_size}
use Rattle.rml_fol.specs.declared.statements.Stmt.TheVariants as stmt
use Rattle.rml_clause.specs.Plain.{ArePremises}
use Rattle.rml_clause.specs.Within.{goal_within}
use Rattle.rml_clause.proofs.Adding.{adds-nothing}
use Rattle.rml_clause.proofs.Rows.{every-at, sum-at, patterns-count}
use Rattle.rml_clause.proofs.MadePremises.{negates}
use Rattle.rml_clause.proofs.Returned.{goal_size-Call, call-returns, not-returns as negation-returns, all-returns, premised-more}
use Rattle.rml_clause.proofs.pass.premises.+premises.Goals as goal

pub not-returns : goal.not-returns
not-returns t c =
    negates c.args.making.now c.new-inside.result c.premise.new.making c.add.new.self c.add-2.new.self (goal_size c.args.goal.now) c.new-inside.ensures.stmts c.new-inside.ensures.next
    c.in_ok-premise.ensures (c.in_ok-add.ensures.stmts ∙ ap (λ xs. c.premise.new.making.stmts ++ stmt.Give xs ∷ []) c.new-nothing.ensures) c.in_ok-add.ensures.next
    c.in_ok-add-2.ensures.stmts c.in_ok-add-2.ensures.next

pub premise-call-requires-clause-room : goal.premise-call-requires-clause-room
premise-call-requires-clause-room t c =
    let size = ap goal_size c.in-Call.is ∙ goal_size-Call c.in-Call.callee c.in-Call.es c.in-Call.ps in
    let few = patterns-count c.in-Call.ps in
    omega (arith, c.requires.room, size, few, ap (λ es. sum_by exp_size es) c.as_slice.ensures, ap (λ ps. length ps) c.as_slice-in-Call.ensures)

pub premise-returns-in-Call : goal.premise-returns-in-Call
premise-returns-in-Call t c =
    call-returns c.args.names.now c.args.params c.call.result c.args.making.now c.call.new.making c.args.goal.now c.in-Call.callee c.as_slice.result.now c.as_slice-in-Call.result.now
    (c.in-Call.is ∙ ap (λ es. goal_of.Call c.in-Call.callee es c.in-Call.ps) (sym c.as_slice.ensures) ∙ ap (λ ps. goal_of.Call c.in-Call.callee c.as_slice.result.now ps) (sym c.as_slice-in-Call.ensures))
    c.call.ensures

pub premise-returns-in-Not : goal.premise-returns-in-Not
premise-returns-in-Not t c =
    negation-returns c.args.names.now c.args.params c.not.result c.args.making.now c.not.new.making c.args.goal.now c.get.result.now
    (c.in-Not.is ∙ ap (λ g. goal_of.Not g) (sym c.get.ensures)) c.not.ensures

pub premise-returns-in-All : goal.premise-returns-in-All
premise-returns-in-All t c =
    all-returns c.args.names.now c.args.params c.premises.result c.args.making.now c.premises.new.making c.args.goal.now c.as_slice-in-All.result.now
    (c.in-All.is ∙ ap (λ gs. goal_of.All gs) (sym c.as_slice-in-All.ensures)) c.premises.ensures

pub premises-loop-goal-init : goal.premises-loop-goal-init
premises-loop-goal-init t c = adds-nothing c.args.making.now 0 ArePremises.none

pub premises-premise-requires : goal.premises-premise-requires
premises-premise-requires t c =
    let so_far = c.loop-goal.invariant in
    let more = sum-at goal_size c.args.goals.now c.loop-goal.goal-index c.goal-item.result c.goal-item.result c.loop-goal-test.true c.goal-item.is in
    let deepest = at_most (λ (x : RGoal). size-RGoal x) c.args.goals.now c.loop-goal.goal-index c.goal-item.result c.loop-goal-test.true in
    let same = ap (λ (x : RGoal). size-RGoal x) c.goal-item.is in (
      first_of (omega (arith, deepest, same, c.decreases), grind (arith, common_steps, deepest, same, c.decreases)),
      (
        every-at (goal_within (4294967296 - c.args.params)) c.args.goals.now c.loop-goal.goal-index c.goal-item.result c.goal-item.result c.loop-goal-test.true c.goal-item.is c.requires.within,
        omega (arith, more, c.loop-goal.invariant.next, c.loop-goal.invariant.few, c.requires.room),
      ),
    )

pub premises-loop-goal-preserved : goal.premises-loop-goal-preserved
premises-loop-goal-preserved t c =
    premised-more c.args.names.now c.args.params c.args.making.now c.loop-goal.making c.premise.new.making c.args.goals.now c.loop-goal.goal-index c.goal-item.result c.goal-item.result
    c.loop-goal-test.true c.goal-item.is c.loop-goal.invariant c.in_ok-premise.ensures
