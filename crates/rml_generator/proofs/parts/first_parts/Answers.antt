use Rattle.std.proofs.Common.{◌<◌, ◌≤◌, ◌-◌, List, [], length, take, ap, arith}
use Rattle.std.proofs.lemmas.Result.{err_from_is_err_and}
use Rattle.rml_resolved.specs.declared.trees.RGoal.{RGoal}
use Rattle.rml_typed.specs.Typed.{GoalsOf}
use Rattle.rml_generator.specs.declared.scope.Scope.{Scope}
use Rattle.rml_generator.specs.Adds.{Bare, Told}
use Rattle.rml_generator.specs.Scopes.{reads, uses, watched}
use Rattle.rml_generator.specs.Sides.{side_nodes}
use Rattle.rml_generator.proofs.Holding.{gives-later}
use Rattle.rml_generator.proofs.Owning.{serves-later, within-longer}
use Rattle.rml_generator.proofs.Pieces.{all-found, head-left, none-found, premises-left, some-found}
use Rattle.rml_generator.proofs.parts.first_parts.Goals as goal

abbrev Premises : Scope → List RGoal → Told → Type 0
Premises s gs told = GoalsOf (reads s) (uses s told) told.vars gs

pub goals-requires : goal.goals-requires
goals-requires c = c.in_ok-head.ensures.goes.serves

pub goals-requires-2 : goal.goals-requires-2
goals-requires-2 c = c.in_ok-head.ensures.goes.serves

pub results-requires-clause-serves : goal.results-requires-clause-serves
results-requires-clause-serves c =
    serves-later c.args.scope.now c.head.new.graph c.goals-2.new.graph (Bare (Premises c.args.scope.now c.as_slice-premises.result.now)) [] c.in_ok-head.ensures.goes.serves c.in_ok-goals.ensures.ok

pub results-requires-clause-side : goal.results-requires-clause-side
results-requires-clause-side c =
    within-longer c.head.new.graph c.goals-2.new.graph (side_nodes c.args.outputs.now) c.in_ok-goals.ensures.ok.count
    (within-longer c.args.graph.now c.head.new.graph (side_nodes c.args.outputs.now) c.in_ok-head.ensures.goes.count c.requires.outputs)

pub returns-then-count-eq0 : goal.returns-then-count-eq0
returns-then-count-eq0 c = λ k gi go. none-found c.args.scope.now c.args.graph.now c.args.rule.now c.args.count k tt c.requires.serves.live c.if-count-eq0.true

pub returns-in_err-head : goal.returns-in_err-head
returns-in_err-head c = λ k gi go.
    let p = err_from_is_err_and c.from_residual.result c.from_residual.ensures.1 in
    head-left c.args.scope.now c.args.graph.now c.args.rule.now c.args.count k c.head.new.graph c.if-count-eq0.false c.as_slice.result.now c.as_slice.ensures c.head.new.graph c.from_residual.result p
    (c.in_err-head.ensures.finds (λ told. (k told).inputs) gi)

pub returns-then-count-premises : goal.returns-then-count-premises
returns-then-count-premises c = λ k gi go.
    let all = c.as_slice-premises.result.now in
    let few : c.args.count - 1 ≤ length c.args.rule.now.goals = (let l = ap length c.as_slice-premises.ensures in omega arith) in
    some-found c.args.scope.now c.args.graph.now c.args.rule.now c.args.count k c.head.new.graph c.if-count-eq0.false c.as_slice.result.now c.as_slice.ensures c.goals.new.graph (take (c.args.count - 1) all)
    c.requires.serves.within (c.in_ok-head.ensures.finds (λ told. (k told).inputs) gi).ok c.goals.result (ap (take (c.args.count - 1)) c.as_slice-premises.ensures) few c.goals.ensures

pub returns-in_err-goals : goal.returns-in_err-goals
returns-in_err-goals c = λ k gi go.
    let p = err_from_is_err_and c.from_residual-in_err-goals.result c.from_residual-in_err-goals.ensures.1 in
    let many : length c.args.rule.now.goals < c.args.count - 1 = (let l = ap length c.as_slice-premises.ensures in omega arith) in
    premises-left c.args.scope.now c.args.graph.now c.args.rule.now c.args.count k c.head.new.graph c.if-count-eq0.false c.as_slice.result.now c.as_slice.ensures c.goals-2.new.graph c.as_slice-premises.result.now
    c.requires.serves.within (c.in_ok-head.ensures.finds (λ told. (k told).inputs) gi).ok c.as_slice-premises.ensures many c.goals-2.new.graph c.from_residual-in_err-goals.result p c.in_err-goals.ensures

pub returns : goal.returns
returns c = λ k gi go.
    let s = c.args.scope.now in let g = c.args.graph.now in let i = c.goals-2.new.graph in
    let many : length c.args.rule.now.goals < c.args.count - 1 = (let l = ap length c.as_slice-premises.ensures in omega arith) in
    all-found s g c.args.rule.now c.args.count k c.head.new.graph c.if-count-eq0.false c.as_slice.result.now c.as_slice.ensures i c.as_slice-premises.result.now
    c.requires.serves.within (c.in_ok-head.ensures.finds (λ told. (k told).inputs) gi).ok c.as_slice-premises.ensures many c.results.new.graph c.as_slice-2.result.now c.results.result c.as_slice-2.ensures c.in_ok-goals.ensures.ok
    (c.results.ensures (λ told. (k told).outputs)
    (gives-later s.coding (watched s) g i c.args.outputs.now (λ told. (k told).outputs) (λ types has. c.in_ok-head.ensures.goes.old types (c.in_ok-goals.ensures.ok.old types has)) go))
