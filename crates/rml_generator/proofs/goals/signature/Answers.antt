use Rattle.std.proofs.Common.{List, ℕ, map, subst}
use Rattle.std.proofs.lemmas.Result.{err_from_is_err_and}
use Rattle.rml_types.specs.declared.tree.SchemeTree.{SchemeTree}
use Rattle.rml_resolved.specs.declared.trees.RExp.{RExp}
use Rattle.rml_resolved.specs.declared.trees.RPat.{RPat}
use Rattle.rml_typed.specs.Typed.{ExpsOf, PatternsOf}
use Rattle.rml_equations.specs.Coding.{relation_as}
use Rattle.rml_equations.specs.Joins.{Makes}
use Rattle.rml_generator.specs.declared.scope.Scope.{Scope}
use Rattle.rml_generator.specs.Adds.{Alone, Told, one_node}
use Rattle.rml_generator.specs.Scopes.{reads, uses, watched}
use Rattle.rml_generator.proofs.Adding.{found, left-no-memory}
use Rattle.rml_generator.proofs.Facts.{RelationOf, adds-relation, relation-left, relation-left-later}
use Rattle.rml_generator.proofs.Owning.{nodes-later, nodes-within, serves-later}
use Rattle.rml_generator.proofs.goals.signature.Goals as goal

abbrev Taken : Scope → List RExp → Told → List SchemeTree → Type 0
Taken s es told ts = ExpsOf (reads s) (uses s told) told.vars es ts

abbrev Given : Scope → List RPat → Told → List SchemeTree → Type 0
Given s ps told ts = PatternsOf (reads s) told.vars ps ts

pub patterns-requires : goal.patterns-requires
patterns-requires c = serves-later c.args.scope.now c.args.graph.now c.expressions.new.graph (Taken c.args.scope.now c.args.inputs.now) c.in_ok-taken.taken.items c.requires c.in_ok-taken.ensures.ok

pub relation-requires-clause-live : goal.relation-requires-clause-live
relation-requires-clause-live c = c.in_ok-given.ensures.ok.live

pub relation-requires-clause-inputs : goal.relation-requires-clause-inputs
relation-requires-clause-inputs c =
    let s = c.args.scope.now in
    nodes-later s.coding (watched s) c.args.graph.now c.expressions.new.graph c.patterns.new.graph (Taken s c.args.inputs.now) (Given s c.args.outputs.now) c.in_ok-taken.taken.items c.deref.result.now
    c.in_ok-given.given.items c.deref.ensures.value c.in_ok-taken.ensures.ok c.in_ok-given.ensures.ok

pub relation-requires-clause-outputs : goal.relation-requires-clause-outputs
relation-requires-clause-outputs c =
    let s = c.args.scope.now in
    nodes-within s.coding (watched s) c.expressions.new.graph c.patterns.new.graph (Given s c.args.outputs.now) c.in_ok-given.given.items c.deref-2.result.now c.deref-2.ensures.value c.in_ok-given.ensures.ok

pub returns-in_err-taken : goal.returns-in_err-taken
returns-in_err-taken c =
    let s = c.args.scope.now in
    let p = err_from_is_err_and c.from_residual.result c.from_residual.ensures.1 in
    relation-left s.coding (watched s) c.args.graph.now c.expressions.new.graph c.expressions.new.graph (Taken s c.args.inputs.now) (Given s c.args.outputs.now) c.from_residual.result p c.in_err-taken.ensures

pub returns-in_err-given : goal.returns-in_err-given
returns-in_err-given c =
    let s = c.args.scope.now in
    let p = err_from_is_err_and c.from_residual-in_err-given.result c.from_residual-in_err-given.ensures.1 in
    relation-left-later s.coding (watched s) c.args.graph.now c.expressions.new.graph c.patterns.new.graph c.patterns.new.graph (Taken s c.args.inputs.now) (Given s c.args.outputs.now)
    c.in_ok-taken.taken.items c.from_residual-in_err-given.result p c.requires.within c.in_ok-taken.ensures.ok c.in_err-given.ensures

pub returns-in_err-relation : goal.returns-in_err-relation
returns-in_err-relation c =
    let s = c.args.scope.now in
    let p = err_from_is_err_and c.from_residual-in_err-relation.result c.from_residual-in_err-relation.ensures.1 in
    left-no-memory s.coding (watched s) one_node c.args.graph.now c.relation.new.graph (Alone (RelationOf s.coding (watched s) (Taken s c.args.inputs.now) (Given s c.args.outputs.now))) c.from_residual-in_err-relation.result p

pub returns : goal.returns
returns c =
    let s = c.args.scope.now in let g = c.args.graph.now in let h = c.expressions.new.graph in let i = c.patterns.new.graph in let j = c.relation.new.graph in
    let n = c.in_ok-relation.field-0 in
    found s.coding (watched s) one_node g j (Alone (RelationOf s.coding (watched s) (Taken s c.args.inputs.now) (Given s c.args.outputs.now))) n
    (adds-relation s.coding (watched s) g h i j (Taken s c.args.inputs.now) (Given s c.args.outputs.now) c.in_ok-taken.taken.items c.in_ok-given.given.items n c.requires.within c.in_ok-taken.ensures.ok c.in_ok-given.ensures.ok
    (subst (λ (xs : List ℕ). Makes i j (λ types. relation_as s.coding (map types xs) (map types c.in_ok-given.given.items)) n) c.deref.ensures.value
    (subst (λ (ys : List ℕ). Makes i j (λ types. relation_as s.coding (map types c.deref.result.now) (map types ys)) n) c.deref-2.ensures.value c.in_ok-relation.ensures)))
