use Rattle.std.proofs.Common.{[], ◌∷◌}
use Rattle.std.proofs.lemmas.Result.{err_from_is_err_and}
use Rattle.rml_types.specs.declared.tree.SchemeTree.{SchemeTree}
use Rattle.rml_resolved.specs.declared.trees.RExp.{RExp}
use Rattle.rml_typed.specs.Typed.{ExpOf}
use Rattle.rml_generator.specs.declared.scope.Scope.{Scope}
use Rattle.rml_generator.specs.Adds.{Alone, Told}
use Rattle.rml_generator.specs.Scopes.{reads, uses, watched}
use Rattle.rml_generator.proofs.Facts.{same-found, same-left, same-left-later}
use Rattle.rml_generator.proofs.Owning.{node-later, node-within, serves-later}
use Rattle.rml_generator.proofs.goals.equal.Goals as goal

abbrev First : Scope → RExp → Told → SchemeTree → Type 0
First s e told t = ExpOf (reads s) (uses s told) told.vars e t

abbrev Second : Scope → RExp → Told → SchemeTree → Type 0
Second s e told t = ExpOf (reads s) (uses s told) told.vars e t

pub expression-requires-2 : goal.expression-requires-2
expression-requires-2 c = serves-later c.args.scope.now c.args.graph.now c.expression.new.graph (Alone (First c.args.scope.now c.args.a.now)) (c.in_ok-left.left ∷ []) c.requires c.in_ok-left.ensures.ok

pub same-requires-clause-live : goal.same-requires-clause-live
same-requires-clause-live c = c.in_ok-right.ensures.ok.live

pub same-requires-clause-a_within : goal.same-requires-clause-a_within
same-requires-clause-a_within c =
    let s = c.args.scope.now in
    node-later s.coding (watched s) c.args.graph.now c.expression.new.graph c.expression-2.new.graph (Alone (First s c.args.a.now)) (Alone (Second s c.args.b.now)) c.in_ok-left.left c.in_ok-right.right c.in_ok-left.ensures.ok c.in_ok-right.ensures.ok

pub same-requires-clause-b_within : goal.same-requires-clause-b_within
same-requires-clause-b_within c =
    let s = c.args.scope.now in
    node-within s.coding (watched s) c.expression.new.graph c.expression-2.new.graph (Alone (Second s c.args.b.now)) c.in_ok-right.right c.in_ok-right.ensures.ok

pub returns-in_err-left : goal.returns-in_err-left
returns-in_err-left c =
    let s = c.args.scope.now in
    let p = err_from_is_err_and c.from_residual.result c.from_residual.ensures.1 in
    same-left s.coding (watched s) c.args.graph.now c.expression.new.graph c.expression.new.graph (First s c.args.a.now) (Second s c.args.b.now) c.from_residual.result p c.in_err-left.ensures

pub returns-in_err-right : goal.returns-in_err-right
returns-in_err-right c =
    let s = c.args.scope.now in
    let p = err_from_is_err_and c.from_residual-in_err-right.result c.from_residual-in_err-right.ensures.1 in
    same-left-later s.coding (watched s) c.args.graph.now c.expression.new.graph c.expression-2.new.graph c.expression-2.new.graph (First s c.args.a.now) (Second s c.args.b.now) c.in_ok-left.left c.from_residual-in_err-right.result p c.requires.within c.in_ok-left.ensures.ok
    c.in_err-right.ensures

pub returns : goal.returns
returns c =
    let s = c.args.scope.now in
    same-found s.coding (watched s) c.args.graph.now c.expression.new.graph c.expression-2.new.graph c.same.new.graph (First s c.args.a.now) (Second s c.args.b.now) c.in_ok-left.left c.in_ok-right.right c.same.result c.requires.within c.in_ok-left.ensures.ok
    c.in_ok-right.ensures.ok c.same.ensures
