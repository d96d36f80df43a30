use Rattle.std.proofs.Common.{List, [], ◌∷◌}
use Rattle.std.proofs.lemmas.Result.{err_from_is_err_and}
use Rattle.rml_types.specs.declared.tree.SchemeTree.{SchemeTree}
use Rattle.rml_resolved.specs.declared.trees.Callee.{Callee}
use Rattle.rml_resolved.specs.declared.trees.RExp.{RExp}
use Rattle.rml_resolved.specs.declared.trees.RPat.{RPat}
use Rattle.rml_typed.specs.Typed.{CalleeOf}
use Rattle.rml_generator.specs.declared.scope.Scope.{Scope}
use Rattle.rml_generator.specs.Adds.{Alone, Told}
use Rattle.rml_generator.specs.Scopes.{reads, uses, watched}
use Rattle.rml_generator.proofs.Facts.{same-found, same-left, same-left-later}
use Rattle.rml_generator.proofs.Owning.{node-later, node-within, serves-later}
use Rattle.rml_generator.proofs.GoalParts.{SignatureOf}
use Rattle.rml_generator.proofs.goals.call.Goals as goal

abbrev First : Scope → Callee → Told → SchemeTree → Type 0
First s f told t = CalleeOf (reads s) (uses s told) told.vars f t

abbrev Second : Scope → List RExp → List RPat → Told → SchemeTree → Type 0
Second s es ps told t = SignatureOf (reads s) (uses s told) told.vars es ps t

pub signature-requires : goal.signature-requires
signature-requires c = serves-later c.args.scope.now c.args.graph.now c.callee.new.graph (Alone (First c.args.scope.now c.args.f)) (c.in_ok-called.called ∷ []) c.requires c.in_ok-called.ensures.ok

pub same-requires-clause-live : goal.same-requires-clause-live
same-requires-clause-live c = c.in_ok-wanted.ensures.ok.live

pub same-requires-clause-a_within : goal.same-requires-clause-a_within
same-requires-clause-a_within c =
    let s = c.args.scope.now in
    node-later s.coding (watched s) c.args.graph.now c.callee.new.graph c.signature.new.graph (Alone (First s c.args.f)) (Alone (Second s c.args.inputs.now c.args.outputs.now)) c.in_ok-called.called c.in_ok-wanted.wanted c.in_ok-called.ensures.ok c.in_ok-wanted.ensures.ok

pub same-requires-clause-b_within : goal.same-requires-clause-b_within
same-requires-clause-b_within c =
    let s = c.args.scope.now in
    node-within s.coding (watched s) c.callee.new.graph c.signature.new.graph (Alone (Second s c.args.inputs.now c.args.outputs.now)) c.in_ok-wanted.wanted c.in_ok-wanted.ensures.ok

pub returns-in_err-called : goal.returns-in_err-called
returns-in_err-called c =
    let s = c.args.scope.now in
    let p = err_from_is_err_and c.from_residual.result c.from_residual.ensures.1 in
    same-left s.coding (watched s) c.args.graph.now c.callee.new.graph c.callee.new.graph (First s c.args.f) (Second s c.args.inputs.now c.args.outputs.now) c.from_residual.result p c.in_err-called.ensures

pub returns-in_err-wanted : goal.returns-in_err-wanted
returns-in_err-wanted c =
    let s = c.args.scope.now in
    let p = err_from_is_err_and c.from_residual-in_err-wanted.result c.from_residual-in_err-wanted.ensures.1 in
    same-left-later s.coding (watched s) c.args.graph.now c.callee.new.graph c.signature.new.graph c.signature.new.graph (First s c.args.f) (Second s c.args.inputs.now c.args.outputs.now) c.in_ok-called.called c.from_residual-in_err-wanted.result p c.requires.within c.in_ok-called.ensures.ok
    c.in_err-wanted.ensures

pub returns : goal.returns
returns c =
    let s = c.args.scope.now in
    same-found s.coding (watched s) c.args.graph.now c.callee.new.graph c.signature.new.graph c.same.new.graph (First s c.args.f) (Second s c.args.inputs.now c.args.outputs.now) c.in_ok-called.called c.in_ok-wanted.wanted c.same.result c.requires.within c.in_ok-called.ensures.ok
    c.in_ok-wanted.ensures.ok c.same.ensures
