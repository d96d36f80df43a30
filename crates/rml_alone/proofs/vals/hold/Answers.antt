use Rattle.std.proofs.Common.{[], ◌∷◌, Err, ap}
use Rattle.std.proofs.lemmas.Result.{err_from_is_err_and}
use Rattle.rml_types.specs.declared.tree.SchemeTree.{SchemeTree}
use Rattle.rml_typed.specs.Typed.{ExpOf}
use Rattle.rml_resolved.specs.declared.trees.RExp.{RExp}
use Rattle.rml_generator.specs.declared.scope.Scope.{Scope}
use Rattle.rml_generator.specs.Adds.{Alone, Bare, Told, no_node, one_node}
use Rattle.rml_generator.specs.Scopes.{reads, uses, watched}
use Rattle.rml_generator.proofs.Callers.{found, left-part, left-refuted}
use Rattle.rml_alone.proofs.Deciding.{adds-held, clashed, refutes-held}
use Rattle.rml_alone.proofs.vals.hold.Goals as goal

abbrev IsOf : Scope → RExp → Told → SchemeTree → Type 0
IsOf s e told t = ExpOf (reads s) (uses s told) told.vars e t

pub returns-in_err-node : goal.returns-in_err-node
returns-in_err-node c = λ t is.
    let s = c.args.scope.now in let e = c.args.exp.now in
    let p = err_from_is_err_and c.from_residual.result c.from_residual.ensures.1 in
    left-part s.coding (watched s) one_node no_node c.args.graph.now c.expression.new.graph c.expression.new.graph (Alone (IsOf s e)) (Bare (λ told. IsOf s e told t)) c.from_residual.result p (λ told ts u. (t ∷ [], u.1))
    c.in_err-node.ensures

pub returns : goal.returns
returns c = λ t is.
    let s = c.args.scope.now in let e = c.args.exp.now in let g = c.args.graph.now in let h = c.expression.new.graph in let i = c.unify.new.self in
    found s.coding (watched s) no_node g i (Bare (λ told. IsOf s e told t)) tt
    (adds-held s.coding (watched s) g h (IsOf s e) c.in_ok-node.node c.args.wanted t is c.in_ok-node.ensures.ok i
    (record { live = c.in_ok-unify.ensures.failed; forms = c.in_ok-unify.ensures.forms; types = c.in_ok-unify.ensures.types }))

pub returns-in_err-unify : goal.returns-in_err-unify
returns-in_err-unify c = λ t is.
    let s = c.args.scope.now in let e = c.args.exp.now in let g = c.args.graph.now in let h = c.expression.new.graph in
    let p = err_from_is_err_and c.from_residual-in_err-unify.result c.from_residual-in_err-unify.ensures.1 in
    left-refuted s.coding (watched s) no_node g c.unify.new.self (Bare (λ told. IsOf s e told t)) c.from_residual-in_err-unify.result p
    (λ q. refutes-held s.coding (watched s) g h (IsOf s e) c.in_ok-node.node c.args.wanted t is c.in_ok-node.ensures.ok
    (c.in_err-unify.ensures.no_types (ap Err (clashed c.in_err-unify.field-0.0 q)) c.in_ok-node.ensures.ok.live))
