use Rattle.std.proofs.Common.{◌≡◌, ◌<◌, length, sym}
use Rattle.std.proofs.lemmas.List.Elements.{All-nil}
use Rattle.std.proofs.lemmas.Result.{err_from_is_err_and}
use Rattle.rml_generator.specs.Adds.{Alone, one_node}
use Rattle.rml_generator.specs.Scopes.{watched}
use Rattle.rml_generator.proofs.Adding.{found, left-no-memory}
use Rattle.rml_generator.proofs.Scoping.{adds-unknown, adds-variable}
use Rattle.rml_generator.proofs.scope.Scope.variable.Goals as goal

pub tuple-requires-clause-within : goal.tuple-requires-clause-within
tuple-requires-clause-within c = All-nil (λ n. n < length c.args.graph.now.forms)

pub returns-in-Some : goal.returns-in-Some
returns-in-Some c =
    let s = c.args.self.now in let g = c.args.graph.now in
    found s.coding (watched s) one_node g g (Alone (λ told t. t ≡ told.vars c.args.x)) c.in-Some.node.now
    (adds-variable s.coding (watched s) g c.args.x c.in-Some.node.now c.requires.live c.requires.within (sym c.in-Some.ensures))

pub returns-in_err-tuple-in-None : goal.returns-in_err-tuple-in-None
returns-in_err-tuple-in-None c =
    let s = c.args.self.now in
    let p = err_from_is_err_and c.from_residual.result c.from_residual.ensures.1 in
    left-no-memory s.coding (watched s) one_node c.args.graph.now c.tuple.new.graph (Alone (λ told t. t ≡ told.vars c.args.x)) c.from_residual.result p

pub returns-in_ok-tuple-in-None : goal.returns-in_ok-tuple-in-None
returns-in_ok-tuple-in-None c =
    let s = c.args.self.now in let g = c.args.graph.now in let h = c.tuple.new.graph in
    found s.coding (watched s) one_node g h (Alone (λ told t. t ≡ told.vars c.args.x)) c.in_ok-tuple-in-None.field-0
    (adds-unknown s.coding (watched s) g c.args.x h c.in_ok-tuple-in-None.field-0 (sym c.in-None.ensures) c.in_ok-tuple-in-None.ensures)
