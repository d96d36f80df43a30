use Rattle.std.proofs.Common.{◌≡◌, ℕ, List, ◌++◌, map, length, ap, ◌∙◌, arith}
use Rattle.rml_types.specs.declared.form.TypeCon.TheVariants as con
use Rattle.rml_types.specs.declared.tree.SchemeTree.TheVariants as tree
use Rattle.rml_types.specs.Finite.{built}
use Rattle.rml_equations.proofs.Joining.{makes-app-at, makes-like, rel-built, rel-no-variable}
use Rattle.rml_equations.proofs.nodes.plain_relation.Goals as goal

pub returns : goal.returns
returns c =
    let g = c.args.graph.now in let h = c.app.new.self in
    let ins = c.args.inputs.now in let outs = c.args.outputs.now in let all = c.deref.result.now in
    let is : all ≡ ins ++ outs = c.deref.ensures.value ∙ c.in_ok-extend_from_slice.ensures.items ∙ ap (λ (xs : List ℕ). xs ++ outs) c.in_ok-args.ensures.items in
    let count : c.in-Ok.count ≡ length ins = (let e = c.in-Ok.ensures in omega arith) in
    makes-like g h (λ types. built (con.Rel c.in-Ok.count) (map types all)) (λ types. tree.Rel (map types ins) (map types outs)) c.app.result (λ types. rel-built types c.in-Ok.count ins outs all count is)
    (makes-app-at g h (con.Rel c.in-Ok.count) all c.app.result (rel-no-variable c.in-Ok.count) c.requires.live c.app.ensures.node c.app.ensures.ok c.app.ensures.types)
