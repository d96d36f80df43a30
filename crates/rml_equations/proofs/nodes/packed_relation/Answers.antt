use Rattle.std.proofs.Common.{[], ◌∷◌}
use Rattle.rml_types.specs.declared.form.TypeCon.TheVariants as con
use Rattle.rml_equations.proofs.Joining.{makes-app-at, makes-packed-at, rel-no-variable}
use Rattle.rml_equations.proofs.nodes.packed_relation.Goals as goal

pub returns : goal.returns
returns c =
    let a = c.in_ok-taken.taken in let b = c.in_ok-given.given in
    makes-packed-at c.args.graph.now c.tuple.new.graph c.tuple-2.new.graph c.app.new.self c.args.inputs.now c.args.outputs.now a b c.app.result c.in_ok-taken.ensures c.in_ok-given.ensures
    (makes-app-at c.tuple-2.new.graph c.app.new.self (con.Rel 1) (a ∷ b ∷ []) c.app.result (rel-no-variable 1) c.in_ok-given.ensures.live c.app.ensures.node c.app.ensures.ok c.app.ensures.types)
