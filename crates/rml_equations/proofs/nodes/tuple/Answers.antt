use Rattle.rml_types.specs.declared.form.TypeCon.TheVariants as con
use Rattle.rml_equations.proofs.Joining.{makes-app-at, tuple-no-variable}
use Rattle.rml_equations.proofs.nodes.tuple.Goals as goal

pub returns : goal.returns
returns c = makes-app-at c.args.graph.now c.app.new.self con.Tuple c.args.nodes.now c.app.result tuple-no-variable c.requires.live c.app.ensures.node c.app.ensures.ok c.app.ensures.types
