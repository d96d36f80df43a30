use Rattle.std.proofs.Common.{[]}
use Rattle.rml_types.specs.declared.form.TypeCon.TheVariants as con
use Rattle.rml_equations.proofs.Joining.{makes-app-at, named-no-variable}
use Rattle.rml_equations.proofs.nodes.constant.Goals as goal

pub returns : goal.returns
returns c = makes-app-at c.args.graph.now c.app.new.self (con.Named c.args.number) [] c.app.result (named-no-variable c.args.number) c.requires c.app.ensures.node c.app.ensures.ok c.app.ensures.types
