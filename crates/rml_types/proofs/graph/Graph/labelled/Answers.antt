use Rattle.rml_types.proofs.Growth.{labelled}
use Rattle.rml_types.proofs.graph.Graph.labelled.Goals as goal

pub returns-in_default : goal.returns-in_default
returns-in_default c =
    let l = labelled c.args.self.now c.app.new.self c.args.con c.args.args.now c.args.vars.now c.app.result c.in_default.not-Fixed c.app.ensures.node c.app.ensures.ok c.app.ensures.types c.app.ensures.err in
    record { grows = l.grows; within = l.within; types = l.types }
