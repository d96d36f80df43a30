use Rattle.rml_types.proofs.Growth.{stands}
use Rattle.rml_types.proofs.graph.Graph.stand.Goals as goal

pub returns : goal.returns
returns c =
    let s = stands c.args.self.now c.app.new.self c.args.con c.args.args.now c.app.result c.app.ensures.node c.app.ensures.ok c.app.ensures.types c.app.ensures.err in
    record { keeps = s.keeps; within = s.within; types = s.types }
