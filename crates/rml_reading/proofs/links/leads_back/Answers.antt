use Rattle.std.proofs.Common.{◌<◌, length, arith}
use Rattle.rml_reading.proofs.Leading.{leads_back_is}
use Rattle.rml_reading.proofs.links.leads_back.Goals as goal

pub bounds-chosen-other : goal.bounds-chosen-other
bounds-chosen-other c = let below : c.args.other < length c.args.links.now = c.requires.graph.within c.args.own c.args.other c.requires.edge in omega arith

pub returns : goal.returns
returns c =
    leads_back_is c.args.links.now c.args.chosen.now c.args.own c.args.other c.short_paths_are_enough.ensures.enough c.short_paths_are_enough.ensures.sound
    c.requires.same c.requires.own (c.requires.graph.within c.args.own c.args.other c.requires.edge) c.requires.edge
