use Rattle.rml_value.specs.Lists.{list_of}
use Rattle.rml_cell_bench.specs.Held.{below}
use Rattle.rml_cell_bench.proofs.PlacedValues.{list-stays, no-lvars}
use Rattle.rml_cell_bench.proofs.placing.two_lists.Goals as goal

pub list_below-requires : goal.list_below-requires
list_below-requires c = no-lvars c.args.heap.now.values c.requires

pub returns : goal.returns
returns c =
    record {
      binds = c.in_ok-second.ensures.binds;
      stand = (list-stays c.list_below.new.heap c.list_below-2.new.heap c.in_ok-first.first (list_of (below c.args.n)) c.in_ok-second.ensures.grows c.in_ok-first.ensures.list, (c.in_ok-second.ensures.list, tt));
    }
