use Rattle.rml_cell_bench.proofs.Repeating.{are-values}
use Rattle.rml_cell_bench.proofs.calls.lists_compared.Goals as goal

pub compare-requires : goal.compare-requires
compare-requires c = are-values c.two_lists.new.heap.values c.in-Ok.pair.0 c.in-Ok.pair.1 _ _ c.in-Ok.ensures
