use Rattle.rml_cell_bench.proofs.Repeating.{are-values}
use Rattle.rml_cell_bench.proofs.calls.texts_compared.Goals as goal

pub compare-requires : goal.compare-requires
compare-requires c = are-values c.two_texts.new.heap.values c.in-Ok.pair.0 c.in-Ok.pair.1 _ _ c.in-Ok.ensures.texts
