use Rattle.rml_search.proofs.Depth as depth
use Rattle.rml_search.proofs.laws.calls_unroll.Goals as goal

pub returns : goal.returns
returns c = depth.calls_unroll
