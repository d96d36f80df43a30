use Rattle.rml_search.proofs.Depth as depth
use Rattle.rml_search.proofs.laws.depth_is_no_bound.Goals as goal

pub returns : goal.returns
returns c = depth.depth_is_no_bound
