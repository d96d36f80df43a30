use Rattle.rml_base.proofs.Tried.{earlier, one_way, no_slower, no_text_left_out, out_of_cells, none_held_back}
use Rattle.rml_base.proofs.examples.same_on_tiny_runs.Goals as goal

pub returns : goal.returns
returns c = record { earlier = earlier; one_way = one_way; no_slower = no_slower; no_text_left_out = no_text_left_out; out_of_cells = out_of_cells; none_held_back = none_held_back }
