use Rattle.rml_simulation.proofs.SimulatesMoves.{weaken, both_step, old_step, new_step, old_run, both_prepend, both_make, old_make, new_make, both_weigh, old_weigh, new_weigh, both_test, equal, itself, old_wrong, new_full}
use Rattle.rml_simulation.proofs.laws.moves.Goals as goal

pub returns : goal.returns
returns c = record { weaken = weaken; both_step = both_step; old_step = old_step; new_step = new_step; old_run = old_run; both_prepend = both_prepend; both_make = both_make; old_make = old_make; new_make = new_make; both_weigh = both_weigh; old_weigh = old_weigh; new_weigh = new_weigh; both_test = both_test; equal = equal; itself = itself; old_wrong = old_wrong; new_full = new_full }
