use Rattle.rml_simulation.proofs.Tried.{counted_local, counted_grows, counted_spends, counting_exact, counting_answers}
use Rattle.rml_simulation.proofs.examples.counting_takes_its_steps.Goals as goal

pub returns-clause-local : goal.returns-clause-local
returns-clause-local c = counted_local

pub returns-clause-grows : goal.returns-clause-grows
returns-clause-grows c = counted_grows

pub returns-clause-spends : goal.returns-clause-spends
returns-clause-spends c = counted_spends

pub returns-clause-exact : goal.returns-clause-exact
returns-clause-exact c = counting_exact

pub returns-clause-answers : goal.returns-clause-answers
returns-clause-answers c = counting_answers
