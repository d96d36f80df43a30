use Rattle.rml_resolved.proofs.Numbers.{one_number, all_apart}
use Rattle.rml_resolved.proofs.laws.names_have_one_number.Goals as goal

pub returns-clause-exact : goal.returns-clause-exact
returns-clause-exact c = λ names. (one_number names, all_apart names)

pub returns-clause-kept : goal.returns-clause-kept
returns-clause-kept c = λ p. one_number p.names p.names_differ
