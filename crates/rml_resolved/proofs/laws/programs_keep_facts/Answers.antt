use Rattle.rml_resolved.proofs.Facts.{facts, whole}
use Rattle.rml_resolved.proofs.laws.programs_keep_facts.Goals as goal

pub returns-clause-kept : goal.returns-clause-kept
returns-clause-kept c = λ p. record {
  names_are_bytes = p.names_are_bytes;
  names_differ = p.names_differ;
  types_first = p.types_first;
  cons_first = p.cons_first;
  relations_first = p.relations_first;
  types_fit = p.types_fit;
  cons_fit = p.cons_fit;
  vals_fit = p.vals_fit;
  relations_fit = p.relations_fit;
  types_end = p.types_end;
  vals_end = p.vals_end;
  bound_once = p.bound_once;
  used_after = p.used_after;
  rules_small = p.rules_small;
  long_rule = p.long_rule;
  light = p.light;
  main_fits = p.main_fits;
}

pub returns-clause-exact : goal.returns-clause-exact
returns-clause-exact c = λ parts. (facts parts, whole parts)
