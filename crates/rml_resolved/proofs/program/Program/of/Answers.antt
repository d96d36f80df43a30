use Rattle.rml_resolved.proofs.program.Program.of.Goals as goal

pub invariant_of-result : goal.invariant_of-result
invariant_of-result c =
    let f = c.requires in
    record {
      names_are_bytes = f.names_are_bytes;
      names_differ = f.names_differ;
      types_first = f.types_first;
      cons_first = f.cons_first;
      relations_first = f.relations_first;
      types_fit = f.types_fit;
      cons_fit = f.cons_fit;
      vals_fit = f.vals_fit;
      relations_fit = f.relations_fit;
      types_end = f.types_end;
      vals_end = f.vals_end;
      bound_once = f.bound_once;
      used_after = f.used_after;
      rules_small = f.rules_small;
      long_rule = f.long_rule;
      light = f.light;
      main_fits = f.main_fits;
    }
