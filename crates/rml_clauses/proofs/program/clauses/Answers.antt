use Rattle.rml_base.proofs.Callers.{light_right}
use Rattle.rml_search.specs.Runs as searched
use Rattle.rml_fol.specs.Runs.{runs_of}
use Rattle.rml_clauses.proofs.Made.{tables-light, tables-narrow}
use Rattle.rml_clauses.proofs.Kept.{keeps}
use Rattle.rml_clauses.proofs.program.clauses.Goals as goal

pub invariant_of-result : goal.invariant_of-result
invariant_of-result c =
    let parts = c.in_ok-parts.parts in
    let made = c.in_ok-parts.ensures in
    let kept = keeps c.args.program.now parts c.requires.agrees made in
    record {
      names_are_bytes = kept.names_are_bytes;
      cons_first = kept.cons_first;
      cons_small = kept.cons_small;
      vals_fit = kept.vals_fit;
      relations_fit = kept.relations_fit;
      main_fits = kept.main_fits;
      relations_scoped = kept.relations_scoped;
      blocks_end = kept.blocks_end;
      gives_fit = kept.gives_fit;
      relations_paid = kept.relations_paid;
      relations_small = kept.relations_small;
      light = kept.light;
      never_wrong =
          light_right (searched.runs_of c.args.program.now) (runs_of parts) c.requires.never_wrong
          (tables-light c.args.program.now parts c.requires.never_wrong c.requires.agrees made);
    }

pub returns-clause-light : goal.returns-clause-light
returns-clause-light c = tables-light c.args.program.now c.in_ok-parts.parts c.requires.never_wrong c.requires.agrees c.in_ok-parts.ensures

pub returns-clause-narrow : goal.returns-clause-narrow
returns-clause-narrow c = tables-narrow c.args.program.now c.in_ok-parts.parts c.requires.agrees c.in_ok-parts.ensures
