use Rattle.std.proofs.Common.{sym}
use Rattle.std.proofs.lemmas.Option.{slice_get_within}
use Rattle.rml_builtin.specs.declared.row.TheConstants.{ROWS}
use Rattle.rml_clauses.proofs.agreement.built_in_has.Goals as goal

pub builtin-row-requires : goal.builtin-row-requires
builtin-row-requires c = slice_get_within ROWS c.args.number _ (sym c.in-Some.ensures)
