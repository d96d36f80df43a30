use Rattle.std.proofs.lemmas.Option.{slice_get-get_or}
use Rattle.rml_builtin.specs.declared.row.TheConstants.{ROWS}
use Rattle.rml_builtin.proofs.row.row_of.Goals as goal

pub returns : goal.returns
returns c = slice_get-get_or ROWS c.args.number _ c.requires
