use Rattle.std.proofs.Common.{sym, ap, ◌∙◌, arith}
use Rattle.std.proofs.lemmas.Option.{slice_get_past}
use Rattle.rml_builtin.specs.declared.row.TheConstants.{ROWS}
use Rattle.rml_builtin.specs.declared.row.Row.TheVariants.{IntAdd}
use Rattle.rml_code.specs.Text.{row_name}
use Rattle.rml_code.proofs.Written.{named}
use Rattle.rml_code.proofs.words.row_name.Goals as goal

pub returns-then-from-lt32 : goal.returns-then-from-lt32
returns-then-from-lt32 c =
    c.as_bytes.ensures.value ∙ named ROWS c.args.number IntAdd c.builtin.result.name.now (omega arith) c.builtin.ensures.name

pub returns-else-from-lt32 : goal.returns-else-from-lt32
returns-else-from-lt32 c = ap row_name (sym (slice_get_past ROWS c.args.number (omega arith)))
