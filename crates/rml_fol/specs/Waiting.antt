-- What is still to be written of a body: blocks, alternatives and cases that wait in a list, of which the last is next.
use Rattle.std.specs.Prelude.{ℕ, ◌+◌, ◌*◌, List, [], ◌∷◌, ◌++◌, map, sum_by}
use Rattle.rml_fol.specs.declared.blocks.Waiting.{Waiting}
use Rattle.rml_fol.specs.declared.blocks.Waiting.TheVariants as waits
use Rattle.rml_fol.specs.declared.statements.Stmt.{Stmt}
use Rattle.rml_fol.specs.declared.statements.Alternative.{Alternative}
use Rattle.rml_fol.specs.declared.statements.Case.{Case}
use Rattle.rml_fol.specs.declared.parts.Parts.{Parts}
use Rattle.rml_fol.specs.Size.{size, alternative_size, case_size}
use Rattle.rml_fol.specs.Text.{Lines, line, in_lines, deeper, stmt_lines, alternative_lines, case_lines}

abbrev pub stmts_lines : Parts → List Stmt → Lines
stmts_lines p block = in_lines (map (stmt_lines p) block)

abbrev pub alternatives_lines : Parts → List Alternative → Lines
alternatives_lines p all = in_lines (map (alternative_lines p) all)

abbrev pub cases_lines : Parts → List Case → Lines
cases_lines p all = in_lines (map (case_lines p) all)

abbrev pub waiting_lines : Parts → Waiting → List ℕ
waiting_lines p (waits.Stmts block i) = stmts_lines p block.now i
waiting_lines p (waits.Alternatives all i) = alternatives_lines p all.now i
waiting_lines p (waits.Cases all i) = cases_lines p all.now i
waiting_lines p (waits.Under words block i) = line i words.now ++ stmts_lines p block.now (i + 2)

-- the last is next
abbrev pub all_waiting_lines : Parts → List Waiting → List ℕ
all_waiting_lines p [] = []
all_waiting_lines p (w ∷ ws) = all_waiting_lines p ws ++ waiting_lines p w

-- ---- how often something is still taken from the list: fewer times than this

abbrev pub block_work : List Stmt → ℕ
block_work block = 1 + 8 * sum_by size block

abbrev pub alternatives_work : List Alternative → ℕ
alternatives_work all = 1 + 8 * sum_by alternative_size all

abbrev pub cases_work : List Case → ℕ
cases_work all = 1 + 8 * sum_by case_size all

abbrev pub work : Waiting → ℕ
work (waits.Stmts block i) = block_work block.now
work (waits.Alternatives all i) = alternatives_work all.now
work (waits.Cases all i) = cases_work all.now
work (waits.Under words block i) = 1 + block_work block.now
