-- How large a block of clause form is by what the pass has to make of it: as `size` of clause form counts, and the variables of a case, each of
-- which is taken by a line of its own.
use Rattle.std.specs.Prelude.{ℕ, ◌+◌, List, length, sum}
use Rattle.rml_fol.specs.Size.{size_at, alternative_size_at}
use Rattle.rml_fol.specs.declared.statements.Stmt.{Stmt, fold-Stmt}
use Rattle.rml_fol.specs.declared.statements.Alternative.{Alternative, fold-Alternative}
use Rattle.rml_fol.specs.declared.statements.Case.{Case, fold-Case}
use Rattle.rml_fol.specs.declared.statements.Stmt.TheOpen.{Case-F}

abbrev pub case_extent_at : Case-F ℕ ℕ ℕ → ℕ
case_extent_at k = 1 + length k.vars + sum k.block

abbrev pub extent : Stmt → ℕ
extent = fold-Stmt ℕ ℕ ℕ size_at alternative_size_at case_extent_at

abbrev pub alternative_extent : Alternative → ℕ
alternative_extent = fold-Alternative ℕ ℕ ℕ size_at alternative_size_at case_extent_at

abbrev pub case_extent : Case → ℕ
case_extent = fold-Case ℕ ℕ ℕ size_at alternative_size_at case_extent_at
