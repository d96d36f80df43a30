-- The weights that are met on the way through clause form. They are to bound the cells that code takes from one step to the next: a
-- frame to go back to, a frame to go on by, a block. The search weighs 16 L + 64 for each of its steps, L being the tokens of the
-- longest rule; of that a path of clause form is to use no more from one of its steps to the next. An `or`, a `cond` and a `switch`
-- weigh nothing: passes nest them where they share statements, and a run must not weigh more by that. What a frame to go back to
-- costs is paid by where the path begins and by the statements beside it (Paid.antt).
use Rattle.std.specs.Prelude.{ℕ, ◌+◌, ◌*◌, if◌then◌else◌, Option, Some, None, slice_get}
use Rattle.rml_builtin.specs.declared.row.TheConstants.{ROWS}
use Rattle.rml_builtin.specs.declared.row.Row.{Row}
use Rattle.rml_builtin.specs.Table.{is_silent}

-- Where a path begins: at the beginning of a relation, after a call that answered, after a `not` that succeeded, and where a
-- failure was taken. So many values are received there: parameters, or results.
abbrev pub entry_weight : ℕ → ℕ
entry_weight received = 26 + received

-- a pattern that binds so many variables
abbrev pub match_weight : ℕ → ℕ
match_weight bound = 14 + bound

-- an expression whose blocks have so many cells
abbrev pub set_weight : ℕ → ℕ
set_weight cells = 15 + cells

abbrev pub row_weight : Option Row → ℕ → ℕ
row_weight None results = 0
row_weight (Some row) results = if is_silent row then 15 + 2 * results else 0

-- a built-in with so many results; `print` cannot fail and weighs nothing
abbrev pub built_in_weight : ℕ → ℕ → ℕ
built_in_weight number results = row_weight (slice_get ROWS number) results

abbrev pub equal_weight : ℕ
equal_weight = 14

abbrev pub call_weight : ℕ
call_weight = 6

abbrev pub not_weight : ℕ
not_weight = 8

-- a `goto` that hands on so many variables
abbrev pub goto_weight : ℕ → ℕ
goto_weight handed = 14 + handed
