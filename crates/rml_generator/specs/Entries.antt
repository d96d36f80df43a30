-- Tables in which a number may have no entry.
use Rattle.std.specs.Prelude.{ℕ, List, Option, Some, None, slice_get}

abbrev pub there : {A : Type 0} → Option (Option A) → Option A
there None = None
there (Some value) = value

-- the entry of a number, where it has one
abbrev pub entry : {A : Type 0} → List (Option A) → ℕ → Option A
entry table number = there (slice_get table number)
