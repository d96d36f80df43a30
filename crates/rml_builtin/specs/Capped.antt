-- A number of at most 2 ^ 30, as far from 0 as an integer can be, on the way to reading one.
use Rattle.std.specs.Prelude.{ℕ, ◌^◌, if◌then◌else◌, nat_le, Option, Some, None}

abbrev pub capped : Option ℕ → Option ℕ
capped None = None
capped (Some n) = if nat_le n (2 ^ 30) then Some n else None
