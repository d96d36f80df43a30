-- The integers of the language.
use Rattle.std.specs.Prelude.{Bool, ◌&&◌, ℤ, pos, negsuc, int_le}

-- from -1,073,741,824 to 1,073,741,823
abbrev pub is_integer : ℤ → Bool
is_integer i = int_le (negsuc 1073741823) i && int_le i (pos 1073741823)
