-- Byte strings: lists of numbers below 256. An argument of a run is one, a name is one, and so is a text literal.
use Rattle.std.specs.Prelude.{ℕ, Bool, nat_lt, List, IsTrue}
use Rattle.std.specs.List.{list_all}

-- each number is a byte
abbrev pub are_bytes : List ℕ → Bool
are_bytes = list_all (λ c. nat_lt c 256)

abbrev pub IsBytes : List ℕ → Type 0
IsBytes bytes = IsTrue (are_bytes bytes)

-- each list is one of bytes: what arguments are, and names
abbrev pub AreBytes : List (List ℕ) → Type 0
AreBytes all = IsTrue (list_all are_bytes all)
