-- How often each number stands in a list.
use Rattle.std.specs.Prelude.{◌≡◌, ℕ, ◌+◌, ◌==◌, if◌then◌else◌, List, [], ◌∷◌, get_or}

abbrev pub count : ℕ → List ℕ → ℕ
count x [] = 0
count x (y ∷ ys) = if x == y then count x ys + 1 else count x ys

-- these are the counts of the numbers in a list; a number without a count is not in it
abbrev pub IsCounted : List ℕ → List ℕ → Type 0
IsCounted xs counts = (x : ℕ) → get_or counts x 0 ≡ count x xs
