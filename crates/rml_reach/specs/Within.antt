-- Paths of at most so many edges, as a test that computes.
use Rattle.std.specs.Prelude.{ℕ, zero, suc, Bool, ◌||◌, nat_eq, List, [], slice_index_or}
use Rattle.std.specs.List.{list_any}

-- a path of at most so many edges leads from one node to another
abbrev pub reaches_within : ℕ → List (List ℕ) → ℕ → ℕ → Bool
reaches_within zero edges a b = nat_eq a b
reaches_within (suc n) edges a b = nat_eq a b || list_any (λ m. reaches_within n edges m b) (slice_index_or edges a [])
