-- What holds while the nodes that some nodes reach are looked for: some are seen, and some wait to be looked at.
use Rattle.std.specs.Prelude.{◌≡◌, ℕ, ◌<◌, ◌⊎◌, Bool, List, length, Contains}
use Rattle.rml_reach.specs.Paths.{HasEdge, Holds, IsReachedFrom}

-- a node is seen or waits
abbrev pub IsKnown : List Bool → List ℕ → ℕ → Type 0
IsKnown seen waiting n = Holds seen n ⊎ Contains waiting n

pub record IsWorkList (edges : List (List ℕ)) (from : List ℕ) (seen : List Bool) (waiting : List ℕ) : Type 0 where
  pub count : length seen ≡ length edges
  pub within : (n : ℕ) → Contains waiting n → n < length edges
  -- what is seen or waits is reached,
  pub seen_is : (n : ℕ) → Holds seen n → IsReachedFrom edges from n
  pub waits : (n : ℕ) → Contains waiting n → IsReachedFrom edges from n
  -- where the search began is seen or waits, and so is what the edges of the seen lead to
  pub begun : (n : ℕ) → Contains from n → IsKnown seen waiting n
  pub closed : (n m : ℕ) → Holds seen n → HasEdge edges n m → IsKnown seen waiting m
