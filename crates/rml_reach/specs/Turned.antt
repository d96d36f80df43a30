-- Graphs whose edges are turned round.
use Rattle.std.specs.Prelude.{◌≡◌, ℕ, ◌⊎◌, ◌↔◌, List, Contains}
use Rattle.rml_reach.specs.Paths.{HasEdge}

-- an edge that was there, or the one that is added
abbrev pub AddsTo : List (List ℕ) → ℕ → ℕ → ℕ → ℕ → Type 0
AddsTo edges from to a b = HasEdge edges a b ⊎ ((a ≡ from) × (b ≡ to))

-- an edge that was there, or one of those that are added, from some nodes to one
abbrev pub AddsFrom : List (List ℕ) → List ℕ → ℕ → ℕ → ℕ → Type 0
AddsFrom edges ends to a b = HasEdge edges a b ⊎ (Contains ends a × (b ≡ to))

-- an edge from a to b here is one from b to a there
abbrev pub IsTurned : List (List ℕ) → List (List ℕ) → Type 0
IsTurned edges turned = (a b : ℕ) → HasEdge turned a b ↔ HasEdge edges b a
