-- What is left to do of a graph: its nodes that are not seen yet, and their edges.
use Rattle.std.specs.Prelude.{ℕ, ◌+◌, suc, Bool, true, false, List, [], ◌∷◌, length}

-- for each node that is not seen, one and its edges
abbrev pub left : List Bool → List (List ℕ) → ℕ
left [] edges = 0
left (s ∷ seen) [] = 0
left (true ∷ seen) (es ∷ edges) = left seen edges
left (false ∷ seen) (es ∷ edges) = suc (length es) + left seen edges
