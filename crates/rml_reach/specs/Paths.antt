-- Graphs: nodes, numbered from 0, each with the list of the nodes to which it has an edge. Paths along edges, and circles.
use Rattle.std.specs.Prelude.{◌≡◌, ℕ, ◌<◌, ◌^◌, Bool, true, false, List, [], length, slice_index_or, Contains}

-- there is an edge from one node to another
abbrev pub HasEdge : List (List ℕ) → ℕ → ℕ → Type 0
HasEdge edges a b = Contains (slice_index_or edges a []) b

-- a path from one node to another: none of its steps is left out, and it may have no step
pub data Path (edges : List (List ℕ)) : ℕ → ℕ → Type 0 where
  Here : (a : ℕ) → Path edges a a
  Along : (a b c : ℕ) → HasEdge edges a b → Path edges b c → Path edges a c

-- each edge leads to a node, and 32 bits are enough to number the nodes
pub record IsGraph (edges : List (List ℕ)) : Type 0 where
  pub within : (a b : ℕ) → HasEdge edges a b → b < length edges
  pub small : length edges < 2 ^ 32

-- a path from one of some nodes comes to this one
abbrev pub IsReachedFrom : List (List ℕ) → List ℕ → ℕ → Type 0
IsReachedFrom edges from n = (a : ℕ) × Contains from a × Path edges a n

-- a path from this node comes to one of some others
abbrev pub Reaches : List (List ℕ) → List ℕ → ℕ → Type 0
Reaches edges to n = (b : ℕ) × Contains to b × Path edges n b

-- a path of at least one edge leads from the node to itself
abbrev pub IsOnCircle : List (List ℕ) → ℕ → Type 0
IsOnCircle edges n = (m : ℕ) × HasEdge edges n m × Path edges m n

-- each of two nodes has a path to the other
pub record AreConnected (edges : List (List ℕ)) (a b : ℕ) : Type 0 where
  pub there : Path edges a b
  pub back : Path edges b a

-- the answer for a node; false where there is no node of this number
abbrev pub Holds : List Bool → ℕ → Type 0
Holds answers n = slice_index_or answers n false ≡ true
