-- What holds during the search for components. The search follows one way through the graph: nodes that are open, in the order in which
-- they were met. The way is in parts, one behind the other. The nodes of a part are connected, and each part leads to those behind it.
-- Nodes wait that edges from open nodes lead to. A part from which nothing waits any more is a component, and leaves the way.
use Rattle.std.specs.Prelude.{◌≡◌, ℕ, ◌<◌, ◌≤◌, ◌⊎◌, Bool, true, false, List, [], ◌∷◌, ◌++◌, length, map, slice_index, slice_index_or, slice_set, ◌+◌, Contains, Option, None, Some}
use Rattle.rml_reach.specs.Left.{left}
use Rattle.rml_reach.specs.Paths.{AreConnected, HasEdge, Path}
use Rattle.rml_reach.specs.declared.connected.Mark.{Mark}
use Rattle.rml_reach.specs.declared.connected.Mark.TheVariants as mark
use Rattle.rml_reach.specs.declared.connected.Part.{Part}

-- the marks of all nodes, the open ones in their order, those that wait, and where each part begins among the two
pub record Way : Type 0 where
  pub marks : List Mark
  pub nodes : List ℕ
  pub waiting : List ℕ
  pub parts : List Part

abbrev pub mark_of : List Mark → ℕ → Mark
mark_of marks n = slice_index_or marks n mark.New

abbrev pub IsDone : List Mark → ℕ → Type 0
IsDone marks n = (chosen : ℕ) × (mark_of marks n ≡ mark.Done chosen)

abbrev pub is_met : Mark → Bool
is_met mark.New = false
is_met (mark.Open at) = true
is_met (mark.Done chosen) = true

-- the first node of a part, by its place among the open ones
abbrev pub start : List Part → ℕ → ℕ
start parts b = (slice_index_or parts b (record { nodes = 0; waiting = 0 })).nodes

-- the first node that waits for a part, by its place among those that wait
abbrev pub wait : List Part → ℕ → ℕ
wait parts b = (slice_index_or parts b (record { nodes = 0; waiting = 0 })).waiting

-- no part begins between one place and a later one
abbrev pub Together : List Part → ℕ → ℕ → Type 0
Together parts j k = (b : ℕ) → b < length parts → j < start parts b → k < start parts b

-- a node to which an edge from a part leads is done with, is open in this part or behind it, or waits for one of these
pub data IsMet (w : Way) (b m : ℕ) : Type 0 where
  Done : IsDone w.marks m → IsMet w b m
  Open : (q : ℕ) → mark_of w.marks m ≡ mark.Open q → start w.parts b ≤ q → IsMet w b m
  Waits : (p : ℕ) → wait w.parts b ≤ p → p < length w.waiting → slice_index w.waiting p ≡ m → IsMet w b m

-- the node that was taken from those that wait
abbrev pub IsTaken : Option ℕ → ℕ → Type 0
IsTaken None m = ⊥
IsTaken (Some node) m = node ≡ m

-- the open nodes stand on the way, each at its place
pub record IsLaid (marks : List Mark) (nodes : List ℕ) : Type 0 where
  pub opened : (k : ℕ) → k < length nodes → mark_of marks (slice_index nodes k) ≡ mark.Open k
  pub placed : (n k : ℕ) → mark_of marks n ≡ mark.Open k → (k < length nodes) × (slice_index nodes k ≡ n)

-- so many nodes, and so many that wait, are in parts, from the first on
pub record IsParted (parts : List Part) (nodes waiting : ℕ) : Type 0 where
  pub starts : (b : ℕ) → b < length parts → (start parts b < nodes) × (wait parts b ≤ waiting)
  pub rising : (b c : ℕ) → b < c → c < length parts → (start parts b < start parts c) × (wait parts b ≤ wait parts c)
  pub first : start parts 0 ≡ 0
  pub none : length parts ≡ 0 → nodes ≡ 0

-- an open node reaches those behind it, and those of its part; the first of a part reaches what waits for it and behind
pub record Leads (edges : List (List ℕ)) (nodes waiting : List ℕ) (parts : List Part) : Type 0 where
  pub down : (j k : ℕ) → j ≤ k → k < length nodes → Path edges (slice_index nodes j) (slice_index nodes k)
  pub up : (j k : ℕ) → j ≤ k → k < length nodes → Together parts j k → Path edges (slice_index nodes k) (slice_index nodes j)
  pub away : (b p : ℕ) → b < length parts → wait parts b ≤ p → p < length waiting → Path edges (slice_index nodes (start parts b)) (slice_index waiting p)

-- what is done with leads to no other, and has the number of a node with which it is connected, the same for all such
pub record IsSettled (edges : List (List ℕ)) (marks : List Mark) : Type 0 where
  pub closed : (n m : ℕ) → IsDone marks n → HasEdge edges n m → IsDone marks m
  pub chosen : (n c : ℕ) → mark_of marks n ≡ mark.Done c → AreConnected edges n c
  pub one : (n m c d : ℕ) → mark_of marks n ≡ mark.Done c → mark_of marks m ≡ mark.Done d → AreConnected edges n m → c ≡ d

pub record IsWay (edges : List (List ℕ)) (w : Way) (taken : Option ℕ) : Type 0 where
  pub count : length w.marks ≡ length edges
  pub within : (m : ℕ) → Contains w.waiting m → m < length edges
  pub laid : IsLaid w.marks w.nodes
  pub parted : IsParted w.parts (length w.nodes) (length w.waiting)
  pub leads : Leads edges w.nodes w.waiting w.parts
  pub settled : IsSettled edges w.marks
  -- each edge from an open node is met, but for those to the node that was taken from those that wait
  pub met : (b k m : ℕ) → b < length w.parts → start w.parts b ≤ k → k < length w.nodes → HasEdge edges (slice_index w.nodes k) m → IsMet w b m ⊎ IsTaken taken m

abbrev pub way : List Mark → List ℕ → List ℕ → List Part → Way
way marks nodes waiting parts = record { marks = marks; nodes = nodes; waiting = waiting; parts = parts }

-- each open node reaches a node
abbrev pub AllReach : List (List ℕ) → List ℕ → ℕ → Type 0
AllReach edges nodes node = (j : ℕ) → j < length nodes → Path edges (slice_index nodes j) node

-- the nodes from one place on, below another, are done with, as others were, and have the number of a chosen one; nothing else changed
pub record Closes (old new : List Mark) (nodes : List ℕ) (from until chosen : ℕ) : Type 0 where
  pub count : length new ≡ length old
  pub closed : (k : ℕ) → from ≤ k → k < until → mark_of new (slice_index nodes k) ≡ mark.Done chosen
  pub others : (n : ℕ) → ((k : ℕ) → from ≤ k → k < until → slice_index nodes k ≡ n → ⊥) → mark_of new n ≡ mark_of old n

-- how the marks change: what is new was new
abbrev pub IsOlder : List Mark → List Mark → Type 0
IsOlder old new = (n : ℕ) → mark_of new n ≡ mark.New → mark_of old n ≡ mark.New

-- each node is done with
abbrev pub AllDone : List Mark → ℕ → Type 0
AllDone marks count = (n : ℕ) → n < count → IsDone marks n

-- the way with a new node, in a part of its own; what it has edges to waits for it
abbrev pub opened_way : List (List ℕ) → Way → ℕ → Way
opened_way edges w node = record {
  marks = slice_set w.marks node (mark.Open (length w.nodes));
  nodes = w.nodes ++ node ∷ [];
  waiting = w.waiting ++ slice_index_or edges node [];
  parts = w.parts ++ (record { nodes = length w.nodes; waiting = length w.waiting }) ∷ [];
}

-- what is left to do: nodes that are new, with their edges, nodes that wait, and parts
abbrev pub work : List (List ℕ) → Way → ℕ
work edges w = left (map is_met w.marks) edges + length w.waiting + length w.parts

-- the number of a node that is done with
abbrev pub number_of : Mark → ℕ
number_of mark.New = 0
number_of (mark.Open at) = 0
number_of (mark.Done chosen) = chosen
