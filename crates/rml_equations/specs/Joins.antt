-- What a node over others does to a graph: the finite types of the new graph are those of the old one, each extended, and the type
-- of the node is told by the types of the others.
use Rattle.std.specs.Prelude.{◌≡◌, ℕ, ◌<◌, ◌≤◌, List, map, length, None, ◌↔◌, Result, Err, IfOk}
use Rattle.rml_types.specs.declared.tree.SchemeTree.{SchemeTree}
use Rattle.rml_types.specs.Finite.{HasTypes}
use Rattle.rml_types.specs.Nodes.{HasNoFixed, Nodes}
use Rattle.rml_typed.specs.Typed.{AreItems}
use Rattle.rml_equations.specs.declared.coding.Coding.{Coding}
use Rattle.rml_equations.specs.declared.stop.Stop.{Stop}
use Rattle.rml_equations.specs.declared.stop.Stop.TheVariants as stop
use Rattle.rml_equations.specs.Coding.{coded, decoded}

-- the new graph has these finite types, and on the nodes of the old one they are those of before
pub record Extends (g h : Nodes) (types later : ℕ → SchemeTree) : Type 0 where
  pub has : HasTypes h later
  pub same : (n : ℕ) → n < length g.forms → later n ≡ types n

-- The new graph is the old one with a node whose type is made of the types of nodes of the old graph. No variable came to stand
-- fixed in it.
pub record Makes (g h : Nodes) (make : (ℕ → SchemeTree) → SchemeTree) (node : ℕ) : Type 0 where
  pub live : h.failed ≡ None
  pub unfixed : HasNoFixed g → HasNoFixed h
  pub count : length g.forms ≤ length h.forms
  pub within : node < length h.forms
  pub old : (types : ℕ → SchemeTree) → HasTypes h types → HasTypes g types
  pub is : (types : ℕ → SchemeTree) → HasTypes h types → types node ≡ make types
  pub extends : (types : ℕ → SchemeTree) → HasTypes g types → (later : ℕ → SchemeTree) × Extends g h types later

-- The nodes are made equal to one, and no more is said.
pub record EquatesAll (g h : Nodes) (nodes : List ℕ) (one : ℕ) : Type 0 where
  pub live : h.failed ≡ None
  pub forms : h.forms ≡ g.forms
  pub types : (types : ℕ → SchemeTree) → HasTypes h types ↔ (HasTypes g types × AreItems (types one) (map types nodes))

abbrev pub CannotEquateAll : Nodes → List ℕ → ℕ → Type 0
CannotEquateAll g nodes one = (types : ℕ → SchemeTree) → HasTypes g types → AreItems (types one) (map types nodes) → ⊥

-- The new graph is the old one with equations for a node over some nodes of it, whose types are told by those of these. No variable
-- came to stand fixed in it.
pub record Joins (c : Coding) (g h : Nodes) (nodes : List ℕ) (Holds : List SchemeTree → SchemeTree → Type 0) (node : ℕ) : Type 0 where
  pub live : h.failed ≡ None
  pub unfixed : HasNoFixed g → HasNoFixed h
  pub count : length g.forms ≤ length h.forms
  pub within : node < length h.forms
  pub old : (types : ℕ → SchemeTree) → HasTypes h types → HasTypes g types
  pub sound : (types : ℕ → SchemeTree) → HasTypes h types → Holds (map (λ n. decoded c (types n)) nodes) (decoded c (types node))
  pub complete : (types : ℕ → SchemeTree) (ts : List SchemeTree) (t : SchemeTree) → HasTypes g types → map types nodes ≡ map (coded c) ts → Holds ts t
      → (later : ℕ → SchemeTree) × Extends g h types later × (later node ≡ coded c t)

-- no finite types of the graph allow it
abbrev pub Prevents : Coding → Nodes → List ℕ → (List SchemeTree → SchemeTree → Type 0) → Type 0
Prevents c g nodes Holds = (types : ℕ → SchemeTree) (ts : List SchemeTree) (t : SchemeTree) → HasTypes g types → map types nodes ≡ map (coded c) ts → Holds ts t → ⊥

-- equations were made, or none are possible; want of memory says nothing
pub record Links (c : Coding) (g h : Nodes) (nodes : List ℕ) (Holds : List SchemeTree → SchemeTree → Type 0) (r : Result ℕ Stop) : Type 0 where
  pub ok : IfOk r (Joins c g h nodes Holds)
  pub none : r ≡ Err stop.Untyped → Prevents c g nodes Holds
