-- The types to which the head of a rule, or its results, are held; and nodes made equal to those of these types.
use Rattle.std.specs.Prelude.{◌≡◌, ◌↔◌, ℕ, ◌≤◌, List, [], ◌∷◌, map, length, None, Result, Err, OnOk}
use Rattle.rml_types.specs.declared.tree.SchemeTree.{SchemeTree, out-SchemeTree}
use Rattle.rml_types.specs.declared.tree.SchemeTree.TheVariants as tree
use Rattle.rml_types.specs.Finite.{HasTypes}
use Rattle.rml_types.specs.Nodes.{HasNoFixed, Nodes}
use Rattle.rml_equations.specs.declared.coding.Coding.{Coding}
use Rattle.rml_equations.specs.declared.stop.Stop.{Stop}
use Rattle.rml_equations.specs.declared.stop.Stop.TheVariants as stop
use Rattle.rml_equations.specs.Coding.{coded, decoded, parts_at}
use Rattle.rml_equations.specs.Joins.{Extends}
use Rattle.rml_generator.specs.declared.parts.Side.{Side}
use Rattle.rml_generator.specs.declared.parts.Side.TheVariants as side
use Rattle.rml_generator.specs.Adds.{Watched, Told, told_by, Tells}

abbrev pub side_nodes : Side → List ℕ
side_nodes (side.Each nodes) = nodes.items
side_nodes (side.Whole n) = n ∷ []

-- the types that finite types give a side; a whole that is no tuple gives none
abbrev pub given_by : Coding → (ℕ → SchemeTree) → Side → List SchemeTree
given_by c types (side.Each nodes) = map (λ n. decoded c (types n)) nodes.items
given_by c types (side.Whole n) = parts_at (out-SchemeTree (decoded c (types n)))

-- they give it these, as they stand in the graph
abbrev pub AreGiven : Coding → (ℕ → SchemeTree) → Side → List SchemeTree → Type 0
AreGiven c types (side.Each nodes) ts = map types nodes.items ≡ map (coded c) ts
AreGiven c types (side.Whole n) ts = types n ≡ coded c (tree.Tuple ts)

-- whatever finite types a graph has, they give a side what is told of them
pub record Gives (c : Coding) (w : Watched) (g : Nodes) (held : Side) (k : Told → List SchemeTree) : Type 0 where
  pub sound : (types : ℕ → SchemeTree) → HasTypes g types → k (told_by c w types) ≡ given_by c types held
  pub complete : (types : ℕ → SchemeTree) (told : Told) → HasTypes g types → Tells c w types told → AreGiven c types held (k told)

-- the new graph is the old one with equations by which nodes have the types of a side
pub record Ties (c : Coding) (g h : Nodes) (nodes : List ℕ) (held : Side) : Type 0 where
  pub live : h.failed ≡ None
  pub unfixed : HasNoFixed g → HasNoFixed h
  pub count : length g.forms ≤ length h.forms
  pub old : (types : ℕ → SchemeTree) → HasTypes h types → HasTypes g types
  pub sound : (types : ℕ → SchemeTree) → HasTypes h types → given_by c types held ≡ map (λ n. decoded c (types n)) nodes
  pub complete : (types : ℕ → SchemeTree) (ts : List SchemeTree) → HasTypes g types → map types nodes ≡ map (coded c) ts → AreGiven c types held ts
      → (later : ℕ → SchemeTree) × Extends g h types later

-- no finite types of the graph allow it
abbrev pub CannotTie : Coding → Nodes → List ℕ → Side → Type 0
CannotTie c g nodes held = (types : ℕ → SchemeTree) (ts : List SchemeTree) → HasTypes g types → map types nodes ≡ map (coded c) ts → AreGiven c types held ts → ⊥

pub record Tied (c : Coding) (g h : Nodes) (nodes : List ℕ) (held : Side) (r : Result Unit Stop) : Type 0 where
  pub ok : OnOk r (Ties c g h nodes held)
  pub none : r ≡ Err stop.Untyped → CannotTie c g nodes held

-- nodes were made equal one by one
pub record EquatesEach (g h : Nodes) (nodes others : List ℕ) : Type 0 where
  pub live : h.failed ≡ None
  pub forms : h.forms ≡ g.forms
  pub types : (types : ℕ → SchemeTree) → HasTypes h types ↔ (HasTypes g types × (map types nodes ≡ map types others))

abbrev pub CannotEquateEach : Nodes → List ℕ → List ℕ → Type 0
CannotEquateEach g nodes others = (types : ℕ → SchemeTree) → HasTypes g types → map types nodes ≡ map types others → ⊥

pub record EqualsEach (g h : Nodes) (nodes others : List ℕ) (r : Result Unit Stop) : Type 0 where
  pub ok : OnOk r (EquatesEach g h nodes others)
  pub none : r ≡ Err stop.Untyped → CannotEquateEach g nodes others
