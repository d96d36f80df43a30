-- What equations of a part do to a graph: the finite types of the new graph are those of the old one, each extended, under which
-- the part is typed. Finite types of a graph are told by what they give to the nodes of a rule's variables and of the relations
-- of a group.
use Rattle.std.specs.Prelude.{◌≡◌, ℕ, ◌<◌, ◌≤◌, slice_get, List, [], ◌∷◌, ◌++◌, map, length, All, Option, Some, None, Result, Err, IfOk, OnOk, unwrap_or, Vec}
use Rattle.std.specs.declared.alloc.Global.{Global}
use Rattle.rml_types.specs.declared.tree.SchemeTree.{SchemeTree, out-SchemeTree}
use Rattle.rml_types.specs.Finite.{HasTypes, CannotEquateTypes, EquatesTypes}
use Rattle.rml_types.specs.Nodes.{HasNoFixed, Nodes}
use Rattle.rml_types.specs.Schemes.{unit}
use Rattle.rml_typed.specs.Typed.{Assigned}
use Rattle.rml_typed.specs.Parts.{as_type, sides}
use Rattle.rml_typed.specs.Units.{GroupTypes}
use Rattle.rml_equations.specs.declared.coding.Coding.{Coding}
use Rattle.rml_equations.specs.declared.stop.Stop.{Stop}
use Rattle.rml_equations.specs.declared.stop.Stop.TheVariants as stop
use Rattle.rml_equations.specs.Coding.{coded, decoded}
use Rattle.rml_equations.specs.Joins.{Extends}

-- ---- what finite types of a graph tell

-- the nodes of a rule's variables and those of the relations of a group, by their numbers
pub record Watched : Type 0 where
  pub vars : List ℕ
  pub node : ℕ → Option ℕ

-- they are nodes of the graph, and those of relations have relation types
pub record IsWithin (c : Coding) (w : Watched) (g : Nodes) : Type 0 where
  pub vars : (x n : ℕ) → slice_get w.vars x ≡ Some n → n < length g.forms
  pub group : (r n : ℕ) → w.node r ≡ Some n → n < length g.forms
  pub relations : (r n : ℕ) → w.node r ≡ Some n → (types : ℕ → SchemeTree) → HasTypes g types → decoded c (types n) ≡ as_type (sides (out-SchemeTree (decoded c (types n))))

-- types of a rule's variables and of the relations of a group
pub record Told : Type 0 where
  pub vars : Assigned
  pub group : GroupTypes

-- a variable that the rule has not is of the type without parts
abbrev pub told_at : Coding → (ℕ → SchemeTree) → Option ℕ → SchemeTree
told_at c types None = unit
told_at c types (Some n) = decoded c (types n)

abbrev pub told_by : Coding → Watched → (ℕ → SchemeTree) → Told
told_by c w types = record {
  vars = λ x. told_at c types (slice_get w.vars x);
  group = λ r. sides (out-SchemeTree (decoded c (types (unwrap_or (w.node r) 0))));
}

-- finite types of a graph give the nodes these types
pub record Tells (c : Coding) (w : Watched) (types : ℕ → SchemeTree) (told : Told) : Type 0 where
  pub vars : (x n : ℕ) → slice_get w.vars x ≡ Some n → types n ≡ coded c (told.vars x)
  pub past : (x : ℕ) → slice_get w.vars x ≡ None → told.vars x ≡ unit
  pub group : (r n : ℕ) → w.node r ≡ Some n → types n ≡ coded c (as_type (told.group r))

-- ---- equations for nodes of the types of parts

-- The new graph is the old one with equations for nodes of some types: whatever finite types it has, those are finite types of the
-- old graph and Holds of the types of the nodes, and wherever the old graph has finite types and Holds of some types, it has finite
-- types that extend those and give the nodes these. No variable came to stand fixed in it.
pub record Adds (c : Coding) (w : Watched) (g h : Nodes) (Holds : Told → List SchemeTree → Type 0) (nodes : List ℕ) : Type 0 where
  pub live : h.failed ≡ None
  pub unfixed : HasNoFixed g → HasNoFixed h
  pub count : length g.forms ≤ length h.forms
  pub within : All (λ n. n < length h.forms) nodes
  pub old : (types : ℕ → SchemeTree) → HasTypes h types → HasTypes g types
  pub sound : (types : ℕ → SchemeTree) → HasTypes h types → Holds (told_by c w types) (map (λ n. decoded c (types n)) nodes)
  pub complete : (types : ℕ → SchemeTree) (told : Told) (ts : List SchemeTree) → HasTypes g types → Tells c w types told → Holds told ts
      → (later : ℕ → SchemeTree) × Extends g h types later × (map later nodes ≡ map (coded c) ts)

-- no finite types of the graph allow it
abbrev pub Refutes : Coding → Watched → Nodes → (Told → List SchemeTree → Type 0) → Type 0
Refutes c w g Holds = (types : ℕ → SchemeTree) (told : Told) (ts : List SchemeTree) → HasTypes g types → Tells c w types told → Holds told ts → ⊥

-- equations were made, or none are possible; want of memory says nothing
pub record Finds {X : Type 0} (nodes : X → List ℕ) (c : Coding) (w : Watched) (g h : Nodes) (Holds : Told → List SchemeTree → Type 0) (r : Result X Stop) : Type 0 where
  pub ok : IfOk r (λ x. Adds c w g h Holds (nodes x))
  pub none : r ≡ Err stop.Untyped → Refutes c w g Holds

-- ---- two nodes made equal

pub record Equates (g h : Nodes) (a b : ℕ) : Type 0 where
  pub live : h.failed ≡ None
  pub forms : h.forms ≡ g.forms
  pub types : EquatesTypes g h a b

-- they were made equal, or can't be
pub record Equals (g h : Nodes) (a b : ℕ) (r : Result Unit Stop) : Type 0 where
  pub ok : OnOk r (Equates g h a b)
  pub none : r ≡ Err stop.Untyped → CannotEquateTypes g a b

-- ---- what is answered: a node, nodes, or nothing but equations

abbrev pub one_node : ℕ → List ℕ
one_node n = n ∷ []

abbrev pub each_node : Vec ℕ Global → List ℕ
each_node nodes = nodes.items

abbrev pub no_node : Unit {0} → List ℕ
no_node done = []

-- ---- what holds of the types of parts

-- of no type
abbrev pub Bare : (Told → Type 0) → Told → List SchemeTree → Type 0
Bare P told ts = (ts ≡ []) × P told

-- of one type
abbrev pub Alone : (Told → SchemeTree → Type 0) → Told → List SchemeTree → Type 0
Alone P told [] = ⊥
Alone P told (t ∷ []) = P told t
Alone P told (t ∷ u ∷ ts) = ⊥

-- of some types, and of one behind them
abbrev pub AndThen : (Told → List SchemeTree → Type 0) → (Told → SchemeTree → Type 0) → Told → List SchemeTree → Type 0
AndThen P Q told us = (ts : List SchemeTree) × (t : SchemeTree) × (us ≡ ts ++ t ∷ []) × P told ts × Q told t

-- of one type that is made of some
abbrev pub Joined : (Told → List SchemeTree → Type 0) → (List SchemeTree → SchemeTree → Type 0) → Told → SchemeTree → Type 0
Joined P Q told t = (ts : List SchemeTree) × P told ts × Q ts t
