-- Types made from their labels, and what a type with new nodes for its variables does to a graph.
use Rattle.std.specs.Prelude.{◌≡◌, ℕ, ◌+◌, ◌-◌, ◌<◌, ◌≤◌, List, [], ◌∷◌, ◌++◌, length, take, drop, map, get_or, All}
use Rattle.rml_types.specs.declared.form.TypeCon.{TypeCon}
use Rattle.rml_types.specs.declared.form.TypeCon.TheVariants as con
use Rattle.rml_types.specs.declared.tree.SchemeTree.{SchemeTree}
use Rattle.rml_types.specs.Finite.{HasTypes, built}
use Rattle.rml_types.specs.Instances.{IsInstance}
use Rattle.rml_types.specs.Labels.{Label}
use Rattle.rml_types.specs.Nodes.{Fits, HasNoFixed, Nodes}
use Rattle.rml_types.specs.Schemes.{inst, unit}

-- what a label makes of the types of its arguments, a variable being the type of its number in a list
abbrev pub make : List SchemeTree → TypeCon → List SchemeTree → SchemeTree
make vars (con.Fixed k) ts = get_or vars k unit
make vars (con.Named c) ts = built (con.Named c) ts
make vars con.Tuple ts = built con.Tuple ts
make vars (con.Rel inputs) ts = built (con.Rel inputs) ts

-- each label takes what was made of its arguments off the end, and puts there what it makes of that
abbrev pub run_by : {A : Type 0} → (TypeCon → List A → A) → List Label → List A → List A
run_by by [] made = made
run_by by (l ∷ ls) made = run_by by ls (take (length made - l.1) made ++ by l.0 (drop (length made - l.1) made) ∷ [])

-- types made from labels, a variable being the type of its number in a list
abbrev pub run : List SchemeTree → List Label → List SchemeTree → List SchemeTree
run vars = run_by (make vars)

-- a variable is below a number
abbrev pub InScope : ℕ → TypeCon → Type 0
InScope vars (con.Fixed k) = k < vars
InScope vars (con.Named c) = Unit {0}
InScope vars con.Tuple = Unit {0}
InScope vars (con.Rel inputs) = Unit {0}

-- over so many types each label has its arguments, and one type is left in the end
abbrev pub Ready : ℕ → List Label → ℕ → Type 0
Ready vars [] n = n ≡ 1
Ready vars (l ∷ ls) n = (l.1 ≤ n) × Fits l.0 l.1 × InScope vars l.0 × Ready vars ls (n - l.1 + 1)

-- A graph was extended: its nodes stay, and its finite types are those of the old graph, each extended.
pub record Keeps (old new : Nodes) : Type 0 where
  pub failed : new.failed ≡ old.failed
  pub count : length old.forms ≤ length new.forms
  pub restricts : (types : ℕ → SchemeTree) → HasTypes new types → HasTypes old types
  pub extends : (types : ℕ → SchemeTree) → HasTypes old types → (later : ℕ → SchemeTree) × HasTypes new later × ((n : ℕ) → n < length old.forms → later n ≡ types n)

-- A graph grew: it was extended, and no variable came to stand fixed in it.
pub record Grows (old new : Nodes) : Type 0 where
  pub kept : Keeps old new
  pub unfixed : HasNoFixed old → HasNoFixed new

-- The node has exactly the instances of a type, whatever finite types the old graph has.
pub record HasInstances (old new : Nodes) (node : ℕ) (body : SchemeTree) : Type 0 where
  pub within : node < length new.forms
  pub instances : (types : ℕ → SchemeTree) → HasTypes new types → IsInstance body (types node)
  pub each : (types : ℕ → SchemeTree) (ts : List SchemeTree) → HasTypes old types
      → (later : ℕ → SchemeTree) × HasTypes new later × ((n : ℕ) → n < length old.forms → later n ≡ types n) × (later node ≡ inst ts body)

-- The first nodes are new and without forms, and may have any types.
pub record Fresh (old new : Nodes) (nodes : List ℕ) : Type 0 where
  pub within : (i : ℕ) → i < length nodes → get_or nodes i 0 < length new.forms
  pub each : (types : ℕ → SchemeTree) (ts : List SchemeTree) → HasTypes old types
      → (later : ℕ → SchemeTree) × HasTypes new later × ((n : ℕ) → n < length old.forms → later n ≡ types n) × ((k : ℕ) → k < length nodes → later (get_or nodes k 0) ≡ get_or ts k unit)

-- what a label makes of the types of its arguments, which are types of nodes
abbrev pub Making : Type 0
Making = (ℕ → SchemeTree) → TypeCon → List SchemeTree → SchemeTree

-- a variable being the type of the node of its number in a list
abbrev pub over : List ℕ → Making
over vars types = make (map types vars)

-- a variable standing fixed
abbrev pub as_it_stands : Making
as_it_stands types = built

-- A label was taken: of the nodes that were made, those of its arguments gave way to its own.
pub record Placed (by : Making) (new : Nodes) (l : Label) (made later : List ℕ) : Type 0 where
  pub within : All (λ n. n < length new.forms) later
  pub count : length later ≡ length made - l.1 + 1
  pub types : (types : ℕ → SchemeTree) → HasTypes new types
      → map types later ≡ take (length made - l.1) (map types made) ++ by types l.0 (drop (length made - l.1) (map types made)) ∷ []

-- Some labels of all are left, over so many variables and the nodes that were made of the others.
pub record Placing (by : Making) (vars : ℕ) (g : Nodes) (all ls : List Label) (made : List ℕ) : Type 0 where
  pub ready : Ready vars ls (length made)
  pub within : All (λ n. n < length g.forms) made
  pub types : (types : ℕ → SchemeTree) → HasTypes g types → run_by (by types) ls (map types made) ≡ run_by (by types) all []
