-- Finite types of nodes, and finite types as trees.
use Rattle.std.specs.Prelude.{◌≡◌, ℕ, zero, suc, ◌+◌, List, [], ◌∷◌, ◌++◌, length, map, take, drop, Option, Some, None, ◌↔◌, ◌==◌, if◌then◌else◌}
use Rattle.rml_types.specs.declared.form.Form.{Form}
use Rattle.rml_types.specs.declared.form.TypeCon.{TypeCon}
use Rattle.rml_types.specs.declared.form.TypeCon.TheVariants as con
use Rattle.rml_types.specs.declared.tree.SchemeTree.{SchemeTree, fold-SchemeTree}
use Rattle.rml_types.specs.declared.tree.SchemeTree.TheOpen.{SchemeTree-F}
use Rattle.rml_types.specs.declared.tree.SchemeTree.TheVariants as tree
use Rattle.rml_types.specs.Nodes.{Nodes, form_of, class_of}
use Rattle.rml_types.specs.Trees.{Tree}

-- the type that is made by a constructor of some types: a type variable that stands fixed is itself
abbrev pub built : TypeCon → List SchemeTree → SchemeTree
built (con.Named c) ts = tree.Named c ts
built (con.Fixed k) ts = tree.Var k
built con.Tuple ts = tree.Tuple ts
built (con.Rel inputs) ts = tree.Rel (take inputs ts) (drop inputs ts)

-- a finite type for each node, as the forms say, and one for all nodes of a class
pub record HasTypes (g : Nodes) (types : ℕ → SchemeTree) : Type 0 where
  pub forms : (n : ℕ) (f : Form) → form_of g n ≡ Some f → types n ≡ built f.con (map types f.args)
  pub classes : (m n : ℕ) → class_of g m ≡ class_of g n → types m ≡ types n

-- the new graph has exactly the finite types of the old one that are one type at a and b
abbrev pub EquatesTypes : Nodes → Nodes → ℕ → ℕ → Type 0
EquatesTypes old new a b = (types : ℕ → SchemeTree) → HasTypes new types ↔ (HasTypes old types × (types a ≡ types b))

-- no finite types of the graph are one type at a and b
abbrev pub CannotEquateTypes : Nodes → ℕ → ℕ → Type 0
CannotEquateTypes g a b = (types : ℕ → SchemeTree) → HasTypes g types → types a ≡ types b → ⊥

abbrev pub sum_of : List ℕ → ℕ
sum_of [] = 0
sum_of (n ∷ ns) = n + sum_of ns

abbrev pub nodes_at : SchemeTree-F ℕ → ℕ
nodes_at (SchemeTree-F.Var k) = 1
nodes_at (SchemeTree-F.Named c ns) = suc (sum_of ns)
nodes_at (SchemeTree-F.Tuple ns) = suc (sum_of ns)
nodes_at (SchemeTree-F.Rel ins outs) = suc (sum_of ins + sum_of outs)

-- the nodes of a type, written out: a variable, a type with its arguments, a tuple and a relation type are one each
abbrev pub nodes : SchemeTree → ℕ
nodes = fold-SchemeTree ℕ nodes_at

-- what stands along a path in one of some trees
abbrev pub branch : List Tree → ℕ → Tree
branch [] i path = None
branch (t ∷ ts) zero path = t path
branch (t ∷ ts) (suc i) path = branch ts i path

-- the tree of a constructor over trees
abbrev pub node : TypeCon → List Tree → Tree
node con ts [] = Some (con, length ts)
node con ts (i ∷ path) = branch ts i path

abbrev pub tree_at : SchemeTree-F Tree → Tree
tree_at (SchemeTree-F.Var k) = node (con.Fixed k) []
tree_at (SchemeTree-F.Named c ts) = node (con.Named c) ts
tree_at (SchemeTree-F.Tuple ts) = node con.Tuple ts
tree_at (SchemeTree-F.Rel ins outs) = node (con.Rel (length ins)) (ins ++ outs)

-- a finite type as a tree
abbrev pub tree_of : SchemeTree → Tree
tree_of = fold-SchemeTree Tree tree_at

-- the same types, but at one node
abbrev pub with_type : (ℕ → SchemeTree) → ℕ → SchemeTree → ℕ → SchemeTree
with_type types n t m = if m == n then t else types m

-- What a further node does to the finite types: those of the new graph are those of the old one, with a type at the node
-- that is its form's, where it has one.
pub record Adds (old new : Nodes) (form : Option Form) : Type 0 where
  pub restricts : (types : ℕ → SchemeTree) → HasTypes new types → HasTypes old types
  pub extends : (types : ℕ → SchemeTree) (t : SchemeTree) → HasTypes old types → ((f : Form) → form ≡ Some f → t ≡ built f.con (map types f.args))
      → HasTypes new (with_type types (length old.forms) t)
