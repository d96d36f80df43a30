-- What contracts see of a type graph, and what solves it.
use Rattle.std.specs.Prelude.{◌≡◌, ℕ, ◌≤◌, List, [], ◌∷◌, ◌++◌, length, get_or, Option, Some, None, ◌↔◌}
use Rattle.rml_types.specs.declared.form.Form.{Form}
use Rattle.rml_types.specs.declared.form.TypeCon.{TypeCon}
use Rattle.rml_types.specs.declared.form.TypeCon.TheVariants as con
use Rattle.rml_types.specs.declared.form.UnifyErr.{UnifyErr}
use Rattle.rml_types.specs.Trees.{Tree, Same, SolvesBy}

-- Of each node its form, if it has one, and the root of its class; and the error, once there was one.
pub record Nodes : Type 0 where
  pub forms : List (Option Form)
  pub roots : List ℕ
  pub failed : Option UnifyErr

abbrev pub form_in : List (Option Form) → ℕ → Option Form
form_in forms n = get_or forms n None

-- A number that no node has is a class of its own.
abbrev pub root_in : List ℕ → ℕ → ℕ
root_in roots n = get_or roots n n

abbrev pub form_of : Nodes → ℕ → Option Form
form_of g = form_in g.forms

abbrev pub class_of : Nodes → ℕ → ℕ
class_of g = root_in g.roots

-- the trees of the nodes, finite or not, solve the equations so far
abbrev pub Solves : Nodes → (ℕ → Tree) → Type 0
Solves g = SolvesBy (form_of g) (class_of g)

-- how many arguments a constructor can have
abbrev pub Fits : TypeCon → ℕ → Type 0
Fits (con.Named c) count = Unit {0}
Fits (con.Fixed k) count = count ≡ 0
Fits con.Tuple count = Unit {0}
Fits (con.Rel inputs) count = inputs ≤ count

-- one node more, in a class of its own
abbrev pub with_node : Nodes → Option Form → Nodes
with_node g form = record { forms = g.forms ++ form ∷ []; roots = g.roots ++ length g.forms ∷ []; failed = g.failed }

-- The new graph has exactly the solutions of the old one that have one tree at a and b.
abbrev pub Equates : Nodes → Nodes → ℕ → ℕ → Type 0
Equates old new a b = (tree : ℕ → Tree) → Solves new tree ↔ (Solves old tree × Same (tree a) (tree b))

-- no solution of the graph has one tree at a and b
abbrev pub CannotEquate : Nodes → ℕ → ℕ → Type 0
CannotEquate g a b = (tree : ℕ → Tree) → Solves g tree → Same (tree a) (tree b) → ⊥

-- no type variable stands fixed in the graph
abbrev pub HasNoFixed : Nodes → Type 0
HasNoFixed g = (n : ℕ) (f : Form) (k : ℕ) → form_of g n ≡ Some f → f.con ≡ con.Fixed k → ⊥
