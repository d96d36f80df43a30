-- The type of a node spelled by classes, in reverse Polish order.
use Rattle.std.specs.Prelude.{◌≡◌, ℕ, ◌+◌, ◌<◌, ◌≤◌, List, [], ◌∷◌, ◌++◌, length, map, nat_eq, if◌then◌else◌, Option, Some, None, All}
use Rattle.std.specs.List.{list_any, position_or_len, range_with_len}
use Rattle.rml_types.specs.declared.form.Form.{Form}
use Rattle.rml_types.specs.declared.form.TypeCon.{TypeCon}
use Rattle.rml_types.specs.declared.form.TypeCon.TheVariants as con
use Rattle.rml_types.specs.declared.tree.SchemeTree.{SchemeTree}
use Rattle.rml_types.specs.Finite.{nodes, sum_of}
use Rattle.rml_types.specs.General.{InOrder}
use Rattle.rml_types.specs.Labels.{Label}
use Rattle.rml_types.specs.Runs.{Ready, run}
use Rattle.rml_types.specs.Written.{level}

-- the type of each node is what is known of its class over the types of nodes, or the leaf of a class of which nothing is known
abbrev pub Unfolds : (ℕ → ℕ) → (ℕ → Option Form) → (ℕ → SchemeTree) → (ℕ → SchemeTree) → Type 0
Unfolds root known leaf types = (n : ℕ) → types n ≡ level leaf types (root n) (known (root n))

-- what is known of classes names no variable that stands fixed
abbrev pub Unfixed : (ℕ → Option Form) → Type 0
Unfixed known = (c : ℕ) (f : Form) (k : ℕ) → known c ≡ Some f → f.con ≡ con.Fixed k → ⊥

abbrev pub args_in : Option Form → List ℕ
args_in None = []
args_in (Some f) = f.args

-- the label of a form, and the variable of a number where there is none
abbrev pub label_by : ℕ → Option Form → Label
label_by k None = (con.Fixed k, 0)
label_by k (Some f) = (f.con, length f.args)

-- the labels of classes, a class without a form being the variable of its own number
abbrev pub class_labels : (ℕ → Option Form) → List ℕ → List Label
class_labels known = map (λ c. label_by c (known c))

-- the leaves of so many classes
abbrev pub leaves : (ℕ → SchemeTree) → ℕ → List SchemeTree
leaves leaf count = map leaf (range_with_len 0 count)

-- some classes spell the type of a node, whatever the leaves are
pub record Spells (root : ℕ → ℕ) (known : ℕ → Option Form) (count node : ℕ) (classes : List ℕ) : Type 0 where
  pub within : All (λ c. c < count) classes
  pub ready : Ready count (class_labels known classes) 0
  pub types : (leaf types : ℕ → SchemeTree) → Unfolds root known leaf types → run (leaves leaf count) (class_labels known classes) [] ≡ types node ∷ []

-- On the way there, from the end of the type: some classes are spelled, and the nodes of what stands before them wait.
pub record Spelling (root : ℕ → ℕ) (known : ℕ → Option Form) (count node : ℕ) (waiting spelled : List ℕ) : Type 0 where
  pub waits : All (λ n. n < count) waiting
  pub within : All (λ c. c < count) spelled
  pub ready : Ready count (class_labels known spelled) (length waiting)
  pub types : (leaf types : ℕ → SchemeTree) → Unfolds root known leaf types → run (leaves leaf count) (class_labels known spelled) (map types waiting) ≡ types node ∷ []
  pub wide : (leaf types : ℕ → SchemeTree) → Unfolds root known leaf types → sum_of (map nodes (map types waiting)) + length spelled ≤ nodes (types node)

-- the place of a class among others
abbrev pub place : List ℕ → ℕ → ℕ
place vars c = position_or_len (nat_eq c) vars

-- the variables where a class came
abbrev pub vars_with : List ℕ → ℕ → Option Form → List ℕ
vars_with vars c None = if list_any (nat_eq c) vars then vars else vars ++ c ∷ []
vars_with vars c (Some f) = vars

-- the label of a class, where a class without a form is the variable of its place in a list
abbrev pub IsName : List ℕ → Option Form → ℕ → Label → Type 0
IsName vars None c l = (l ≡ (con.Fixed (place vars c), 0)) × (place vars c < length vars)
IsName vars (Some f) c l = l ≡ (f.con, length f.args)

-- the labels of classes in this way
abbrev pub Names : (ℕ → Option Form) → List ℕ → List ℕ → List Label → Type 0
Names known vars [] [] = Unit {0}
Names known vars [] (l ∷ ls) = ⊥
Names known vars (c ∷ cs) [] = ⊥
Names known vars (c ∷ cs) (l ∷ ls) = IsName vars (known c) c l × Names known vars cs ls

abbrev pub number_of : TypeCon → List ℕ
number_of (con.Fixed k) = k ∷ []
number_of (con.Named c) = []
number_of con.Tuple = []
number_of (con.Rel inputs) = []

-- the variables among labels
abbrev pub numbers_in : List Label → List ℕ
numbers_in [] = []
numbers_in (l ∷ ls) = number_of l.0 ++ numbers_in ls

-- the labels of classes, with variables numbered in order of first occurrence
pub record Numbered (known : ℕ → Option Form) (classes : List ℕ) (labels : List Label) (count : ℕ) : Type 0 where
  pub vars : List ℕ
  pub many : count ≡ length vars
  pub names : Names known vars classes labels
  pub order : InOrder 0 (numbers_in labels) count
