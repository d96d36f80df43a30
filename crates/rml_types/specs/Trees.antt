-- Types that may be infinite, as trees, and which of them solve what is known of type nodes.
use Rattle.std.specs.Prelude.{◌≡◌, ℕ, List, [], ◌∷◌, length, slice_index, Option, Some, None, if◌then◌else◌, nat_lt}
use Rattle.rml_types.specs.declared.form.TypeCon.{TypeCon}
use Rattle.rml_types.specs.declared.form.Form.{Form}

-- A tree says what stands at each path: a constructor with the number of its arguments, or nothing. Of these a path is a
-- list of numbers of arguments.
abbrev pub Tree : Type 0
Tree = List ℕ → Option (TypeCon × ℕ)

abbrev pub Same : Tree → Tree → Type 0
Same s t = (path : List ℕ) → s path ≡ t path

-- a tree for each node, as the forms say: a node without a form may be any tree
abbrev pub Respects : (ℕ → Option Form) → (ℕ → Tree) → Type 0
Respects form tree = (n : ℕ) (f : Form) → form n ≡ Some f →
    (tree n [] ≡ Some (f.con, length f.args))
    × ((i : ℕ) (path : List ℕ) → tree n (i ∷ path) ≡ (if nat_lt i (length f.args) then tree (slice_index f.args i) path else None))

-- nodes of one class have one tree
abbrev pub Joins : (ℕ → ℕ) → (ℕ → Tree) → Type 0
Joins root tree = (m n : ℕ) → root m ≡ root n → Same (tree m) (tree n)

-- trees for forms and classes
pub record SolvesBy (form : ℕ → Option Form) (root : ℕ → ℕ) (tree : ℕ → Tree) : Type 0 where
  pub forms : Respects form tree
  pub classes : Joins root tree
