-- A graph whose classes are closed, and what waits until they are.
use Rattle.std.specs.Prelude.{◌≡◌, ℕ, ◌<◌, List, [], ◌∷◌, length, slice_index, Option, Some, None, if◌then◌else◌, nat_lt}
use Rattle.rml_types.specs.declared.form.Form.{Form}
use Rattle.rml_types.specs.declared.form.TypeCon.TheVariants.{Tuple}
use Rattle.rml_types.specs.Trees.{Tree, Same, Joins, SolvesBy}

-- two forms agree, their arguments as h labels them
pub record Alike (h : ℕ → ℕ) (f g : Form) : Type 0 where
  pub con : f.con ≡ g.con
  pub count : length f.args ≡ length g.args
  pub arguments : (i : ℕ) → i < length f.args → h (slice_index f.args i) ≡ h (slice_index g.args i)

-- each node with a form has in its class a known form, and the two agree
abbrev pub Closed : (ℕ → Option Form) → (ℕ → ℕ) → (ℕ → Option Form) → Type 0
Closed form root known = (n : ℕ) (f : Form) → form n ≡ Some f → (g : Form) × (known (root n) ≡ Some g) × Alike root f g

-- a form known of a root is that of a node of its class
abbrev pub Known : (ℕ → Option Form) → (ℕ → ℕ) → (ℕ → Option Form) → Type 0
Known form root known = (c : ℕ) (f : Form) → root c ≡ c → known c ≡ Some f → (n : ℕ) × (root n ≡ c) × (form n ≡ Some f)

-- the tree of a class: its known form, and so on
abbrev pub below : (ℕ → ℕ) → (ℕ → Option Form) → Option Form → Tree
below root known None [] = Some (Tuple, 0)
below root known None (i ∷ path) = None
below root known (Some f) [] = Some (f.con, length f.args)
below root known (Some f) (i ∷ path) = if nat_lt i (length f.args) then below root known (known (root (slice_index f.args i))) path else None

abbrev pub unfolded : (ℕ → ℕ) → (ℕ → Option Form) → ℕ → Tree
unfolded root known n = below root known (known (root n))

-- h labels the nodes of a class alike
abbrev pub Labels : (ℕ → ℕ) → (ℕ → ℕ) → Type 0
Labels root h = (m n : ℕ) → root m ≡ root n → h m ≡ h n

-- h labels the two nodes of each waiting pair alike
abbrev pub Pairs : (ℕ → ℕ) → List (ℕ × ℕ) → Type 0
Pairs h [] = Unit {0}
Pairs h (p ∷ ps) = (h p.0 ≡ h p.1) × Pairs h ps

-- What is closed once nothing waits: whichever labels agree on the classes and on what waits, agree on the arguments.
pub record Waits (form : ℕ → Option Form) (root : ℕ → ℕ) (known : ℕ → Option Form) (work : List (ℕ × ℕ)) : Type 0 where
  pub closed : (h : ℕ → ℕ) → Labels root h → Pairs h work → (n : ℕ) (f : Form) → form n ≡ Some f → (g : Form) × (known (root n) ≡ Some g) × Alike h f g

-- the trees of the two nodes of each waiting pair are the same
abbrev pub Agree : (ℕ → Tree) → List (ℕ × ℕ) → Type 0
Agree tree [] = Unit {0}
Agree tree (p ∷ ps) = Same (tree p.0) (tree p.1) × Agree tree ps

-- the pairs of the arguments, from one on
abbrev pub argument_pairs : List ℕ → List ℕ → List (ℕ × ℕ)
argument_pairs [] ys = []
argument_pairs (x ∷ xs) [] = []
argument_pairs (x ∷ xs) (y ∷ ys) = (x, y) ∷ argument_pairs xs ys

-- the forms of two classes can be one
abbrev pub CanMeet : Option Form → Option Form → Type 0
CanMeet (Some f) (Some g) = (f.con ≡ g.con) × (length f.args ≡ length g.args)
CanMeet _ _ = Unit {0}

-- the pairs that wait where the forms of two classes become one
abbrev pub met_pairs : Option Form → Option Form → List (ℕ × ℕ)
met_pairs (Some f) (Some g) = argument_pairs f.args g.args
met_pairs _ _ = []

-- each node of a waiting pair is below a number
abbrev pub PairsBelow : ℕ → List (ℕ × ℕ) → Type 0
PairsBelow n [] = Unit {0}
PairsBelow n (p ∷ ps) = (p.0 < n) × (p.1 < n) × PairsBelow n ps

-- On the way from the classes before to those in which a and b are one: what is closed, that no class was parted, that a
-- and b will be one, and that whatever solved the graph before, with one tree at a and b, solves what is there.
pub record Unifying (form : ℕ → Option Form) (before : ℕ → ℕ) (a b : ℕ) (root : ℕ → ℕ) (known : ℕ → Option Form) (work : List (ℕ × ℕ)) : Type 0 where
  pub waits : Waits form root known work
  pub coarser : (h : ℕ → ℕ) → Labels root h → Labels before h
  pub asked : (h : ℕ → ℕ) → Labels root h → Pairs h work → h a ≡ h b
  pub forced : (tree : ℕ → Tree) → SolvesBy form before tree → Same (tree a) (tree b) → Joins root tree × Agree tree work
