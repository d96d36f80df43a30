-- What a turn of unification, which takes one pair that waits, makes of the classes and of what waits.
use Rattle.std.specs.Prelude.{ℕ, ◌+◌, ◌*◌, ◌<◌, List, [], ◌∷◌, ◌++◌, length, Option, Some, None}
use Rattle.rml_types.specs.declared.form.Form.{Form}
use Rattle.rml_types.specs.Kept.{IsOpen, known_by}
use Rattle.rml_types.specs.Nodes.{form_in, root_in}
use Rattle.rml_types.specs.Trees.{Tree, Same, SolvesBy}
use Rattle.rml_types.specs.Waiting.{PairsBelow, Unifying}

abbrev pub total : List ℕ → ℕ
total [] = 0
total (n ∷ ns) = n + total ns

-- the arguments of all forms together
abbrev pub cells : List (Option Form) → ℕ
cells [] = 0
cells (None ∷ fs) = cells fs
cells (Some f ∷ fs) = length f.args + cells fs

-- what falls with each turn: a class fewer counts for more than all pairs that can come to wait
abbrev pub weight : List (Option Form) → List ℕ → List (ℕ × ℕ) → ℕ
weight forms roots work = total roots * (cells forms + 1) + length work

-- on the way from the classes before, by roots, known forms and pairs that wait
abbrev pub OnTheWay : List (Option Form) → (ℕ → ℕ) → ℕ → ℕ → List ℕ → List (Option ℕ) → List (ℕ × ℕ) → Type 0
OnTheWay forms before a b roots shapes work = Unifying (form_in forms) before a b (root_in roots) (known_by forms shapes) work

-- the pair (m, n) was taken
pub record Turn (forms : List (Option Form)) (roots : List ℕ) (shapes : List (Option ℕ)) (work : List (ℕ × ℕ)) (m n : ℕ)
    (new_roots : List ℕ) (new_shapes : List (Option ℕ)) (new_work : List (ℕ × ℕ)) : Type 0 where
  pub graph : IsOpen forms new_roots new_shapes
  pub goes : (before : ℕ → ℕ) (a b : ℕ) → OnTheWay forms before a b roots shapes (work ++ (m, n) ∷ []) → OnTheWay forms before a b new_roots new_shapes new_work
  pub below : PairsBelow (length forms) work → PairsBelow (length forms) new_work
  pub falls : weight forms new_roots new_work < weight forms roots (work ++ (m, n) ∷ [])

-- the pair (m, n) leaves no solution
abbrev pub Stuck : List (Option Form) → List ℕ → List (Option ℕ) → List (ℕ × ℕ) → ℕ → ℕ → Type 0
Stuck forms roots shapes work m n = (before : ℕ → ℕ) (a b : ℕ) → OnTheWay forms before a b roots shapes (work ++ (m, n) ∷ [])
    → (tree : ℕ → Tree) → SolvesBy (form_in forms) before tree → Same (tree a) (tree b) → ⊥
