-- The most general type of a node, how its variables are numbered, and when it is too wide to be written out.
use Rattle.std.specs.Prelude.{◌≡◌, ℕ, ◌+◌, ◌<◌, ◌≤◌, List, [], ◌∷◌, ◌++◌, max, ◌↔◌}
use Rattle.rml_types.specs.declared.tree.SchemeTree.{SchemeTree, fold-SchemeTree}
use Rattle.rml_types.specs.declared.tree.SchemeTree.TheOpen.{SchemeTree-F}
use Rattle.rml_types.specs.Finite.{HasTypes, nodes}
use Rattle.rml_types.specs.Instances.{IsInstance}
use Rattle.rml_types.specs.Nodes.{Nodes}

-- some finite types that solve the graph give the node this type
abbrev pub HasType : Nodes → ℕ → SchemeTree → Type 0
HasType g node t = (types : ℕ → SchemeTree) × HasTypes g types × (types node ≡ t)

-- the instances of a type are exactly the types of a node
abbrev pub IsGeneral : Nodes → ℕ → SchemeTree → Type 0
IsGeneral g node body = (t : SchemeTree) → IsInstance body t ↔ HasType g node t

abbrev pub all_of : List (List ℕ) → List ℕ
all_of [] = []
all_of (ks ∷ rest) = ks ++ all_of rest

abbrev pub variables_at : SchemeTree-F (List ℕ) → List ℕ
variables_at (SchemeTree-F.Var k) = k ∷ []
variables_at (SchemeTree-F.Named c ts) = all_of ts
variables_at (SchemeTree-F.Tuple ts) = all_of ts
variables_at (SchemeTree-F.Rel ins outs) = all_of ins ++ all_of outs

-- the variables of a type as they stand from left to right
abbrev pub variables_in : SchemeTree → List ℕ
variables_in = fold-SchemeTree (List ℕ) variables_at

-- Where the variables met so far have the numbers below `next`, each further one is one of those or the next, and in the
-- end there are `count`.
abbrev pub InOrder : ℕ → List ℕ → ℕ → Type 0
InOrder next [] count = next ≡ count
InOrder next (k ∷ ks) count = (k ≤ next) × InOrder (max next (k + 1)) ks count

-- the variables of a type, so many, are numbered from 0 on in order of first occurrence
abbrev pub IsNumbered : ℕ → SchemeTree → Type 0
IsNumbered vars body = InOrder 0 (variables_in body) vars

-- The node has a most general type, and each of its types has more nodes than a number.
pub record IsWide (g : Nodes) (node limit : ℕ) : Type 0 where
  pub general : SchemeTree
  pub is : IsGeneral g node general
  pub wide : (t : SchemeTree) → HasType g node t → limit < nodes t
