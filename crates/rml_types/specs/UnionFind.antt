-- Union-find: classes of nodes, by parents.
use Rattle.std.specs.Prelude.{◌≡◌, ℕ, zero, suc, ◌<◌, ◌≤◌, ◌==◌, List, [], ◌∷◌, length, slice_index, if◌then◌else◌}

-- no parent has a greater number
abbrev pub Falls : List ℕ → Type 0
Falls parents = (n : ℕ) → n < length parents → slice_index parents n ≤ n

-- so many steps up
abbrev pub up : List ℕ → ℕ → ℕ → ℕ
up parents zero n = n
up parents (suc k) n = if slice_index parents n == n then n else up parents k (slice_index parents n)

-- where the steps up from a node end
abbrev pub root_of : List ℕ → ℕ → ℕ
root_of parents n = up parents n n

-- the roots of so many nodes, from one on
abbrev pub roots_from : List ℕ → ℕ → ℕ → List ℕ
roots_from parents k zero = []
roots_from parents k (suc n) = root_of parents k ∷ roots_from parents (suc k) n

abbrev pub roots : List ℕ → List ℕ
roots parents = roots_from parents 0 (length parents)

-- other parents, and the same root for each node
pub record SameRoots (old new : List ℕ) : Type 0 where
  pub count : length new ≡ length old
  pub same : (n : ℕ) → n < length old → root_of new n ≡ root_of old n

-- where a root came to be a child
abbrev pub moved : ℕ → ℕ → ℕ → ℕ
moved kept lost n = if n == lost then kept else n
