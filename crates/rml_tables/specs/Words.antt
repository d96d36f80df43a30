-- Names in lists. A name is whatever a set or a table is asked for, such as a number or a pair of numbers; `same` says when two of
-- them are one name.
use Rattle.std.specs.Prelude.{◌≡◌, ℕ, Bool, List, [], ◌∷◌, ◌++◌, Some, is_some, slice_get, if◌then◌else◌}
use Rattle.std.specs.List.{list_any, position_or_len}
use Rattle.std.specs.Map.{keys_of, lookup}

module _ {K : Type 0} (same : K → K → Bool) where
  -- whether a name is among them
  abbrev pub has : K → List K → Bool
  has name names = list_any (same name) names

  -- the place of a name, counted from 0; behind the last where it is not there
  abbrev pub place_of : K → List K → ℕ
  place_of name names = position_or_len (same name) names

  -- the names, with this one at the end where it is not among them
  abbrev pub with_name : List K → K → List K
  with_name names name = if has name names then names else names ++ name ∷ []

  -- the names, with each of some more in turn
  abbrev pub with_each : List K → List K → List K
  with_each names [] = names
  with_each names (name ∷ more) = with_each (with_name names name) more

  -- no name stands twice: each is found at its own place
  abbrev pub AreDistinct : List K → Type 0
  AreDistinct names = (i : ℕ) (name : K) → slice_get names i ≡ Some name → place_of name names ≡ i

-- what stood in the list stands there still, and what came stands behind it
abbrev pub Grows : {X : Type 0} → List X → List X → Type 0
Grows {X} old new = (more : List X) × (new ≡ old ++ more)

module _ {K V : Type 0} (same : K → K → Bool) where
  -- the table, with this declaration at the end where the name has none
  abbrev pub with_first : List (K × V) → K → V → List (K × V)
  with_first table name value = if is_some (lookup (same name) table) then table else table ++ (name, value) ∷ []
