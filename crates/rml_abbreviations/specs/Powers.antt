-- Tables by which a type is written out so many times over at once.
use Rattle.std.specs.Prelude.{◌≡◌, ℕ, Bool, true, List, Option, is_some}
use Rattle.rml_types.specs.declared.tree.SchemeTree.{SchemeTree}
use Rattle.rml_abbreviations.specs.Written.{meaning_in, written, written_out}

-- `table` writes types out as often as `count` says, and where it is fixed a further time changes nothing
pub record IsPower (bodies : List (Option SchemeTree)) (count : ℕ) (table : List (Option SchemeTree)) (fixed : Bool) : Type 0 where
  pub names : (c : ℕ) → is_some (meaning_in table c) ≡ is_some (meaning_in bodies c)
  pub writes : (t : SchemeTree) → written (meaning_in table) t ≡ written_out count (meaning_in bodies) t
  pub stays : fixed ≡ true → (t : SchemeTree) → written (meaning_in bodies) (written (meaning_in table) t) ≡ written (meaning_in table) t
