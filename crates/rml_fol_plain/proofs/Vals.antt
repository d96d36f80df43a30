-- The expression of a val, by its number.
use Rattle.std.proofs.Common.{◌≡◌, ℕ, zero, suc, List, [], ◌∷◌, Some, None, refl}
use Rattle.std.specs.Prelude.{slice_get}
use Rattle.rml_fol.specs.declared.parts.Val.{Val}
use Rattle.rml_fol_plain.specs.Given.{expressions_in}

pub expression-there : (vals : List Val) (k : ℕ) (v : Val) → slice_get vals k ≡ Some v → slice_get (expressions_in vals) k ≡ Some v.value
expression-there [] k v e = absurd cc
expression-there (w ∷ vals) zero v e = cc
expression-there (w ∷ vals) (suc k) v e = expression-there vals k v e

pub expression-none : (vals : List Val) (k : ℕ) → slice_get vals k ≡ None → slice_get (expressions_in vals) k ≡ None
expression-none [] k e = refl
expression-none (w ∷ vals) zero e = absurd cc
expression-none (w ∷ vals) (suc k) e = expression-none vals k e
