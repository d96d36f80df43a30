-- What a built-in weighs, and the cells of a constructor's block.
use Rattle.std.proofs.Common.{◌≡◌, ◌≢◌, ℕ, ◌+◌, ◌*◌, List, [], ◌∷◌, map, length, sum, Option, Some, refl, ap, ◌∙◌}
use Rattle.std.proofs.lemmas.List.{length-map}
use Rattle.rml_builtin.specs.declared.row.Row.{Row}
use Rattle.rml_builtin.specs.declared.row.Row.TheVariants.{Print}
use Rattle.rml_fol.specs.declared.terms.Expression.{Expression}
use Rattle.rml_fol.specs.Expressions.{cells_of, con_cells}
use Rattle.rml_fol.specs.Weights.{row_weight}

silent : (row : Row) (results : ℕ) → row ≢ Print → row_weight (Some row) results ≡ 15 + 2 * results
silent Print results other = absurd (other refl)
silent _ results other = refl

-- all but `print`
pub weighs_silent : (o : Option Row) (row : Row) (results : ℕ) → o ≡ Some row → row ≢ Print → row_weight o results ≡ 15 + 2 * results
weighs_silent o row results is other = ap (λ (x : Option Row). row_weight x results) is ∙ silent row results other

pub con-some : (c : ℕ) (es : List Expression) → (es ≡ [] → ⊥) → con_cells c (map cells_of es) ≡ (1 + length es) + sum (map cells_of es)
con-some c [] none = absurd (none refl)
con-some c (e ∷ es) none = ap (λ n. (1 + n) + sum (map cells_of (e ∷ es))) (length-map (e ∷ es) cells_of)
