-- The name of a built-in whose number is in the table.
use Rattle.std.proofs.Common.{◌≡◌, ℕ, ◌<◌, List, length, get_or, Option, Some, sym, subst, ap, ◌∙◌}
use Rattle.std.specs.Prelude.{IfSome, slice_get}
use Rattle.std.proofs.lemmas.Option.{slice_get-get_or}
use Rattle.rml_builtin.specs.declared.row.Row.{Row}
use Rattle.rml_builtin.specs.Table.{name_of}
use Rattle.rml_fol.specs.Text.{row_name}

pub named : (rows : List Row) (number : ℕ) (d : Row) (t : List ℕ) → number < length rows → IfSome (slice_get rows number) (λ row. t ≡ name_of row) → t ≡ row_name (slice_get rows number)
named rows number d t h named_so =
    let there : slice_get rows number ≡ Some (get_or rows number d) = slice_get-get_or rows number d h in
    let is : t ≡ name_of (get_or rows number d) = subst (λ (o : Option Row). IfSome o (λ row. t ≡ name_of row)) there named_so in
    is ∙ ap row_name (sym there)
