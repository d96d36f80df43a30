-- Which built-ins are named as values, and the numbers of their relations. A name is looked at where it stands: at each visit of a
-- text.
use Rattle.std.specs.Prelude.{ℕ, suc, ◌+◌, nat_eq, List, [], ◌∷◌, ◌++◌, length, Option, None, Some}
use Rattle.std.specs.List.{filter, flat_map, range_with_len}
use Rattle.rml_syntax.specs.declared.rules.Long.{Long}
use Rattle.rml_syntax.specs.declared.texts.Text.{Text}
use Rattle.rml_tables.specs.Words.{has, place_of}
use Rattle.rml_scopes.specs.declared.role.Role.{Role}
use Rattle.rml_scopes.specs.declared.role.Role.TheVariants as role
use Rattle.rml_scopes.specs.declared.scope.Scope.{Scope}
use Rattle.rml_scopes.specs.declared.world.World.{World}
use Rattle.rml_scopes.specs.Machine.{Visit, visits}
use Rattle.rml_scopes.specs.Steps.{Step}
use Rattle.rml_scopes.specs.Steps as step
use Rattle.rml_values.specs.Meant.{meant}
use Rattle.rml_values.specs.Numbers.{capped}
use Rattle.rml_values.specs.declared.meant.Meant.{Meant}
use Rattle.rml_values.specs.declared.meant.Meant.TheVariants as meant
use Rattle.rml_values.specs.declared.values.Values.{Values}

-- the row of a built-in
abbrev pub row_of : Meant → Option ℕ
row_of (meant.Built row) = Some row
row_of m = None

-- the row of the built-in that a name is, where it stands as a value
abbrev pub value_row : World → Values → Scope → Role → Long → Option ℕ
value_row w v s role.Value l = row_of (meant w.known v s l)
value_row w v s r l = None

abbrev pub row_at : World → Values → Scope → Step → Option ℕ
row_at w v s (step.Name r l) = value_row w v s r l
row_at w v s x = None

abbrev pub as_list : Option ℕ → List ℕ
as_list None = []
as_list (Some row) = row ∷ []

abbrev pub visit_rows : World → Values → Visit → List ℕ
visit_rows w v x = as_list (row_at w v x.scope x.step)

-- the rows that a text names as values, in the order of their names, and those that some texts name, of which the first has this number

unfoldable pub text_rows : World → Values → ℕ → Text → List ℕ
text_rows w v number t = flat_map (visit_rows w v) (visits w number t)

abbrev pub texts_rows : World → Values → ℕ → List Text → List ℕ
texts_rows w v number [] = []
texts_rows w v number (t ∷ ts) = text_rows w v number t ++ texts_rows w v (suc number) ts

-- the rows that some texts name as values, in the order of the table
unfoldable pub named_as_values : World → Values → List Text → List ℕ
named_as_values w v texts = filter (λ row. has nat_eq row (texts_rows w v 0 texts)) (range_with_len 0 (length v.rows))

-- The number of the relation of a row, where this is the number behind all relations of the texts and these are the rows that are named as
-- values. A row that is not among them has the number behind all.
unfoldable pub row_number : ℕ → List ℕ → ℕ → ℕ
row_number first named row = capped (first + place_of nat_eq row named)
