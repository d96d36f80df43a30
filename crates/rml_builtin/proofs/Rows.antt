-- The rows, by their numbers and by their names.
use Rattle.std.proofs.Common.{◌≡◌, ℕ, List, [], Some, get_or, map, option_map, refl, sym, ap, ◌∙◌, zero-add}
use Rattle.std.specs.Prelude.{slice_get}
use Rattle.std.specs.List.{range_with_len}
use Rattle.std.specs.Str.{bytes_eq}
use Rattle.std.proofs.lemmas.Option.{slice_get-map, slice_get_within, slice_get-get_or, get_or_from_slice_get}
use Rattle.std.proofs.lemmas.List.FromFn.{get_or-range_with_len}
use Rattle.std.proofs.lemmas.List.Quantifiers.{position-Some}
use Rattle.std.proofs.lemmas.Slice.Eq.{bytes_eq-Decides}
use Rattle.rml_builtin.specs.declared.row.TheConstants.{ROWS}
use Rattle.rml_builtin.specs.declared.row.Row.{Row}
use Rattle.rml_builtin.specs.declared.row.Row.TheVariants.{IntAdd}
use Rattle.rml_builtin.specs.Table.{row_number, name_of}
use Rattle.rml_builtin.specs.Names.{row_names, number_named}

pub at-number : (row : Row) → slice_get ROWS (row_number row) ≡ Some row
at-number IntAdd = refl
at-number _ = refl

pub number-at : (row : Row) (k : ℕ) → slice_get ROWS k ≡ Some row → row_number row ≡ k
number-at row k h =
    let numbers : map row_number ROWS ≡ range_with_len 0 32 = refl in
    let there : slice_get (range_with_len 0 32) k ≡ Some (row_number row) =
    ap (λ ns. slice_get ns k) (sym numbers) ∙ slice_get-map row_number ROWS k ∙ ap (option_map row_number) h in
    sym (get_or_from_slice_get (range_with_len 0 32) k (row_number row) 0 there) ∙ get_or-range_with_len 0 32 k 0 (slice_get_within ROWS k row h) ∙ zero-add k

pub named : (row : Row) → number_named (name_of row) ≡ Some (row_number row)
named IntAdd = refl
named _ = refl

pub one-name : (a b : Row) → name_of a ≡ name_of b → a ≡ b
one-name a b e =
    let numbers : Some (row_number a) ≡ Some (row_number b) = sym (named a) ∙ ap number_named e ∙ named b in
    let number : row_number a ≡ row_number b = cc in
    let rows : Some a ≡ Some b = sym (at-number a) ∙ ap (slice_get ROWS) number ∙ at-number b in cc

pub found : (name : List ℕ) (k : ℕ) → number_named name ≡ Some k → option_map name_of (slice_get ROWS k) ≡ Some name
found name k h =
    let p = position-Some (bytes_eq name) row_names k [] h in
    let is : name ≡ get_or row_names k [] = (bytes_eq-Decides name (get_or row_names k [])).0 p.1 in
    sym (slice_get-map name_of ROWS k) ∙ slice_get-get_or row_names k [] p.0 ∙ ap Some (sym is)
