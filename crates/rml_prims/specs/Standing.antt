-- What the cells of values stand for, all of them together: the value of a cell, in which a logical variable is the number of its head
-- among the heads, and the store, which has an entry for each head.
use Rattle.std.specs.Prelude.{ℕ, suc, ◌≡◌, Bool, true, false, if◌then◌else◌, List, [], ◌∷◌, length, Option, Some, None, option_map, option_and_then, slice_get}
use Rattle.rml_value.specs.declared.value.Value.{Value}
use Rattle.rml_builtin.specs.Applied.{Store}
use Rattle.rml_heap.specs.declared.cell.Cell.{Cell}
use Rattle.rml_heap.specs.Form as form
use Rattle.rml_heap.specs.Form.{Form, form_of}
use Rattle.rml_heap.specs.Reading.{value_below}

-- what each leads to, if each leads to something
abbrev pub each_of : {A B : Type 0} → (A → Option B) → List A → Option (List B)
each_of f [] = Some []
each_of f (x ∷ xs) = option_and_then (λ y. option_map (λ ys. y ∷ ys) (each_of f xs)) (f x)

abbrev pub is_lvar : Form → Bool
is_lvar form.Lvar = true
is_lvar _ = false

-- the addresses of the heads of logical variables, from the lowest, where the cells begin at this address
abbrev pub lvars_from : ℕ → List Cell → List ℕ
lvars_from at [] = []
lvars_from at (c ∷ cells) = if is_lvar (form_of c) then at ∷ lvars_from (suc at) cells else lvars_from (suc at) cells

abbrev pub lvars_in : List Cell → List ℕ
lvars_in cells = lvars_from 0 cells

-- none of them is a head
abbrev pub NoHeads : List Cell → Type 0
NoHeads [] = Unit {0}
NoHeads (c ∷ cells) = (is_lvar (form_of c) ≡ false) × NoHeads cells

-- the value of a cell; blocks lie one below another, so none is nested deeper than there are cells
abbrev pub value_in : List Cell → Cell → Option Value
value_in cells c = value_below (suc (length cells)) cells (lvars_in cells) (length cells) c

abbrev pub values_in : List Cell → List Cell → Option (List Value)
values_in cells cs = each_of (value_in cells) cs

-- the entry for a content, which is unset or stands for a value
abbrev pub entry_at : List Cell → Cell → Form → Option (Option Value)
entry_at cells c form.Unset = Some None
entry_at cells c _ = option_map Some (value_in cells c)

abbrev pub entry_in : List Cell → ℕ → Option (Option Value)
entry_in cells at = option_and_then (λ (c : Cell). entry_at cells c (form_of c)) (slice_get cells (suc at))

abbrev pub store_in : List Cell → Option Store
store_in cells = each_of (entry_in cells) (lvars_in cells)
