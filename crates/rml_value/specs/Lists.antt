-- The lists of the language, which are values of the constructors `[]` and `::`.
use Rattle.std.specs.Prelude.{◌==◌, if◌then◌else◌, List, [], ◌∷◌, Option, Some, None, option_map}
use Rattle.rml_value.specs.declared.value.TheConstants.{NIL, CONS}
use Rattle.rml_value.specs.declared.value.Value.{Value, out-Value, fold-Value}
use Rattle.rml_value.specs.declared.value.Value.TheOpen.{Value-F}
use Rattle.rml_value.specs.declared.value.Value.TheVariants as value

-- a list with some values before its items
abbrev pub onto : List Value → Value → Value
onto [] list = list
onto (v ∷ vs) list = value.Con CONS (v ∷ onto vs list ∷ [])

-- the list of some values
abbrev pub list_of : List Value → Value
list_of vs = onto vs (value.Con NIL [])

-- what a value's items are, of the value itself
abbrev pub Reading : Type 0
Reading = Value → Option (List Value)

-- at the root of a value, where each child already has a reading
abbrev pub items_at : Value-F Reading → Value-F Value → Option (List Value)
items_at (Value-F.Con c []) v = if c == NIL then Some [] else None
items_at (Value-F.Con c (head ∷ tail ∷ [])) (Value-F.Con d (x ∷ xs ∷ [])) = if c == CONS then option_map (λ rest. x ∷ rest) (tail xs) else None
items_at _ _ = None

abbrev pub reading : Value → Reading
reading = fold-Value Reading (λ x v. items_at x (out-Value v))

-- the items of a list; a value that is no list has none
abbrev pub items_of : Value → Option (List Value)
items_of v = reading v v
