-- Equality of values: by structure, vectors by length and items, relations by number, logical variables by identity.
use Rattle.std.specs.Prelude.{Bool, true, false, ◌&&◌, ◌==◌, List, [], ◌∷◌}
use Rattle.std.specs.Str.{bytes_eq}
use Rattle.std.specs.Ordering.{int_eq}
use Rattle.rml_value.specs.declared.value.Value.{Value, out-Value, fold-Value}
use Rattle.rml_value.specs.declared.value.Value.TheOpen.{Value-F}

-- as many on both sides, and each the same as its neighbour
abbrev pub all_same : List (Value → Bool) → List Value → Bool
all_same [] [] = true
all_same (x ∷ xs) (y ∷ ys) = x y && all_same xs ys
all_same _ _ = false

-- at the roots of two values, where each child of the first already says which values it is the same as
abbrev pub same_as : Value-F (Value → Bool) → Value-F Value → Bool
same_as (Value-F.Int a) (Value-F.Int b) = int_eq a b
same_as (Value-F.Char a) (Value-F.Char b) = a == b
same_as (Value-F.Text a) (Value-F.Text b) = bytes_eq a b
same_as (Value-F.Con a xs) (Value-F.Con b ys) = (a == b) && all_same xs ys
same_as (Value-F.Tuple xs) (Value-F.Tuple ys) = all_same xs ys
same_as (Value-F.Rel a) (Value-F.Rel b) = a == b
same_as (Value-F.Cell a) (Value-F.Cell b) = a == b
same_as (Value-F.Vector xs) (Value-F.Vector ys) = all_same xs ys
same_as _ _ = false

abbrev pub same : Value → Value → Bool
same = fold-Value (Value → Bool) (λ x v. same_as x (out-Value v))
