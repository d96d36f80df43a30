-- The arguments that a row takes, by their kinds.
use Rattle.std.specs.Prelude.{ℕ, List, [], ◌∷◌, Option, Some, None, option_and_then, ℤ}
use Rattle.rml_value.specs.declared.value.Value.{Value, out-Value}
use Rattle.rml_value.specs.declared.value.Value.TheOpen.{Value-F}
use Rattle.rml_value.specs.Lists.{items_of}

abbrev pub int_at : Value-F Value → Option ℤ
int_at (Value-F.Int n) = Some n
int_at _ = None

abbrev pub char_at : Value-F Value → Option ℕ
char_at (Value-F.Char c) = Some c
char_at _ = None

abbrev pub text_at : Value-F Value → Option (List ℕ)
text_at (Value-F.Text t) = Some t
text_at _ = None

abbrev pub cell_at : Value-F Value → Option ℕ
cell_at (Value-F.Cell k) = Some k
cell_at _ = None

abbrev pub vector_at : Value-F Value → Option (List Value)
vector_at (Value-F.Vector vs) = Some vs
vector_at _ = None

abbrev pub int_of : Value → Option ℤ
int_of v = int_at (out-Value v)

abbrev pub char_of : Value → Option ℕ
char_of v = char_at (out-Value v)

abbrev pub text_of : Value → Option (List ℕ)
text_of v = text_at (out-Value v)

abbrev pub cell_of : Value → Option ℕ
cell_of v = cell_at (out-Value v)

abbrev pub vector_of : Value → Option (List Value)
vector_of v = vector_at (out-Value v)

abbrev pub with_char : Option ℕ → Option (List ℕ) → Option (List ℕ)
with_char (Some c) (Some cs) = Some (c ∷ cs)
with_char _ _ = None

-- the characters that some values are
abbrev pub chars_in : List Value → Option (List ℕ)
chars_in [] = Some []
chars_in (v ∷ vs) = with_char (char_of v) (chars_in vs)

-- the characters of a list of characters
abbrev pub chars_of : Value → Option (List ℕ)
chars_of v = option_and_then chars_in (items_of v)

abbrev pub pair_of : {A B : Type 0} → Option A → Option B → Option (A × B)
pair_of (Some x) (Some y) = Some (x, y)
pair_of _ _ = None

-- one argument
abbrev pub one : {A : Type 0} → (Value → Option A) → List Value → Option A
one f (v ∷ []) = f v
one f _ = None

-- two arguments
abbrev pub two : {A B : Type 0} → (Value → Option A) → (Value → Option B) → List Value → Option (A × B)
two f g (v ∷ w ∷ []) = pair_of (f v) (g w)
two f g _ = None
