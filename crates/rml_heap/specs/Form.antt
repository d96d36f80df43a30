-- What a cell is, by its kind and its number. All that is said of cells goes by this, so that a kind has one meaning.
use Rattle.std.specs.Prelude.{ℕ, zero, suc, ◌/◌, ◌%◌, ◌^◌, ◌==◌, ◌&&◌, nat_lt, if◌then◌else◌, ℤ, pos, negsuc, List, [], ◌∷◌, slice_index_or}
use Rattle.rml_value.specs.declared.value.TheConstants.{CONS}
use Rattle.rml_heap.specs.declared.cell.Cell.{Cell}

-- the first five stand for values; then come the heads of blocks, and the content of a logical variable that is not set
pub data Form : Type 0 where
  Int : ℤ → Form
  Char : ℕ → Form
  Rel : ℕ → Form
  Block : ℕ → Form
  Con : ℕ → Form
  Text : ℕ → Form
  ConBlock : ℕ → ℕ → Form
  Tuple : ℕ → Form
  ConsBlock : Form
  Lvar : Form
  Unset : Form
  Vector : ℕ → Form
  Other : Form

-- a cell of this form can stand for a value: it is no head, and not unset
abbrev pub IsWord : Form → Type 0
IsWord (Int i) = Unit {0}
IsWord (Char c) = Unit {0}
IsWord (Rel relation) = Unit {0}
IsWord (Block at) = Unit {0}
IsWord (Con constructor) = Unit {0}
IsWord (Text n) = ⊥
IsWord (ConBlock constructor n) = ⊥
IsWord (Tuple n) = ⊥
IsWord ConsBlock = ⊥
IsWord Lvar = ⊥
IsWord Unset = ⊥
IsWord (Vector n) = ⊥
IsWord Other = ⊥

-- by a number that is not below 0
abbrev pub natural : (ℕ → Form) → ℤ → Form
natural f (pos n) = f n
natural f (negsuc n) = Other

-- by no number, which is 0 then
abbrev pub bare : Form → ℤ → Form
bare f (pos zero) = f
bare f (pos (suc n)) = Other
bare f (negsuc n) = Other

-- a character is a byte
abbrev pub char_form : ℕ → Form
char_form n = if nat_lt n 256 then Char n else Other

-- a relation's entry block comes after two blocks that are the ends of a run
abbrev pub rel_form : ℕ → Form
rel_form zero = Other
rel_form (suc zero) = Other
rel_form (suc (suc relation)) = Rel relation

-- a constructor has arguments here, and is not `::`
abbrev pub applied_form : ℕ → ℕ → Form
applied_form constructor zero = Other
applied_form constructor (suc n) = if (constructor == CONS) && (n == 1) then Other else ConBlock constructor (suc n)

abbrev pub con_form : ℕ → Form
con_form n = applied_form (n / 2 ^ 20) (n % 2 ^ 20)

-- what the number says, for each kind in its order
abbrev pub forms : List (ℤ → Form)
forms =
    Int
    ∷ natural char_form
    ∷ natural rel_form
    ∷ natural Block
    ∷ natural Con
    ∷ natural Text
    ∷ natural con_form
    ∷ natural Tuple
    ∷ bare ConsBlock
    ∷ bare Lvar
    ∷ bare Unset
    ∷ natural Vector
    ∷ []

unfoldable pub form : ℕ → ℤ → Form
form kind number = slice_index_or forms kind (λ i. Other) number

abbrev pub form_of : Cell → Form
form_of c = form c.kind c.number

-- ---- the number of a cell as another number

-- an address of 32 bits; a number that is none becomes the last one
abbrev pub address : ℤ → ℕ
address (pos n) = if nat_lt n (2 ^ 32) then n else 4_294_967_295
address (negsuc n) = 4_294_967_295

abbrev pub or_zero : ℤ → ℕ
or_zero (pos n) = n
or_zero (negsuc n) = 0
