-- The cells of arguments, and what the calls behind a row take apart.
use Rattle.std.specs.Prelude.{slice_index, nat_lt, if◌then◌else◌, Option, Some, None, negsuc, ℕ, suc, ◌≡◌, ◌+◌, ◌*◌, ◌<◌, ◌≤◌, ◌⊎◌, length, map, List, [], ◌∷◌, ◌++◌, ℤ, pos}
use Rattle.rml_value.specs.declared.value.TheConstants.{NIL, SOME}
use Rattle.rml_heap.specs.declared.cell.Cell.{Cell}
use Rattle.rml_heap.specs.declared.cell.TheConstants.{INT, CHAR, CON, BLOCK, CON_BLOCK, CONS_BLOCK, TEXT, VECTOR}
use Rattle.rml_heap.specs.HeapState.{unset_cell}
use Rattle.rml_heap.specs.Form.{IsWord, form_of}
use Rattle.rml_heap.specs.Reading.{cell_at, look, looks, each_of, word_of}
use Rattle.rml_heap.specs.Text.{words_for, packed}
use Rattle.rml_prims.specs.Binds.{IsLvar}

abbrev pub int_cell : ℤ → Cell
int_cell n = record { kind = INT; number = n }

abbrev pub char_cell : ℕ → Cell
char_cell c = record { kind = CHAR; number = pos c }

abbrev pub con_cell : ℕ → Cell
con_cell c = record { kind = CON; number = pos c }

abbrev pub block_cell : ℕ → Cell
block_cell at = record { kind = BLOCK; number = pos at }

-- the head of a `SOME`, which has one argument
abbrev pub some_head : Cell
some_head = record { kind = CON_BLOCK; number = pos (1_048_576 * SOME + 1) }

abbrev pub cons_head : Cell
cons_head = record { kind = CONS_BLOCK; number = pos 0 }

abbrev pub text_head : ℕ → Cell
text_head n = record { kind = TEXT; number = pos n }

abbrev pub vector_head : ℕ → Cell
vector_head n = record { kind = VECTOR; number = pos n }

-- one integer, and two
pub record OneInt (inputs : List Cell) : Type 0 where
  pub n : ℤ
  pub is : inputs ≡ int_cell n ∷ []

pub record TwoInts (inputs : List Cell) : Type 0 where
  pub m : ℤ
  pub n : ℤ
  pub is : inputs ≡ int_cell m ∷ int_cell n ∷ []

-- one character
pub record OneChar (inputs : List Cell) : Type 0 where
  pub c : ℕ
  pub is : inputs ≡ char_cell c ∷ []

-- a vector: the address of its head, and its items, which are what the cells that follow are seen as
pub record IsVector (cells : List Cell) (c : Cell) (at size : ℕ) : Type 0 where
  pub is : c ≡ block_cell at
  pub head : look cells at ≡ vector_head size
  pub fits : suc (at + size) ≤ length cells
  pub shown : (i : ℕ) → i < size → look cells (suc (at + i)) ≡ cell_at cells (suc (at + i))

-- a text: the address of its head, and its bytes, in whose words they are packed after it
pub record IsText (cells : List Cell) (c : Cell) (at size : ℕ) (bytes : List ℕ) : Type 0 where
  pub is : c ≡ block_cell at
  pub head : look cells at ≡ text_head size
  pub fits : suc (at + words_for size) ≤ length cells
  pub long : length bytes ≡ size
  pub each : (i : ℕ) → slice_index bytes i < 256
  pub words : each_of word_of (looks cells (suc at) (words_for size)) ≡ Some (packed (words_for size) bytes)

-- one text, two, and a text and an integer
pub record OneText (cells inputs : List Cell) : Type 0 where
  pub at : ℕ
  pub size : ℕ
  pub bytes : List ℕ
  pub c : Cell
  pub is : inputs ≡ c ∷ []
  pub text : IsText cells c at size bytes

pub record TwoTexts (cells inputs : List Cell) : Type 0 where
  pub at : ℕ
  pub size : ℕ
  pub bytes : List ℕ
  pub c : Cell
  pub more_at : ℕ
  pub more_size : ℕ
  pub more_bytes : List ℕ
  pub d : Cell
  pub is : inputs ≡ c ∷ d ∷ []
  pub text : IsText cells c at size bytes
  pub more : IsText cells d more_at more_size more_bytes

-- two texts, whose bytes one after the other are these
pub record AreJoined (cells : List Cell) (at size more_at more_size : ℕ) (bytes : List ℕ) : Type 0 where
  pub c : Cell
  pub d : Cell
  pub left : List ℕ
  pub right : List ℕ
  pub first : IsText cells c at size left
  pub second : IsText cells d more_at more_size right
  pub whole : bytes ≡ left ++ right

pub record TextAndInt (cells inputs : List Cell) : Type 0 where
  pub at : ℕ
  pub size : ℕ
  pub bytes : List ℕ
  pub c : Cell
  pub n : ℤ
  pub is : inputs ≡ c ∷ int_cell n ∷ []
  pub text : IsText cells c at size bytes

-- one vector, and a vector and an integer
pub record OneVector (cells inputs : List Cell) : Type 0 where
  pub at : ℕ
  pub size : ℕ
  pub c : Cell
  pub is : inputs ≡ c ∷ []
  pub vector : IsVector cells c at size

pub record VectorAndInt (cells inputs : List Cell) : Type 0 where
  pub at : ℕ
  pub size : ℕ
  pub c : Cell
  pub n : ℤ
  pub is : inputs ≡ c ∷ int_cell n ∷ []
  pub vector : IsVector cells c at size

-- a `::` that ends below a top, with this item, and whose parts are what they are seen as
pub record IsCons (cells : List Cell) (top : ℕ) (c : Cell) (at : ℕ) (item : Cell) : Type 0 where
  pub is : c ≡ block_cell at
  pub head : look cells at ≡ cons_head
  pub inside : suc (suc (suc at)) ≤ top
  pub first : look cells (suc at) ≡ cell_at cells (suc at)
  pub shown : cell_at cells (suc at) ≡ item
  pub second : look cells (suc (suc at)) ≡ cell_at cells (suc (suc at))

-- the cells of a list's items: each `::` ends below the one that leads to it
abbrev pub IsList : List Cell → ℕ → Cell → List Cell → Type 0
IsList cells top c [] = c ≡ con_cell NIL
IsList cells top c (item ∷ items) = (at : ℕ) × IsCons cells top c at item × IsList cells at (cell_at cells (suc (suc at))) items

-- a list of characters
pub record AreChars (cells : List Cell) (c : Cell) (bytes : List ℕ) : Type 0 where
  pub top : ℕ
  pub within : top ≤ length cells
  pub list : IsList cells top c (map char_cell bytes)
  pub each : (i : ℕ) → slice_index bytes i < 256

-- a `::` of the cells
pub record AtCons (cells : List Cell) (c : Cell) : Type 0 where
  pub top : ℕ
  pub at : ℕ
  pub item : Cell
  pub within : top ≤ length cells
  pub cons : IsCons cells top c at item

-- one list of characters
pub record OneSpelling (cells inputs : List Cell) : Type 0 where
  pub c : Cell
  pub is : inputs ≡ c ∷ []
  pub bytes : List ℕ
  pub chars : AreChars cells c bytes

-- one list
pub record OneList (cells inputs : List Cell) : Type 0 where
  pub c : Cell
  pub is : inputs ≡ c ∷ []
  pub items : List Cell
  pub list : IsList cells (length cells) c items

-- the cell of a logical variable, whose content is unset or can stand for a value
pub record IsVariable (cells : List Cell) (c : Cell) : Type 0 where
  pub at : ℕ
  pub is : c ≡ block_cell at
  pub lvar : IsLvar cells at
  pub content : (cell_at cells (suc at) ≡ unset_cell) ⊎ IsWord (form_of (cell_at cells (suc at)))

-- an index from 0 below a size
abbrev pub index_in : ℤ → ℕ → Option ℕ
index_in (pos i) size = if nat_lt i size then Some i else None
index_in (negsuc i) size = None
