-- Which value a cell of values stands for. There is one reading: what is no value of the table has none. The contents of logical
-- variables are never seen, and a block is read only from cells below it and below the top.
use Rattle.std.specs.Prelude.{ℕ, zero, suc, ◌+◌, ◌≡◌, ◌==◌, nat_le, if◌then◌else◌, List, [], ◌∷◌, Option, Some, None, ℤ, slice_index_or}
use Rattle.std.specs.Option.{option_map, option_and_then}
use Rattle.rml_value.specs.declared.value.Value.{Value}
use Rattle.rml_value.specs.declared.value.Value.TheVariants as value
use Rattle.rml_value.specs.declared.value.TheConstants.{CONS}
use Rattle.rml_heap.specs.declared.cell.Cell.{Cell}
use Rattle.rml_heap.specs.HeapState.{unset_cell}
use Rattle.rml_heap.specs.Form as form
use Rattle.rml_heap.specs.Form.{Form, form_of}
use Rattle.rml_heap.specs.Text.{words_for, text_of}

-- the cell at a place; those that are not handed out are unset
abbrev pub cell_at : List Cell → ℕ → Cell
cell_at cells at = slice_index_or cells at unset_cell

-- ---- what is seen of a cell

-- a cell behind one of this form: a logical variable's content shows as unset
abbrev pub behind : Form → Cell → Cell
behind form.Lvar c = unset_cell
behind _ c = c

abbrev pub form_before : List Cell → ℕ → Form
form_before cells zero = form.Other
form_before cells (suc at) = form_of (cell_at cells at)

unfoldable pub look : List Cell → ℕ → Cell
look cells at = behind (form_before cells at) (cell_at cells at)

-- so many cells from a place on
abbrev pub looks : List Cell → ℕ → ℕ → List Cell
looks cells at zero = []
looks cells at (suc n) = look cells at ∷ looks cells (suc at) n

-- ---- the value of a block

-- all of them, if each is there
abbrev pub each_of : {A : Type 0} → (Cell → Option A) → List Cell → Option (List A)
each_of read [] = Some []
each_of read (c ∷ cs) = option_and_then (λ x. option_map (λ xs. x ∷ xs) (each_of read cs)) (read c)

abbrev pub word_in : Form → Option ℤ
word_in (form.Int i) = Some i
word_in _ = None

abbrev pub word_of : Cell → Option ℤ
word_of c = word_in (form_of c)

-- the place of an address in a list of addresses
abbrev pub place_of : ℕ → List ℕ → Option ℕ
place_of at [] = None
place_of at (name ∷ names) = if name == at then Some 0 else option_map suc (place_of at names)

-- how many cells follow a head
abbrev pub parts_of : Form → ℕ
parts_of (form.Text n) = words_for n
parts_of (form.ConBlock constructor n) = n
parts_of (form.Tuple n) = n
parts_of form.ConsBlock = 2
parts_of form.Lvar = 1
parts_of (form.Vector n) = n
parts_of _ = 0

-- the value of a block with this head and these parts, by what each part stands for. A logical variable is the place of its
-- address among the names
abbrev pub block_value : (Cell → Option Value) → List ℕ → ℕ → Form → List Cell → Option Value
block_value read names at (form.Text n) parts = option_map value.Text (option_and_then (text_of n) (each_of word_of parts))
block_value read names at (form.ConBlock constructor n) parts = option_map (value.Con constructor) (each_of read parts)
block_value read names at (form.Tuple n) parts = option_map value.Tuple (each_of read parts)
block_value read names at form.ConsBlock parts = option_map (value.Con CONS) (each_of read parts)
block_value read names at form.Lvar parts = option_map value.Cell (place_of at names)
block_value read names at (form.Vector n) parts = option_map value.Vector (each_of read parts)
block_value read names at _ parts = None

-- a block that ends below the top
abbrev pub read_block : (Cell → Option Value) → List Cell → List ℕ → ℕ → ℕ → Form → Option Value
read_block read cells names top at head = if nat_le (suc (at + parts_of head)) top then block_value read names at head (looks cells (suc at) (parts_of head)) else None

-- ---- the value of a cell

-- the parts of a block end below the block
abbrev pub read_form : (ℕ → Cell → Option Value) → List Cell → List ℕ → ℕ → Form → Option Value
read_form read cells names top (form.Int i) = Some (value.Int i)
read_form read cells names top (form.Char c) = Some (value.Char c)
read_form read cells names top (form.Rel relation) = Some (value.Rel relation)
read_form read cells names top (form.Block at) = read_block (read at) cells names top at (form_of (look cells at))
read_form read cells names top (form.Con constructor) = Some (value.Con constructor [])
read_form read cells names top _ = None

-- the value of a cell, if its blocks nest at most so deep and end below the top; the names are the addresses of the logical
-- variables, in the order of their numbers
unfoldable pub value_below : ℕ → List Cell → List ℕ → ℕ → Cell → Option Value
value_below zero cells names top c = None
value_below (suc depth) cells names top c = read_form (value_below depth cells names) cells names top (form_of c)

-- a cell stands for a value, below a top
abbrev pub Stands : List Cell → List ℕ → ℕ → Cell → Value → Type 0
Stands cells names top c v = (depth : ℕ) × (value_below depth cells names top c ≡ Some v)

-- cells stand for values, one for one
abbrev pub AllStand : List Cell → List ℕ → ℕ → List Cell → List Value → Type 0
AllStand cells names top [] [] = Unit {0}
AllStand cells names top [] (v ∷ vs) = ⊥
AllStand cells names top (c ∷ cs) [] = ⊥
AllStand cells names top (c ∷ cs) (v ∷ vs) = Stands cells names top c v × AllStand cells names top cs vs
