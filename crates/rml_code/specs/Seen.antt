-- What a `switch` sees of a cell, and when a case has its tag.
use Rattle.std.specs.Prelude.{ℕ, suc, Bool, true, false, ◌==◌, ℤ, List, Option, Some, None, option_map, option_and_then}
use Rattle.std.specs.Str.{bytes_eq}
use Rattle.std.specs.Ordering.{int_eq}
use Rattle.rml_value.specs.declared.value.TheConstants.{CONS}
use Rattle.rml_heap.specs.declared.cell.Cell.{Cell}
use Rattle.rml_heap.specs.Form as form
use Rattle.rml_heap.specs.Form.{Form, form_of}
use Rattle.rml_heap.specs.Text.{words_for, text_of}
use Rattle.rml_heap.specs.Reading.{cell_at, looks, each_of, word_of}
use Rattle.rml_code.specs.declared.instructions.Tag.{Tag}
use Rattle.rml_code.specs.declared.instructions.Tag.TheVariants as tag
use Rattle.rml_code.specs.declared.state.State.{State}
use Rattle.rml_code.specs.Frames.{constant}

-- an integer, a character, a constructor or a text
pub data Seen : Type 0 where
  Int : ℤ → Seen
  Char : ℕ → Seen
  Con : ℕ → Seen
  Text : List ℕ → Seen

abbrev pub text_at : List Cell → ℕ → ℕ → Option (List ℕ)
text_at cells at n = option_and_then (text_of n) (each_of word_of (looks cells (suc at) (words_for n)))

-- of a block with this head
abbrev pub seen_at : List Cell → ℕ → Form → Option Seen
seen_at cells at (form.Text n) = option_map Text (text_at cells at n)
seen_at cells at (form.ConBlock constructor n) = Some (Con constructor)
seen_at cells at form.ConsBlock = Some (Con CONS)
seen_at cells at _ = None

abbrev pub seen_as : List Cell → Form → Option Seen
seen_as cells (form.Int i) = Some (Int i)
seen_as cells (form.Char c) = Some (Char c)
seen_as cells (form.Con constructor) = Some (Con constructor)
seen_as cells (form.Block at) = seen_at cells at (form_of (cell_at cells at))
seen_as cells _ = None

abbrev pub seen_in : List Cell → Cell → Option Seen
seen_in cells c = seen_as cells (form_of c)

-- a constant that a tag names is a text
abbrev pub only_text : Option Seen → Option Seen
only_text (Some (Text t)) = Some (Text t)
only_text _ = None

-- what a tag asks for; a text is a constant
abbrev pub asked : State → Tag → Option Seen
asked s (tag.Int i) = Some (Int i)
asked s (tag.Char c) = Some (Char c)
asked s (tag.Con constructor) = Some (Con constructor)
asked s (tag.Text i) = only_text (seen_in s.heap.values (constant s i))

-- the same, and of the same kind
abbrev pub is_same : Seen → Option Seen → Bool
is_same (Int i) (Some (Int j)) = int_eq i j
is_same (Char c) (Some (Char d)) = c == d
is_same (Con c) (Some (Con d)) = c == d
is_same (Text t) (Some (Text u)) = bytes_eq t u
is_same _ _ = false

abbrev pub is_alike : Seen → Option Seen → Bool
is_alike (Int i) (Some (Int j)) = true
is_alike (Char c) (Some (Char d)) = true
is_alike (Con c) (Some (Con d)) = true
is_alike (Text t) (Some (Text u)) = true
is_alike _ _ = false
