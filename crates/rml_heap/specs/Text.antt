-- How a text is packed: eight bytes in a word, the first byte the lowest, and what is left of the last word is 0.
use Rattle.std.specs.Prelude.{ℕ, zero, suc, ◌+◌, ◌/◌, ℤ, Bool, true, false, ◌&&◌, if◌then◌else◌, List, [], ◌∷◌, Option, Some, None, pos, length, map, take, drop}
use Rattle.std.specs.List.{flat_map}
use Rattle.std.specs.Int.{w64, cast_signed, cast_unsigned, to_le_bytes, from_le_bytes}
use Rattle.std.specs.Ordering.{int_eq}
use Rattle.rml_heap.specs.declared.cell.Cell.{Cell}
use Rattle.rml_heap.specs.declared.cell.TheConstants.{INT, TEXT}

-- how many words so many bytes take
abbrev pub words_for : ℕ → ℕ
words_for n = (n + 7) / 8

-- the word of the first eight bytes, where those that are not there are 0; and the bytes of a word
unfoldable pub word_of_bytes : List ℕ → ℤ
word_of_bytes bytes = cast_signed w64 (from_le_bytes w64 bytes)

unfoldable pub bytes_of_word : ℤ → List ℕ
bytes_of_word i = to_le_bytes w64 (cast_unsigned w64 i)

-- bytes in so many words
abbrev pub packed : ℕ → List ℕ → List ℤ
packed zero bytes = []
packed (suc n) bytes = word_of_bytes bytes ∷ packed n (drop 8 bytes)

abbrev pub same_words : List ℤ → List ℤ → Bool
same_words [] [] = true
same_words (i ∷ is) (j ∷ js) = int_eq i j && same_words is js
same_words _ _ = false

-- the text of n bytes that these words hold, if they are the words in which it is packed
unfoldable pub text_of : ℕ → List ℤ → Option (List ℕ)
text_of n words = let bytes = take n (flat_map bytes_of_word words) in if same_words (packed (words_for n) bytes) words then Some bytes else None

-- the cells of a text: its head, and its words
abbrev pub word_cell : ℤ → Cell
word_cell i = record { kind = INT; number = i }

abbrev pub text_cells : List ℕ → List Cell
text_cells bytes = record { kind = TEXT; number = pos (length bytes) } ∷ map word_cell (packed (words_for (length bytes)) bytes)
