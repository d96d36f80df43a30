-- A text and a `::` that are placed at the end of the cells, and what their cells stand for.
use Rattle.std.proofs.Common.{◌≡◌, ◌≢◌, ℕ, suc, ◌+◌, List, [], ◌∷◌, ◌++◌, Option, Some, map, length, refl, sym, ap, ◌∙◌, arith}
use Rattle.std.specs.Prelude.{ℤ}
use Rattle.std.specs.List.{AllByRecursion}
use Rattle.std.specs.Option.{option_map, option_and_then}
use Rattle.std.proofs.lemmas.List.{length-map}
use Rattle.rml_value.specs.declared.value.Value.{Value}
use Rattle.rml_value.specs.declared.value.Value.TheVariants as value
use Rattle.rml_value.specs.declared.value.TheConstants.{CONS}
use Rattle.rml_heap.specs.declared.cell.Cell.{Cell}
use Rattle.rml_heap.specs.Form as form
use Rattle.rml_heap.specs.Form.{Form, form_of}
use Rattle.rml_heap.specs.Text.{words_for, packed, text_of, text_cells, word_cell}
use Rattle.rml_heap.specs.Reading.{form_before, each_of, word_in, word_of, parts_of, block_value, value_below, Stands}
use Rattle.rml_heap.proofs.Callers.{EachByte, added-block, added-stands, all-no_lvar, before-end, each-cons, length-packed, text-read}
use Rattle.rml_prims.specs.Shapes.{block_cell, cons_head, text_head}

-- ---- words

word-form : (i : ℤ) → form_of (word_cell i) ≡ form.Int i
unfolding form.form
word-form i = refl

words-read : (is : List ℤ) → each_of word_of (map word_cell is) ≡ Some is
words-read [] = refl
words-read (i ∷ is) = each-cons word_of (word_cell i) (map word_cell is) i is (ap word_in (word-form i)) (words-read is)

words-no_lvar : (is : List ℤ) → AllByRecursion (λ c. form_of c ≢ form.Lvar) (map word_cell is)
words-no_lvar [] = tt
words-no_lvar (i ∷ is) = (λ e. let f : form.Int i ≡ form.Lvar = sym (word-form i) ∙ e in cc, words-no_lvar is)

-- ---- a text

pub text-form : (n : ℕ) → form_of (text_head n) ≡ form.Text n
unfolding form.form
text-form n = refl

text-no_lvar : (n : ℕ) → form_of (text_head n) ≢ form.Lvar
text-no_lvar n e = let f : form.Text n ≡ form.Lvar = sym (text-form n) ∙ e in cc

pub text-stands : (cells : List Cell) (names bytes : List ℕ) → form_before cells (length cells) ≢ form.Lvar → EachByte bytes
    → Stands (cells ++ text_cells bytes) names (length (cells ++ text_cells bytes)) (block_cell (length cells)) (value.Text bytes)
text-stands cells names bytes clear each =
    let n : ℕ = length bytes in
    let words : List ℤ = packed (words_for n) bytes in
    let head : Cell = text_head n in
    let parts : List Cell = map word_cell words in
    let count : parts_of (form_of head) ≡ length parts = ap parts_of (text-form n) ∙ sym (length-map words word_cell ∙ length-packed (words_for n) bytes) in
    let read : (r : Cell → Option Value) → block_value r names (length cells) (form_of head) parts ≡ Some (value.Text bytes) =
    λ r. ap (λ f. block_value r names (length cells) f parts) (text-form n)
    ∙ ap (λ o. option_map value.Text (option_and_then (text_of n) o)) (words-read words) ∙ ap (option_map value.Text) (text-read bytes each)
    in
    added-stands cells names head parts (value.Text bytes) 0 clear (text-no_lvar n) (words-no_lvar words) count (read (value_below 0 (cells ++ head ∷ parts) names (length cells)))

pub text-last : (cells : List Cell) (bytes : List ℕ) → form_before (cells ++ text_cells bytes) (length (cells ++ text_cells bytes)) ≢ form.Lvar
text-last cells bytes = before-end cells (text_head (length bytes)) (map word_cell (packed (words_for (length bytes)) bytes)) (text-no_lvar (length bytes)) (words-no_lvar (packed (words_for (length bytes)) bytes))

pub length-text : (bytes : List ℕ) → length (text_cells bytes) ≡ 1 + words_for (length bytes)
length-text bytes =
    let words : List ℤ = packed (words_for (length bytes)) bytes in
    let long : length (map word_cell words) ≡ words_for (length bytes) = length-map words word_cell ∙ length-packed (words_for (length bytes)) bytes in
    let next : suc (length (map word_cell words)) ≡ 1 + length (map word_cell words) = omega arith in
    next ∙ ap (λ n. 1 + n) long

-- ---- a `::`

pub cons-form : form_of cons_head ≡ form.ConsBlock
unfolding form.form
cons-form = refl

cons-no_lvar : form_of cons_head ≢ form.Lvar
cons-no_lvar e = let f : form.ConsBlock ≡ form.Lvar = sym cons-form ∙ e in cc

pub cons-stands : (cells : List Cell) (names : List ℕ) (head tail : Cell) (v w : Value) → form_before cells (length cells) ≢ form.Lvar → Stands cells names (length cells) head v → Stands cells names (length cells) tail w
    → Stands (cells ++ cons_head ∷ head ∷ tail ∷ []) names (length (cells ++ cons_head ∷ head ∷ tail ∷ [])) (block_cell (length cells)) (value.Con CONS (v ∷ w ∷ []))
cons-stands cells names head tail v w clear h k =
    added-block cells names cons_head (head ∷ tail ∷ []) (v ∷ w ∷ []) (value.Con CONS (v ∷ w ∷ [])) clear cons-no_lvar (ap parts_of cons-form) (h, (k, tt))
    (λ read each. ap (λ f. block_value read names (length cells) f (head ∷ tail ∷ [])) cons-form ∙ ap (option_map (value.Con CONS)) each)

pub cons-last : (cells : List Cell) (names : List ℕ) (head tail : Cell) (v w : Value) → Stands cells names (length cells) head v → Stands cells names (length cells) tail w
    → form_before (cells ++ cons_head ∷ head ∷ tail ∷ []) (length (cells ++ cons_head ∷ head ∷ tail ∷ [])) ≢ form.Lvar
cons-last cells names head tail v w h k = before-end cells cons_head (head ∷ tail ∷ []) cons-no_lvar (all-no_lvar cells names (length cells) (head ∷ tail ∷ []) (v ∷ w ∷ []) (h, (k, tt)))
