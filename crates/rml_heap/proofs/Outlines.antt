-- What a value tells of the cell that stands for it: the form at its root.
use Rattle.std.proofs.Common.{◌≡◌, ℕ, zero, suc, ◌*◌, ◌<◌, ◌≤◌, Bool, true, false, ◌&&◌, List, [], ◌∷◌, Option, Some, None, length, take, refl, sym, ap, ◌∙◌, arith, length-append}
use Rattle.std.specs.Prelude.{ℤ, if◌then◌else◌}
use Rattle.std.specs.Ordering.{int_eq}
use Rattle.std.proofs.lemmas.Bool.Decides.{Decides-int_eq}
use Rattle.std.specs.List.{flat_map}
use Rattle.std.specs.Option.{option_map, option_and_then}
use Rattle.std.proofs.lemmas.List.{length-take-le}
use Rattle.rml_value.specs.declared.value.Value.{Value, out-Value}
use Rattle.rml_value.specs.declared.value.Value.TheOpen.{Value-F}
use Rattle.rml_value.specs.declared.value.Value.TheVariants as value
use Rattle.rml_value.specs.declared.value.Value.TheVariants.{outs-Int, outs-Char, outs-Text, outs-Con, outs-Tuple, outs-Rel, outs-Cell, outs-Vector}
use Rattle.rml_value.specs.declared.value.TheConstants.{CONS}
use Rattle.rml_heap.specs.declared.cell.Cell.{Cell}
use Rattle.rml_heap.specs.Form as form
use Rattle.rml_heap.specs.Form.{Form, form_of}
use Rattle.rml_heap.specs.Text.{words_for, bytes_of_word, packed, same_words, text_of}
use Rattle.rml_heap.specs.Reading.{look, looks, each_of, word_of, place_of, parts_of, block_value, read_form, value_below}
use Rattle.rml_heap.proofs.Readings.{block-fits}
use Rattle.rml_heap.proofs.Forms.{con_outline, IsForm, has-form}

-- ---- what an option that is there was made of

pub map-some : {A B : Type 0} (f : A → B) (o : Option A) (v : B) → option_map f o ≡ Some v → (a : A) × (o ≡ Some a) × (v ≡ f a)
map-some f None v h = absurd (cc)
map-some f (Some a) v h = (a, refl, cc)

pub then-some : {A B : Type 0} (f : A → Option B) (o : Option A) (v : B) → option_and_then f o ≡ Some v → (a : A) × (o ≡ Some a) × (f a ≡ Some v)
then-some f None v h = absurd (cc)
then-some f (Some a) v h = (a, refl, h)

pub length-each_of : {A : Type 0} (read : Cell → Option A) (cs : List Cell) (vs : List A) → each_of read cs ≡ Some vs → length vs ≡ length cs
length-each_of {A} read [] vs h = let nil : List A = [] in let e : nil ≡ vs = cc in ap length (sym e)
length-each_of {A} read (c ∷ cs) vs h =
    let first = then-some (λ x. option_map (λ xs. x ∷ xs) (each_of read cs)) (read c) vs h in
    let rest = map-some (λ xs. first.0 ∷ xs) (each_of read cs) vs first.2 in
    ap length rest.2 ∙ ap suc (length-each_of read cs rest.0 rest.1)

pub length-looks : (cells : List Cell) (n at : ℕ) → length (looks cells at n) ≡ n
length-looks cells zero at = refl
length-looks cells (suc n) at = ap suc (length-looks cells n (suc at))

-- ---- texts

length-word : (i : ℤ) → length (bytes_of_word i) ≡ 8
unfolding bytes_of_word
length-word i = refl

length-words : (is : List ℤ) → length (flat_map bytes_of_word is) ≡ 8 * length is
length-words [] = refl
length-words (i ∷ is) =
    let one = length-append (bytes_of_word i) (flat_map bytes_of_word is) in
    let first = length-word i in
    let rest = length-words is in
    omega (arith, one, first, rest)

pub and-both : (a b : Bool) → (a && b) ≡ true → (a ≡ true) × (b ≡ true)
and-both true b h = (refl, h)
and-both false b h = absurd (cc)

pub same-words : (is js : List ℤ) → same_words is js ≡ true → is ≡ js
same-words [] [] h = refl
same-words [] (j ∷ js) h = absurd (cc)
same-words (i ∷ is) [] h = absurd (cc)
same-words (i ∷ is) (j ∷ js) h =
    let both = and-both (int_eq i j) (same_words is js) h in
    let first : i ≡ j = (Decides-int_eq i j).0 both.0 in
    ap (λ (k : ℤ). k ∷ is) first ∙ ap (λ (ks : List ℤ). j ∷ ks) (same-words is js both.1)

-- the words of a text are those in which it is packed, and it has as many bytes as was said
pub text-packed : (n : ℕ) (words : List ℤ) (bytes : List ℕ) → text_of n words ≡ Some bytes → (packed (words_for n) bytes ≡ words) × (length words ≡ words_for n → length bytes ≡ n)
unfolding text_of
text-packed n words bytes h =
    let all : List ℕ = take n (flat_map bytes_of_word words) in
    let is = chosen (same_words (packed (words_for n) all) words) all bytes h in
    let packed_is : packed (words_for n) bytes ≡ words = ap (packed (words_for n)) is.1 ∙ same-words (packed (words_for n) all) words is.0 in (
      packed_is,
      λ long.
          let enough : n ≤ length (flat_map bytes_of_word words) = omega (arith, length-words words, long) in
          ap length is.1 ∙ length-take-le n (flat_map bytes_of_word words) enough,
    )
  where
    chosen : (b : Bool) (x y : List ℕ) → (if b then Some x else None) ≡ Some y → (b ≡ true) × (y ≡ x)
    chosen true x y h = (refl, cc)
    chosen false x y h = absurd (cc)

-- ---- the root

abbrev pub outline_of : Value-F Value → Form
outline_of (Value-F.Int i) = form.Int i
outline_of (Value-F.Char c) = form.Char c
outline_of (Value-F.Text bytes) = form.Text (length bytes)
outline_of (Value-F.Con c []) = form.Con c
outline_of (Value-F.Con c (v ∷ vs)) = con_outline c (suc (length vs))
outline_of (Value-F.Tuple vs) = form.Tuple (length vs)
outline_of (Value-F.Rel r) = form.Rel r
outline_of (Value-F.Cell k) = form.Lvar
outline_of (Value-F.Vector vs) = form.Vector (length vs)

abbrev pub outline : Value → Form
outline v = outline_of (out-Value v)

outline-con : (c : ℕ) (vs : List Value) → 0 < length vs → outline_of (Value-F.Con c vs) ≡ con_outline c (length vs)
outline-con c [] some = absurd (omega (arith, some))
outline-con c (v ∷ vs) some = refl

abbrev pub root : List Cell → Form → Form
root cells (form.Block at) = form_of (look cells at)
root cells f = f

outline-block : (read : Cell → Option Value) (cells : List Cell) (names : List ℕ) (at : ℕ) (head : Form) (v : Value) → IsForm head
    → block_value read names at head (looks cells (suc at) (parts_of head)) ≡ Some v → outline v ≡ head
outline-block read cells names at (form.Text n) v is h =
    let text = map-some value.Text (option_and_then (text_of n) (each_of word_of (looks cells (suc at) (words_for n)))) v h in
    let words = then-some (text_of n) (each_of word_of (looks cells (suc at) (words_for n))) text.0 text.1 in
    let long : length words.0 ≡ words_for n = length-each_of word_of (looks cells (suc at) (words_for n)) words.0 words.1 ∙ length-looks cells (words_for n) (suc at) in
    ap outline text.2 ∙ ap outline_of (outs-Text text.0) ∙ ap form.Text ((text-packed n words.0 text.0 words.2).1 long)
outline-block read cells names at (form.ConBlock c n) v is h =
    let parts = map-some (value.Con c) (each_of read (looks cells (suc at) n)) v h in
    let long : length parts.0 ≡ n = length-each_of read (looks cells (suc at) n) parts.0 parts.1 ∙ length-looks cells n (suc at) in
    let some : 0 < length parts.0 = let w = is.0 in omega (arith, w, long) in
    ap outline parts.2 ∙ ap outline_of (outs-Con c parts.0) ∙ outline-con c parts.0 some ∙ ap (con_outline c) long ∙ is.1
outline-block read cells names at (form.Tuple n) v is h =
    let parts = map-some value.Tuple (each_of read (looks cells (suc at) n)) v h in
    let long : length parts.0 ≡ n = length-each_of read (looks cells (suc at) n) parts.0 parts.1 ∙ length-looks cells n (suc at) in
    ap outline parts.2 ∙ ap outline_of (outs-Tuple parts.0) ∙ ap form.Tuple long
outline-block read cells names at form.ConsBlock v is h =
    let parts = map-some (value.Con CONS) (each_of read (looks cells (suc at) 2)) v h in
    let long : length parts.0 ≡ 2 = length-each_of read (looks cells (suc at) 2) parts.0 parts.1 ∙ length-looks cells 2 (suc at) in
    let some : 0 < length parts.0 = omega (arith, long) in
    ap outline parts.2 ∙ ap outline_of (outs-Con CONS parts.0) ∙ outline-con CONS parts.0 some ∙ ap (con_outline CONS) long
outline-block read cells names at form.Lvar v is h =
    let place = map-some value.Cell (place_of at names) v h in
    ap outline place.2 ∙ ap outline_of (outs-Cell place.0)
outline-block read cells names at (form.Vector n) v is h =
    let parts = map-some value.Vector (each_of read (looks cells (suc at) n)) v h in
    let long : length parts.0 ≡ n = length-each_of read (looks cells (suc at) n) parts.0 parts.1 ∙ length-looks cells n (suc at) in
    ap outline parts.2 ∙ ap outline_of (outs-Vector parts.0) ∙ ap form.Vector long
outline-block read cells names at _ v is h = cc

some-is : {A : Type 0} (x v : A) → Some x ≡ Some v → v ≡ x
some-is x v h = cc

outline-form : (read : ℕ → Cell → Option Value) (cells : List Cell) (names : List ℕ) (top : ℕ) (f : Form) (v : Value) → read_form read cells names top f ≡ Some v → outline v ≡ root cells f
outline-form read cells names top (form.Int i) v h = ap outline (some-is (value.Int i) v h) ∙ ap outline_of (outs-Int i)
outline-form read cells names top (form.Char c) v h = ap outline (some-is (value.Char c) v h) ∙ ap outline_of (outs-Char c)
outline-form read cells names top (form.Rel r) v h = ap outline (some-is (value.Rel r) v h) ∙ ap outline_of (outs-Rel r)
outline-form read cells names top (form.Con c) v h = ap outline (some-is (value.Con c []) v h) ∙ ap outline_of (outs-Con c [])
outline-form read cells names top (form.Block at) v h =
    let was = block-fits (read at) cells names top at (form_of (look cells at)) v h in
    let head : Cell = look cells at in
    outline-block (read at) cells names at (form_of head) v (has-form head.kind head.number).is was.1
outline-form read cells names top _ v h = cc

-- the value of a cell has the form at the cell's root
pub outline-read : (depth : ℕ) (cells : List Cell) (names : List ℕ) (top : ℕ) (c : Cell) (v : Value) → value_below depth cells names top c ≡ Some v → outline v ≡ root cells (form_of c)
unfolding value_below
outline-read zero cells names top c v h = cc
outline-read (suc depth) cells names top c v h = outline-form (value_below depth cells names) cells names top (form_of c) v h
