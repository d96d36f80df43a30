-- When the values of two cells are equal: by the cells, by the heads of their blocks, or by the parts of these.
use Rattle.std.proofs.Common.{◌≡◌, ◌≢◌, ℕ, zero, suc, ◌+◌, ◌≤◌, ◌↔◌, List, [], ◌∷◌, Option, Some, map, refl, sym, ap, subst, ◌∙◌, arith}
use Rattle.std.specs.Prelude.{ℤ}
use Rattle.std.specs.Option.{option_map, option_and_then}
use Rattle.rml_value.specs.declared.value.Value.{Value, out-Value}
use Rattle.rml_value.specs.declared.value.Value.TheOpen.{Value-F}
use Rattle.rml_value.specs.declared.value.Value.TheVariants as value
use Rattle.rml_value.specs.declared.value.Value.TheVariants.{outs-Int, outs-Text, outs-Con, outs-Tuple, outs-Cell, outs-Vector}
use Rattle.rml_value.specs.declared.value.TheConstants.{CONS}
use Rattle.rml_heap.specs.declared.cell.Cell.{Cell}
use Rattle.rml_heap.specs.Form as form
use Rattle.rml_heap.specs.Form.{Form, form_of}
use Rattle.rml_heap.specs.Text.{words_for, packed, text_of}
use Rattle.rml_heap.specs.Reading.{look, looks, each_of, word_in, word_of, place_of, parts_of, block_value, read_form, value_below, Stands, AllStand}
use Rattle.rml_heap.proofs.Readings.{block-fits, below-higher, one-reading}
use Rattle.rml_heap.proofs.Outlines.{map-some, then-some, text-packed, root, outline-read}

-- ---- parts of a block

-- each part that is read stands for its value
each-stand : (depth : ℕ) (cells : List Cell) (names : List ℕ) (top : ℕ) (cs : List Cell) (vs : List Value) → each_of (value_below depth cells names top) cs ≡ Some vs → AllStand cells names top cs vs
each-stand depth cells names top [] [] h = tt
each-stand depth cells names top [] (v ∷ vs) h = absurd (cc)
each-stand depth cells names top (c ∷ cs) vs h =
    let read : Cell → Option Value = value_below depth cells names top in
    let first = then-some (λ x. option_map (λ xs. x ∷ xs) (each_of read cs)) (read c) vs h in
    let rest = map-some (λ xs. first.0 ∷ xs) (each_of read cs) vs first.2 in
    let P : List Value → Type 0 = λ ws. AllStand cells names top (c ∷ cs) ws in
    subst P (sym rest.2) ((depth, first.1), each-stand depth cells names top cs rest.0 rest.1)

word-stands : (cells : List Cell) (names : List ℕ) (top : ℕ) (f : Form) (read : ℕ → Cell → Option Value) (i : ℤ) → word_in f ≡ Some i → read_form read cells names top f ≡ Some (value.Int i)
word-stands cells names top (form.Int j) read i h = ap (option_map value.Int) h
word-stands cells names top _ read i h = cc

-- each word stands for an integer
words-stand : (cells : List Cell) (names : List ℕ) (top : ℕ) (cs : List Cell) (is : List ℤ) → each_of word_of cs ≡ Some is → AllStand cells names top cs (map value.Int is)
unfolding value_below
words-stand cells names top [] [] h = tt
words-stand cells names top [] (i ∷ is) h = absurd (cc)
words-stand cells names top (c ∷ cs) is h =
    let first = then-some (λ x. option_map (λ xs. x ∷ xs) (each_of word_of cs)) (word_of c) is h in
    let rest = map-some (λ xs. first.0 ∷ xs) (each_of word_of cs) is first.2 in
    let P : List ℤ → Type 0 = λ ws. AllStand cells names top (c ∷ cs) (map value.Int ws) in
    subst P (sym rest.2) ((1, word-stands cells names top (form_of c) (value_below 0 cells names) first.0 first.1), words-stand cells names top cs rest.0 rest.1)

-- a value is made of its parts by its head
abbrev pub IsMade : Form → List Value → Value → Type 0
IsMade (form.Text n) vs v = (is : List ℤ) × (bytes : List ℕ) × (vs ≡ map value.Int is) × (text_of n is ≡ Some bytes) × (v ≡ value.Text bytes)
IsMade (form.ConBlock c n) vs v = v ≡ value.Con c vs
IsMade (form.Tuple n) vs v = v ≡ value.Tuple vs
IsMade form.ConsBlock vs v = v ≡ value.Con CONS vs
IsMade (form.Vector n) vs v = v ≡ value.Vector vs
IsMade _ vs v = ⊥

pub block-made : (depth : ℕ) (cells : List Cell) (names : List ℕ) (at : ℕ) (head : Form) (v : Value) → head ≢ form.Lvar
    → block_value (value_below depth cells names at) names at head (looks cells (suc at) (parts_of head)) ≡ Some v
    → (vs : List Value) × AllStand cells names at (looks cells (suc at) (parts_of head)) vs × IsMade head vs v
block-made depth cells names at (form.Text n) v other h =
    let parts : List Cell = looks cells (suc at) (words_for n) in
    let text = map-some value.Text (option_and_then (text_of n) (each_of word_of parts)) v h in
    let words = then-some (text_of n) (each_of word_of parts) text.0 text.1 in
    (map value.Int words.0, words-stand cells names at parts words.0 words.1, (words.0, text.0, refl, words.2, text.2))
block-made depth cells names at (form.ConBlock c n) v other h =
    let parts = map-some (value.Con c) (each_of (value_below depth cells names at) (looks cells (suc at) n)) v h in
    (parts.0, each-stand depth cells names at (looks cells (suc at) n) parts.0 parts.1, parts.2)
block-made depth cells names at (form.Tuple n) v other h =
    let parts = map-some value.Tuple (each_of (value_below depth cells names at) (looks cells (suc at) n)) v h in
    (parts.0, each-stand depth cells names at (looks cells (suc at) n) parts.0 parts.1, parts.2)
block-made depth cells names at form.ConsBlock v other h =
    let parts = map-some (value.Con CONS) (each_of (value_below depth cells names at) (looks cells (suc at) 2)) v h in
    (parts.0, each-stand depth cells names at (looks cells (suc at) 2) parts.0 parts.1, parts.2)
block-made depth cells names at (form.Vector n) v other h =
    let parts = map-some value.Vector (each_of (value_below depth cells names at) (looks cells (suc at) n)) v h in
    (parts.0, each-stand depth cells names at (looks cells (suc at) n) parts.0 parts.1, parts.2)
block-made depth cells names at form.Lvar v other h = absurd (other refl)
block-made depth cells names at _ v other h = absurd (cc)

ints-same : (is js : List ℤ) → map value.Int is ≡ map value.Int js → is ≡ js
ints-same [] [] h = refl
ints-same [] (j ∷ js) h = absurd (cc)
ints-same (i ∷ is) [] h = absurd (cc)
ints-same (i ∷ is) (j ∷ js) h =
    let first : value.Int i ≡ value.Int j = cc in
    let rest : map value.Int is ≡ map value.Int js = cc in
    let outs : Value-F.Int i ≡ Value-F.Int j = sym (outs-Int i) ∙ ap out-Value first ∙ outs-Int j in
    let same : i ≡ j = cc in
    ap (λ (k : ℤ). k ∷ is) same ∙ ap (λ (ks : List ℤ). j ∷ ks) (ints-same is js rest)

-- two values with the same head are equal where their parts are
made-same : (head : Form) (vs ws : List Value) (v w : Value) → IsMade head vs v → IsMade head ws w → (v ≡ w) ↔ (vs ≡ ws)
made-same (form.Text n) vs ws v w p q = (
  λ same.
      let texts : value.Text p.1 ≡ value.Text q.1 = sym p.4 ∙ same ∙ q.4 in
      let outs : Value-F.Text p.1 ≡ Value-F.Text q.1 = sym (outs-Text p.1) ∙ ap out-Value texts ∙ outs-Text q.1 in
      let bytes : p.1 ≡ q.1 = cc in
      let words : p.0 ≡ q.0 = sym (text-packed n p.0 p.1 p.3).0 ∙ ap (packed (words_for n)) bytes ∙ (text-packed n q.0 q.1 q.3).0 in
      p.2 ∙ ap (map value.Int) words ∙ sym q.2,
  λ same.
      let words : p.0 ≡ q.0 = ints-same p.0 q.0 (sym p.2 ∙ same ∙ q.2) in
      let bytes : Some p.1 ≡ Some q.1 = sym p.3 ∙ ap (text_of n) words ∙ q.3 in
      let is : p.1 ≡ q.1 = cc in
      p.4 ∙ ap value.Text is ∙ sym q.4,
)
made-same (form.ConBlock c n) vs ws v w p q = (
  λ same.
      let outs : Value-F.Con c vs ≡ Value-F.Con c ws = sym (outs-Con c vs) ∙ ap out-Value (sym p ∙ same ∙ q) ∙ outs-Con c ws in
      let is : vs ≡ ws = cc in is,
  λ same. p ∙ ap (value.Con c) same ∙ sym q,
)
made-same (form.Tuple n) vs ws v w p q = (
  λ same.
      let outs : Value-F.Tuple vs ≡ Value-F.Tuple ws = sym (outs-Tuple vs) ∙ ap out-Value (sym p ∙ same ∙ q) ∙ outs-Tuple ws in
      let is : vs ≡ ws = cc in is,
  λ same. p ∙ ap value.Tuple same ∙ sym q,
)
made-same form.ConsBlock vs ws v w p q = (
  λ same.
      let outs : Value-F.Con CONS vs ≡ Value-F.Con CONS ws = sym (outs-Con CONS vs) ∙ ap out-Value (sym p ∙ same ∙ q) ∙ outs-Con CONS ws in
      let is : vs ≡ ws = cc in is,
  λ same. p ∙ ap (value.Con CONS) same ∙ sym q,
)
made-same (form.Vector n) vs ws v w p q = (
  λ same.
      let outs : Value-F.Vector vs ≡ Value-F.Vector ws = sym (outs-Vector vs) ∙ ap out-Value (sym p ∙ same ∙ q) ∙ outs-Vector ws in
      let is : vs ≡ ws = cc in is,
  λ same. p ∙ ap value.Vector same ∙ sym q,
)
made-same _ vs ws v w p q = absurd p

-- ---- a cell of the form of a block

-- what a block that is read tells
pub record BlockStands (cells : List Cell) (names : List ℕ) (top at : ℕ) (v : Value) : Type 0 where
  pub depth : ℕ
  pub fits : suc (at + parts_of (form_of (look cells at))) ≤ top
  pub value : block_value (value_below depth cells names at) names at (form_of (look cells at)) (looks cells (suc at) (parts_of (form_of (look cells at)))) ≡ Some v

pub block-stands : (cells : List Cell) (names : List ℕ) (top at : ℕ) (c : Cell) (v : Value) → form_of c ≡ form.Block at → Stands cells names top c v → BlockStands cells names top at v
unfolding value_below
block-stands cells names top at c v is (zero, h) = absurd (cc)
block-stands cells names top at c v is (suc depth, h) =
    let P : Form → Type 0 = λ f. read_form (value_below depth cells names) cells names top f ≡ Some v in
    let was = block-fits (value_below depth cells names at) cells names top at (form_of (look cells at)) v (subst P is h) in
    record { depth = depth; fits = was.0; value = was.1 }

-- the same value has the same form at the root
pub same-root : (cells : List Cell) (names : List ℕ) (top top' : ℕ) (c d : Cell) (v : Value) → Stands cells names top c v → Stands cells names top' d v → root cells (form_of c) ≡ root cells (form_of d)
same-root cells names top top' c d v h k = sym (outline-read h.0 cells names top c v h.1) ∙ outline-read k.0 cells names top' d v k.1

-- one value whatever the top
pub same-value : (cells : List Cell) (names : List ℕ) (top top' : ℕ) (c : Cell) (v w : Value) → Stands cells names top c v → Stands cells names top' c w → v ≡ w
same-value cells names top top' c v w h k =
    let low : top ≤ top + top' = omega arith in
    let low' : top' ≤ top + top' = omega arith in
    one-reading h.0 k.0 cells names (top + top') c v w (below-higher h.0 cells names top (top + top') c v low h.1) (below-higher k.0 cells names top' (top + top') c w low' k.1)

-- a logical variable is its address
pub lvar-stands : (cells : List Cell) (names : List ℕ) (top at : ℕ) (v : Value) → form_of (look cells at) ≡ form.Lvar → BlockStands cells names top at v → (k : ℕ) × (place_of at names ≡ Some k) × (v ≡ value.Cell k)
lvar-stands cells names top at v is h =
    let P : Form → Type 0 = λ f. block_value (value_below h.depth cells names at) names at f (looks cells (suc at) (parts_of f)) ≡ Some v in
    map-some value.Cell (place_of at names) v (subst P is h.value)

-- blocks with the same head that is no logical variable's are equal where their parts are
pub blocks-same : (cells : List Cell) (names : List ℕ) (top top' at at' : ℕ) (v w : Value)
    → form_of (look cells at) ≡ form_of (look cells at') → form_of (look cells at) ≢ form.Lvar
    → BlockStands cells names top at v → BlockStands cells names top' at' w
    → (vs ws : List Value) × AllStand cells names at (looks cells (suc at) (parts_of (form_of (look cells at)))) vs × AllStand cells names at' (looks cells (suc at') (parts_of (form_of (look cells at)))) ws × ((v ≡ w) ↔ (vs ≡ ws))
blocks-same cells names top top' at at' v w same other h k =
    let f : Form = form_of (look cells at) in
    let P : Form → Type 0 = λ g. block_value (value_below k.depth cells names at') names at' g (looks cells (suc at') (parts_of g)) ≡ Some w in
    let p = block-made h.depth cells names at f v other h.value in
    let q = block-made k.depth cells names at' f w other (subst P (sym same) k.value) in
    (p.0, q.0, p.1, q.1, made-same f p.0 q.0 v w p.2 q.2)
