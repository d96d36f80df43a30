-- A cell stands for the same value whatever happens above a place, at a greater depth and below a higher top.
use Rattle.std.proofs.Common.{◌≡◌, ℕ, zero, suc, ◌+◌, ◌-◌, ◌<◌, ◌≤◌, List, ◌∷◌, Option, Some, None, refl, ap, sym, ◌∙◌, subst, arith, ◌⊎◌, inl, inr}
use Rattle.std.specs.Option.{option_map, option_and_then}
use Rattle.std.proofs.lemmas.Bool.Decides.{leb_tells}
use Rattle.rml_value.specs.declared.value.Value.{Value}
use Rattle.rml_heap.specs.declared.cell.Cell.{Cell}
use Rattle.rml_heap.specs.HeapState.{unset_cell}
use Rattle.rml_heap.specs.Form as form
use Rattle.rml_heap.specs.Form.{Form, form_of}
use Rattle.rml_heap.specs.Text.{text_of}
use Rattle.rml_heap.specs.Reading.{look, looks, each_of, word_of, place_of, parts_of, block_value, read_block, read_form, value_below}
use Rattle.rml_heap.specs.Agrees.{Agrees}

-- what one reader finds, another finds too
abbrev Finds : {A : Type 0} → (Cell → Option A) → (Cell → Option A) → Type 0
Finds {A} read read' = (c : Cell) (v : A) → read c ≡ Some v → read' c ≡ Some v

pub map-keeps : {A B : Type 0} (f : A → B) (x y : Option A) (v : B) → ((a : A) → x ≡ Some a → y ≡ Some a) → option_map f x ≡ Some v → option_map f y ≡ Some v
map-keeps f None y v keeps h = cc
map-keeps f (Some a) y v keeps h = rw (keeps a refl) h

pub then-keeps : {A B : Type 0} (f g : A → Option B) (x y : Option A) (v : B) → ((a : A) → x ≡ Some a → y ≡ Some a) → ((a : A) (w : B) → f a ≡ Some w → g a ≡ Some w) → option_and_then f x ≡ Some v → option_and_then g y ≡ Some v
then-keeps f g None y v keeps found h = cc
then-keeps f g (Some a) y v keeps found h = rw (keeps a refl) (found a v h)

pub unset-form : form_of unset_cell ≡ form.Unset
unfolding form.form
unset-form = refl

-- so many cells from a place on, all below the top
parts-agree : {A : Type 0} (read read' : Cell → Option A) (top : ℕ) (before after : List Cell)
    → Finds read read' → read unset_cell ≡ None
    → ((at : ℕ) → at < top → (look before at ≡ unset_cell) ⊎ (look after at ≡ look before at))
    → (n at : ℕ) (vs : List A) → at + n ≤ top → each_of read (looks before at n) ≡ Some vs → each_of read' (looks after at n) ≡ Some vs
parts-agree read read' top before after finds none agrees zero at vs short h = h
parts-agree {A} read read' top before after finds none agrees (suc n) at vs short h =
    let here : at < top = omega (arith, short) in
    let further : suc at + n ≤ top = omega (arith, short) in
    let one : (v : A) → read (look before at) ≡ Some v → read' (look after at) ≡ Some v =
    λ v found. elim (agrees at here) [
      | inl hidden ↦ let e : read (look before at) ≡ None = ap read hidden ∙ none in cc
      | inr same ↦ rw same (finds (look before at) v found)
    ]
    in
    let rest : (vs : List A) → each_of read (looks before (suc at) n) ≡ Some vs → each_of read' (looks after (suc at) n) ≡ Some vs =
    λ vs found. parts-agree read read' top before after finds none agrees n (suc at) vs further found
    in
    then-keeps (λ x. option_map (λ xs. x ∷ xs) (each_of read (looks before (suc at) n))) (λ x. option_map (λ xs. x ∷ xs) (each_of read' (looks after (suc at) n)))
    (read (look before at)) (read' (look after at)) vs one
    (λ x ws found. map-keeps (λ xs. x ∷ xs) (each_of read (looks before (suc at) n)) (each_of read' (looks after (suc at) n)) ws rest found) h

word-unset : word_of unset_cell ≡ None
unfolding form.form
word-unset = refl

block-value-agrees : (read read' : Cell → Option Value) (top : ℕ) (before : List Cell) (names : List ℕ) (after : List Cell) (names_after : List ℕ)
    → Finds read read' → read unset_cell ≡ None → Agrees top before names after names_after
    → (at : ℕ) (head : Form) (v : Value) → suc at + parts_of head ≤ top
    → block_value read names at head (looks before (suc at) (parts_of head)) ≡ Some v → block_value read' names_after at head (looks after (suc at) (parts_of head)) ≡ Some v
block-value-agrees read read' top before names after names_after finds none agrees at (form.Text n) v short h =
    let words = parts_of (form.Text n) in
    map-keeps _ (option_and_then (text_of n) (each_of word_of (looks before (suc at) words))) (option_and_then (text_of n) (each_of word_of (looks after (suc at) words))) v
    (λ bytes found.
    then-keeps (text_of n) (text_of n) (each_of word_of (looks before (suc at) words)) (each_of word_of (looks after (suc at) words)) bytes
    (λ ws is. parts-agree word_of word_of top before after (λ c w e. e) word-unset agrees.cells words (suc at) ws short is)
    (λ a w e. e) found) h
block-value-agrees read read' top before names after names_after finds none agrees at (form.ConBlock constructor n) v short h =
    map-keeps _ (each_of read (looks before (suc at) n)) (each_of read' (looks after (suc at) n)) v
    (λ ws found. parts-agree read read' top before after finds none agrees.cells n (suc at) ws short found) h
block-value-agrees read read' top before names after names_after finds none agrees at (form.Tuple n) v short h =
    map-keeps _ (each_of read (looks before (suc at) n)) (each_of read' (looks after (suc at) n)) v
    (λ ws found. parts-agree read read' top before after finds none agrees.cells n (suc at) ws short found) h
block-value-agrees read read' top before names after names_after finds none agrees at form.ConsBlock v short h =
    map-keeps _ (each_of read (looks before (suc at) 2)) (each_of read' (looks after (suc at) 2)) v
    (λ ws found. parts-agree read read' top before after finds none agrees.cells 2 (suc at) ws short found) h
block-value-agrees read read' top before names after names_after finds none agrees at form.Lvar v short h =
    let here : at < top = omega (arith, short) in
    map-keeps _ (place_of at names) (place_of at names_after) v (λ k found. agrees.names at k here found) h
block-value-agrees read read' top before names after names_after finds none agrees at (form.Vector n) v short h =
    map-keeps _ (each_of read (looks before (suc at) n)) (each_of read' (looks after (suc at) n)) v
    (λ ws found. parts-agree read read' top before after finds none agrees.cells n (suc at) ws short found) h
block-value-agrees read read' top before names after names_after finds none agrees at _ v short h = cc

pub agrees-lower : (top low : ℕ) (before : List Cell) (names : List ℕ) (after : List Cell) (names_after : List ℕ) → low ≤ top → Agrees top before names after names_after → Agrees low before names after names_after
agrees-lower top low before names after names_after below h =
    record { cells = λ at short. h.cells at (omega (arith, short, below)); names = λ at k short. h.names at k (omega (arith, short, below)) }

-- what a block's being read says
pub block-fits : (read : Cell → Option Value) (cells : List Cell) (names : List ℕ) (top at : ℕ) (head : Form) (v : Value)
    → read_block read cells names top at head ≡ Some v → (suc (at + parts_of head) ≤ top) × (block_value read names at head (looks cells (suc at) (parts_of head)) ≡ Some v)
block-fits read cells names top at head v h =
    elim (leb_tells (suc (at + parts_of head)) top) [
      | inl fits ↦ (fits.1, rw fits.0 at h)
      | inr over ↦ let none_is : Option Value = None in let e : none_is ≡ Some v = rw over.0 at h in absurd (cc)
    ]

pub fits-block : (read : Cell → Option Value) (cells : List Cell) (names : List ℕ) (top at : ℕ) (head : Form) (v : Value)
    → suc (at + parts_of head) ≤ top → block_value read names at head (looks cells (suc at) (parts_of head)) ≡ Some v → read_block read cells names top at head ≡ Some v
fits-block read cells names top at head v short h =
    elim (leb_tells (suc (at + parts_of head)) top) [
      | inl fits ↦ rw fits.0 h
      | inr over ↦ absurd (omega (arith, over.1, short))
    ]

block-agrees : (read read' : Cell → Option Value) (top : ℕ) (before : List Cell) (names : List ℕ) (after : List Cell) (names_after : List ℕ)
    → (at : ℕ) → (at < top → Finds read read') → read unset_cell ≡ None → Agrees top before names after names_after
    → (head : Form) (v : Value) → read_block read before names top at head ≡ Some v → read_block read' after names_after top at head ≡ Some v
block-agrees read read' top before names after names_after at finds none agrees head v h =
    let was = block-fits read before names top at head v h in
    let fits : suc (at + parts_of head) ≤ top = was.0 in
    let short : suc at + parts_of head ≤ top = omega (arith, fits) in
    let here : at < top = omega (arith, fits) in
    fits-block read' after names_after top at head v fits (block-value-agrees read read' top before names after names_after (finds here) none agrees at head v short was.1)

-- an unset cell is no head
unset-block : (read : Cell → Option Value) (cells : List Cell) (names : List ℕ) (top at : ℕ) (v : Value) (head : Form) → head ≡ form.Unset → read_block read cells names top at head ≡ Some v → ⊥
unset-block read cells names top at v head is h =
    let P : Form → Type 0 = λ f. read_block read cells names top at f ≡ Some v in
    let was = block-fits read cells names top at form.Unset v (subst P is h) in
    let none_is : Option Value = None in
    let e : none_is ≡ Some v = was.1 in cc

form-agrees : (read read' : ℕ → Cell → Option Value) (top : ℕ) (before : List Cell) (names : List ℕ) (after : List Cell) (names_after : List ℕ)
    → ((at : ℕ) → at < top → Finds (read at) (read' at)) → ((at : ℕ) → read at unset_cell ≡ None) → Agrees top before names after names_after
    → (f : Form) (v : Value) → read_form read before names top f ≡ Some v → read_form read' after names_after top f ≡ Some v
form-agrees read read' top before names after names_after finds none agrees (form.Int i) v h = h
form-agrees read read' top before names after names_after finds none agrees (form.Char c) v h = h
form-agrees read read' top before names after names_after finds none agrees (form.Rel relation) v h = h
form-agrees read read' top before names after names_after finds none agrees (form.Con constructor) v h = h
form-agrees read read' top before names after names_after finds none agrees (form.Block at) v h =
    let was = block-fits (read at) before names top at (form_of (look before at)) v h in
    let inside : at < top = let fits = was.0 in omega (arith, fits) in
    elim (agrees.cells at inside) [
      | inl hidden ↦ absurd (unset-block (read at) before names top at v (form_of (look before at)) (ap form_of hidden ∙ unset-form) h)
      | inr same ↦
          let P : Cell → Type 0 = λ c. read_block (read' at) after names_after top at (form_of c) ≡ Some v in
          subst P (sym same) (block-agrees (read at) (read' at) top before names after names_after at (finds at) (none at) agrees (form_of (look before at)) v h)
    ]
form-agrees read read' top before names after names_after finds none agrees _ v h = cc

pub below-none : (depth : ℕ) (cells : List Cell) (names : List ℕ) (top : ℕ) → value_below depth cells names top unset_cell ≡ None
unfolding value_below form.form
below-none zero cells names top = refl
below-none (suc depth) cells names top = refl

pub below-agrees : (depth : ℕ) (before : List Cell) (names : List ℕ) (after : List Cell) (names_after : List ℕ) (top : ℕ) → Agrees top before names after names_after
    → (c : Cell) (v : Value) → value_below depth before names top c ≡ Some v → value_below depth after names_after top c ≡ Some v
unfolding value_below
below-agrees zero before names after names_after top agrees c v h = cc
below-agrees (suc depth) before names after names_after top agrees c v h =
    form-agrees (value_below depth before names) (value_below depth after names_after) top before names after names_after
    (λ at inside. below-agrees depth before names after names_after at (agrees-lower top at before names after names_after (omega (arith, inside)) agrees))
    (below-none depth before names) agrees (form_of c) v h

form-higher : (read : ℕ → Cell → Option Value) (cells : List Cell) (names : List ℕ) (low top : ℕ) → low ≤ top → (f : Form) (v : Value) → read_form read cells names low f ≡ Some v → read_form read cells names top f ≡ Some v
form-higher read cells names low top higher (form.Block at) v h =
    let was = block-fits (read at) cells names low at (form_of (look cells at)) v h in
    let fits = was.0 in
    fits-block (read at) cells names top at (form_of (look cells at)) v (omega (arith, fits, higher)) was.1
form-higher read cells names low top higher _ v h = h

-- what stands below a place stands below a higher one
pub below-higher : (depth : ℕ) (cells : List Cell) (names : List ℕ) (low top : ℕ) (c : Cell) (v : Value) → low ≤ top → value_below depth cells names low c ≡ Some v → value_below depth cells names top c ≡ Some v
unfolding value_below
below-higher zero cells names low top c v higher h = cc
below-higher (suc depth) cells names low top c v higher h = form-higher (value_below depth cells names) cells names low top higher (form_of c) v h

agrees-same : (top : ℕ) (cells : List Cell) (names : List ℕ) → Agrees top cells names cells names
agrees-same top cells names = record { cells = λ at below. inr refl; names = λ at k below e. e }

-- one deeper, and so at each greater depth
below-deeper : (depth : ℕ) (cells : List Cell) (names : List ℕ) (top : ℕ) (c : Cell) (v : Value) → value_below depth cells names top c ≡ Some v → value_below (suc depth) cells names top c ≡ Some v
unfolding value_below
below-deeper zero cells names top c v h = cc
below-deeper (suc depth) cells names top c v h =
    form-agrees (value_below depth cells names) (value_below (suc depth) cells names) top cells names cells names
    (λ at inside. below-deeper depth cells names at) (below-none depth cells names) (agrees-same top cells names) (form_of c) v h

pub below-deep : (more depth : ℕ) (cells : List Cell) (names : List ℕ) (top : ℕ) (c : Cell) (v : Value) → value_below depth cells names top c ≡ Some v → value_below (more + depth) cells names top c ≡ Some v
below-deep zero depth cells names top c v h = let e : zero + depth ≡ depth = omega arith in rw e h
below-deep (suc more) depth cells names top c v h = let e : suc more + depth ≡ suc (more + depth) = omega arith in rw e (below-deeper (more + depth) cells names top c v (below-deep more depth cells names top c v h))

-- a cell stands for one value
pub one-reading : (depth depth' : ℕ) (cells : List Cell) (names : List ℕ) (top : ℕ) (c : Cell) (v w : Value) → value_below depth cells names top c ≡ Some v → value_below depth' cells names top c ≡ Some w → v ≡ w
one-reading depth depth' cells names top c v w h k =
    let swap : depth' + depth ≡ depth + depth' = omega arith in
    let deep : value_below (depth' + depth) cells names top c ≡ Some v = below-deep depth' depth cells names top c v h in
    let other : value_below (depth + depth') cells names top c ≡ Some w = below-deep depth depth' cells names top c w k in
    let same : value_below (depth' + depth) cells names top c ≡ Some w = ap (λ n. value_below n cells names top c) swap ∙ other in
    cc

-- no reading goes deeper than there are cells below the top
pub below-shallow : (depth : ℕ) (cells : List Cell) (names : List ℕ) (top : ℕ) (c : Cell) (v : Value) → value_below depth cells names top c ≡ Some v → value_below (suc top) cells names top c ≡ Some v
unfolding value_below
below-shallow zero cells names top c v h = cc
below-shallow (suc depth) cells names top c v h =
    form-agrees (value_below depth cells names) (value_below top cells names) top cells names cells names
    (λ at inside d w found.
    let e : (top - suc at) + suc at ≡ top = omega (arith, inside) in
    let shallow : value_below (suc at) cells names at d ≡ Some w = below-shallow depth cells names at d w found in
    subst (λ n. value_below n cells names at d ≡ Some w) e (below-deep (top - suc at) (suc at) cells names at d w shallow))
    (below-none depth cells names) (agrees-same top cells names) (form_of c) v h
