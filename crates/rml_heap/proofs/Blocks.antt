-- A block that is added at the end of the cells of values, and what its cell stands for.
use Rattle.std.proofs.Common.{◌≡◌, ◌≢◌, ℕ, suc, ◌+◌, ◌<◌, ◌≤◌, List, [], ◌∷◌, ◌++◌, Option, Some, length, refl, sym, ap, subst, ◌∙◌, arith, inl, inr, append_assoc, length-append}
use Rattle.std.specs.List.{AllByRecursion}
use Rattle.std.specs.Option.{option_map, option_and_then}
use Rattle.std.proofs.lemmas.List.{get_or_append_left, get_or-append-add}
use Rattle.rml_value.specs.declared.value.Value.{Value}
use Rattle.rml_heap.specs.declared.cell.Cell.{Cell}
use Rattle.rml_heap.specs.HeapState.{unset_cell}
use Rattle.rml_heap.specs.Form as form
use Rattle.rml_heap.specs.Form.{Form, form_of}
use Rattle.rml_heap.specs.Reading.{cell_at, form_before, look, looks, each_of, parts_of, block_value, read_block, read_form, value_below, Stands, AllStand}
use Rattle.rml_heap.specs.Agrees.{Agrees}
use Rattle.rml_heap.proofs.Forms.{cell_of}
use Rattle.rml_heap.proofs.Kept.{agrees-more, behind-other}
use Rattle.rml_heap.proofs.Outlines.{map-some, then-some}
use Rattle.rml_heap.proofs.Readings.{below-agrees, below-deep, below-higher, fits-block}
use Rattle.rml_heap.proofs.Told.{IsPlain, standing}

-- ---- what is added is seen as it is

pub at-end : (cells : List Cell) (c : Cell) (more : List Cell) → cell_at (cells ++ c ∷ more) (length cells) ≡ c
at-end cells c more =
    let place : length cells + 0 ≡ length cells = omega arith in
    ap (cell_at (cells ++ c ∷ more)) (sym place) ∙ get_or-append-add cells (c ∷ more) 0 unset_cell

pub look-shown : (cells : List Cell) (at : ℕ) → form_before cells at ≢ form.Lvar → look cells at ≡ cell_at cells at
unfolding look
look-shown cells at clear = behind-other (form_before cells at) (cell_at cells at) clear

pub before-append : (cells more : List Cell) → form_before (cells ++ more) (length cells) ≡ form_before cells (length cells)
before-append [] more = refl
before-append (c ∷ cells) more =
    let inside : length cells < length (c ∷ cells) = omega arith in
    ap form_of (get_or_append_left (c ∷ cells) more unset_cell (length cells) inside)

-- what is before the place after one more cell is that cell
pub before-next : (cells : List Cell) (c : Cell) → form_before (cells ++ c ∷ []) (length (cells ++ c ∷ [])) ≡ form_of c
before-next cells c =
    let size : length (cells ++ c ∷ []) ≡ suc (length cells) = let e = length-append cells (c ∷ []) in omega (arith, e) in
    ap (form_before (cells ++ c ∷ [])) size ∙ ap form_of (at-end cells c [])

pub looks-added : (cells more : List Cell) → form_before cells (length cells) ≢ form.Lvar → AllByRecursion (λ c. form_of c ≢ form.Lvar) more → looks (cells ++ more) (length cells) (length more) ≡ more
looks-added cells [] clear all = refl
looks-added cells (c ∷ more) clear all =
    let whole : List Cell = cells ++ c ∷ more in
    let one : List Cell = cells ++ c ∷ [] in
    let next : one ++ more ≡ whole = append_assoc cells (c ∷ []) more in
    let size : length one ≡ suc (length cells) = let e = length-append cells (c ∷ []) in omega (arith, e) in
    let F : Form → Type 0 = λ f. f ≢ form.Lvar in
    let here : look whole (length cells) ≡ c = look-shown whole (length cells) (subst F (sym (before-append cells (c ∷ more))) clear) ∙ at-end cells c more in
    let rest : looks (one ++ more) (length one) (length more) ≡ more = looks-added one more (subst F (sym (before-next cells c)) all.0) all.1 in
    let rest' : looks whole (suc (length cells)) (length more) ≡ more = ap (λ (ws : List Cell). looks ws (suc (length cells)) (length more)) (sym next) ∙ ap (λ n. looks (one ++ more) n (length more)) (sym size) ∙ rest in
    ap (λ (d : Cell). d ∷ looks whole (suc (length cells)) (length more)) here ∙ ap (λ (ws : List Cell). c ∷ ws) rest'

-- ---- parts that stand for values are read at one depth

pub each-cons : {A : Type 0} (read : Cell → Option A) (c : Cell) (cs : List Cell) (x : A) (xs : List A) → read c ≡ Some x → each_of read cs ≡ Some xs → each_of read (c ∷ cs) ≡ Some (x ∷ xs)
each-cons read c cs x xs h k =
    ap (option_and_then (λ y. option_map (λ ys. y ∷ ys) (each_of read cs))) h ∙ ap (option_map (λ ys. x ∷ ys)) k

each-deeper : (more depth : ℕ) (cells : List Cell) (names : List ℕ) (top : ℕ) (cs : List Cell) (vs : List Value)
    → each_of (value_below depth cells names top) cs ≡ Some vs → each_of (value_below (more + depth) cells names top) cs ≡ Some vs
each-deeper more depth cells names top [] vs h = h
each-deeper more depth cells names top (c ∷ cs) vs h =
    let read : Cell → Option Value = value_below depth cells names top in
    let first = then-some (λ x. option_map (λ xs. x ∷ xs) (each_of read cs)) (read c) vs h in
    let rest = map-some (λ xs. first.0 ∷ xs) (each_of read cs) vs first.2 in
    each-cons (value_below (more + depth) cells names top) c cs first.0 rest.0 (below-deep more depth cells names top c first.0 first.1) (each-deeper more depth cells names top cs rest.0 rest.1)
    ∙ ap Some (sym rest.2)

pub all-each : (cells : List Cell) (names : List ℕ) (top : ℕ) (cs : List Cell) (vs : List Value) → AllStand cells names top cs vs → (depth : ℕ) × (each_of (value_below depth cells names top) cs ≡ Some vs)
all-each cells names top [] [] h = (0, refl)
all-each cells names top [] (v ∷ vs) h = absurd h
all-each cells names top (c ∷ cs) [] h = absurd h
all-each cells names top (c ∷ cs) (v ∷ vs) h =
    let rest = all-each cells names top cs vs h.1 in
    let swap : h.0.0 + rest.0 ≡ rest.0 + h.0.0 = omega arith in
    let first : value_below (rest.0 + h.0.0) cells names top c ≡ Some v = below-deep rest.0 h.0.0 cells names top c v h.0.1 in
    let others : each_of (value_below (rest.0 + h.0.0) cells names top) cs ≡ Some vs = ap (λ n. each_of (value_below n cells names top) cs) (sym swap) ∙ each-deeper h.0.0 rest.0 cells names top cs vs rest.1 in
    (rest.0 + h.0.0, each-cons (value_below (rest.0 + h.0.0) cells names top) c cs v vs first others)

pub all-agree : (before : List Cell) (names : List ℕ) (after : List Cell) (names_after : List ℕ) (top : ℕ) → Agrees top before names after names_after
    → (cs : List Cell) (vs : List Value) → AllStand before names top cs vs → AllStand after names_after top cs vs
all-agree before names after names_after top agrees [] [] h = tt
all-agree before names after names_after top agrees [] (v ∷ vs) h = h
all-agree before names after names_after top agrees (c ∷ cs) [] h = h
all-agree before names after names_after top agrees (c ∷ cs) (v ∷ vs) h =
    ((h.0.0, below-agrees h.0.0 before names after names_after top agrees c v h.0.1), all-agree before names after names_after top agrees cs vs h.1)

-- what stands before cells are added stands after it
pub stands-more : (cells more : List Cell) (names : List ℕ) (c : Cell) (v : Value) → Stands cells names (length cells) c v → Stands (cells ++ more) names (length (cells ++ more)) c v
stands-more cells more names c v h =
    let long : length cells ≤ length (cells ++ more) = let e = length-append cells more in omega (arith, e) in
    let same : length cells ≤ length cells = omega arith in
    (h.0, below-higher h.0 (cells ++ more) names (length cells) (length (cells ++ more)) c v long (below-agrees h.0 cells names (cells ++ more) names (length cells) (agrees-more (length cells) cells more names same) c v h.1))

plain-no_lvar : (f : Form) → IsPlain f → f ≢ form.Lvar
plain-no_lvar f p e = let P : Form → Type 0 = IsPlain in subst P e p

-- a cell that stands for a value is no head of a logical variable
pub stands-no_lvar : (cells : List Cell) (names : List ℕ) (top : ℕ) (c : Cell) (v : Value) → Stands cells names top c v → form_of c ≢ form.Lvar
stands-no_lvar cells names top c v h =
    elim (standing cells names top c v h) [
      | inl plain ↦ plain-no_lvar (form_of c) plain
      | inr block ↦ λ e. let f : form.Block block.at ≡ form.Lvar = sym block.form_is ∙ e in cc
    ]

pub all-no_lvar : (cells : List Cell) (names : List ℕ) (top : ℕ) (cs : List Cell) (vs : List Value) → AllStand cells names top cs vs → AllByRecursion (λ c. form_of c ≢ form.Lvar) cs
all-no_lvar cells names top [] vs h = tt
all-no_lvar cells names top (c ∷ cs) [] h = absurd h
all-no_lvar cells names top (c ∷ cs) (v ∷ vs) h = (stands-no_lvar cells names top c v h.0, all-no_lvar cells names top cs vs h.1)

-- ---- the block

pub block-form : (at : ℕ) → form_of (cell_of (form.Block at)) ≡ form.Block at
unfolding form.form
block-form at = refl

-- a head that is no logical variable's, and parts that are no heads of these
pub added-stands : (cells : List Cell) (names : List ℕ) (head : Cell) (parts : List Cell) (v : Value) (depth : ℕ)
    → form_before cells (length cells) ≢ form.Lvar → form_of head ≢ form.Lvar → AllByRecursion (λ c. form_of c ≢ form.Lvar) parts → parts_of (form_of head) ≡ length parts
    → block_value (value_below depth (cells ++ head ∷ parts) names (length cells)) names (length cells) (form_of head) parts ≡ Some v
    → Stands (cells ++ head ∷ parts) names (length (cells ++ head ∷ parts)) (cell_of (form.Block (length cells))) v
unfolding value_below
added-stands cells names head parts v depth clear no_head no_heads count is =
    let whole : List Cell = cells ++ head ∷ parts in
    let at : ℕ = length cells in
    let seen : look whole at ∷ looks whole (suc at) (length parts) ≡ head ∷ parts = looks-added cells (head ∷ parts) clear (no_head, no_heads) in
    let head_is : look whole at ≡ head = cc in
    let parts_are : looks whole (suc at) (length parts) ≡ parts = cc in
    let parts_are' : looks whole (suc at) (parts_of (form_of head)) ≡ parts = ap (looks whole (suc at)) count ∙ parts_are in
    let read : Cell → Option Value = value_below depth whole names at in
    let fits : suc (at + parts_of (form_of head)) ≤ length whole = let e = length-append cells (head ∷ parts) in omega (arith, e, count) in
    let value : block_value read names at (form_of head) (looks whole (suc at) (parts_of (form_of head))) ≡ Some v = ap (block_value read names at (form_of head)) parts_are' ∙ is in
    let block : read_block read whole names (length whole) at (form_of head) ≡ Some v = fits-block read whole names (length whole) at (form_of head) v fits value in
    let B : Cell → Type 0 = λ c. read_block read whole names (length whole) at (form_of c) ≡ Some v in
    let F : Form → Type 0 = λ f. read_form (value_below depth whole names) whole names (length whole) f ≡ Some v in
    (suc depth, subst F (sym (block-form at)) (subst B (sym head_is) block))

-- the parts stand for values
pub added-block : (cells : List Cell) (names : List ℕ) (head : Cell) (parts : List Cell) (vs : List Value) (v : Value)
    → form_before cells (length cells) ≢ form.Lvar → form_of head ≢ form.Lvar → parts_of (form_of head) ≡ length parts → AllStand cells names (length cells) parts vs
    → ((read : Cell → Option Value) → each_of read parts ≡ Some vs → block_value read names (length cells) (form_of head) parts ≡ Some v)
    → Stands (cells ++ head ∷ parts) names (length (cells ++ head ∷ parts)) (cell_of (form.Block (length cells))) v
added-block cells names head parts vs v clear no_head count all make =
    let whole : List Cell = cells ++ head ∷ parts in
    let same : length cells ≤ length cells = omega arith in
    let each = all-each whole names (length cells) parts vs (all-agree cells names whole names (length cells) (agrees-more (length cells) cells (head ∷ parts) names same) parts vs all) in
    added-stands cells names head parts v each.0 clear no_head (all-no_lvar cells names (length cells) parts vs all) count (make (value_below each.0 whole names (length cells)) each.1)

-- what is before the end of the cells after a block was added
pub before-end : (cells : List Cell) (head : Cell) (parts : List Cell) → form_of head ≢ form.Lvar → AllByRecursion (λ c. form_of c ≢ form.Lvar) parts → form_before (cells ++ head ∷ parts) (length (cells ++ head ∷ parts)) ≢ form.Lvar
before-end cells head [] no_head all = let F : Form → Type 0 = λ f. f ≢ form.Lvar in subst F (sym (before-next cells head)) no_head
before-end cells head (c ∷ parts) no_head all =
    let next : (cells ++ head ∷ []) ++ c ∷ parts ≡ cells ++ head ∷ c ∷ parts = append_assoc cells (head ∷ []) (c ∷ parts) in
    let L : List Cell → Type 0 = λ ws. form_before ws (length ws) ≢ form.Lvar in
    subst L next (before-end (cells ++ head ∷ []) c parts all.0 all.1)
