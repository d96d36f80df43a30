-- Cells that stand for values without other cells: integers, characters, relations and constructors without arguments.
use Rattle.std.proofs.Common.{◌≡◌, ◌≢◌, ℕ, zero, suc, ◌<◌, ◌⊎◌, Bool, true, false, arith, List, [], Option, Some, None, refl, sym, ap, subst, ◌∙◌, inl, inr}
use Rattle.std.specs.Prelude.{ℤ, nat_lt, if◌then◌else◌}
use Rattle.rml_value.specs.declared.value.Value.{Value, out-Value}
use Rattle.rml_value.specs.declared.value.Value.TheOpen.{Value-F}
use Rattle.rml_value.specs.declared.value.Value.TheVariants as value
use Rattle.rml_value.specs.declared.value.Value.TheVariants.{outs-Int, outs-Char}
use Rattle.rml_builtin.specs.Arguments.{int_at, int_of, char_at, char_of}
use Rattle.rml_heap.specs.declared.cell.Cell.{Cell}
use Rattle.rml_heap.specs.Form as form
use Rattle.rml_heap.specs.Form.{Form, form_of}
use Rattle.rml_heap.specs.Reading.{look, read_form, value_below, Stands}
use Rattle.rml_heap.proofs.Callers.{BlockStands, IsHead, IsPlain, cell_of, has-form, outline, outline-read, outline_of, root, standing}

-- the value of a cell of one of these forms
abbrev pub plain_value : Form → Option Value
plain_value (form.Int i) = Some (value.Int i)
plain_value (form.Char c) = Some (value.Char c)
plain_value (form.Rel r) = Some (value.Rel r)
plain_value (form.Con c) = Some (value.Con c [])
plain_value _ = None

plain-read : (f : Form) (read : ℕ → Cell → Option Value) (cells : List Cell) (names : List ℕ) (top : ℕ) (v : Value) → plain_value f ≡ Some v → read_form read cells names top f ≡ Some v
plain-read (form.Int i) read cells names top v h = h
plain-read (form.Char c) read cells names top v h = h
plain-read (form.Rel r) read cells names top v h = h
plain-read (form.Con c) read cells names top v h = h
plain-read _ read cells names top v h = absurd (cc)

read-plain : (f : Form) (read : ℕ → Cell → Option Value) (cells : List Cell) (names : List ℕ) (top : ℕ) (v : Value) → IsPlain f → read_form read cells names top f ≡ Some v → plain_value f ≡ Some v
read-plain (form.Int i) read cells names top v p h = h
read-plain (form.Char c) read cells names top v p h = h
read-plain (form.Rel r) read cells names top v p h = h
read-plain (form.Con c) read cells names top v p h = h
read-plain _ read cells names top v p h = absurd p

-- such a cell stands for its value
pub plain-stands : (cells : List Cell) (names : List ℕ) (top : ℕ) (c : Cell) (v : Value) → plain_value (form_of c) ≡ Some v → Stands cells names top c v
unfolding value_below
plain-stands cells names top c v h = (1, plain-read (form_of c) (value_below 0 cells names) cells names top v h)

-- and for no other
pub stands-plain : (cells : List Cell) (names : List ℕ) (top : ℕ) (c : Cell) (v : Value) → IsPlain (form_of c) → Stands cells names top c v → plain_value (form_of c) ≡ Some v
unfolding value_below
stands-plain cells names top c v p (zero, h) = absurd (cc)
stands-plain cells names top c v p (suc depth, h) = read-plain (form_of c) (value_below depth cells names) cells names top v p h

-- a cell that stands for a value of one of these forms has that form
plain-no_head : (f : Form) → IsPlain f → IsHead f → ⊥
plain-no_head (form.Int i) p h = h
plain-no_head (form.Char c) p h = h
plain-no_head (form.Rel r) p h = h
plain-no_head (form.Con c) p h = h
plain-no_head _ p h = p

pub plain-root : (cells : List Cell) (f : Form) → IsPlain f → root cells f ≡ f
plain-root cells (form.Int i) p = refl
plain-root cells (form.Char c) p = refl
plain-root cells (form.Rel r) p = refl
plain-root cells (form.Con c) p = refl
plain-root cells _ p = absurd p

pub plain-form : (cells : List Cell) (names : List ℕ) (top : ℕ) (c : Cell) (v : Value) → IsPlain (outline v) → Stands cells names top c v → form_of c ≡ outline v
plain-form cells names top c v p h =
    let is : outline v ≡ root cells (form_of c) = outline-read h.0 cells names top c v h.1 in
    elim (standing cells names top c v h) [
      | inl plain ↦ sym (is ∙ plain-root cells (form_of c) plain)
      | inr block ↦
          let head : outline v ≡ form_of (look cells block.at) = is ∙ ap (root cells) block.form_is in
          let P : Form → Type 0 = IsPlain in
          absurd (plain-no_head (form_of (look cells block.at)) (subst P head p) block.head)
    ]

-- a form that is some is that of one cell
pub one-cell : (c : Cell) (f : Form) → form_of c ≡ f → f ≢ form.Other → c ≡ cell_of f
one-cell c f is some =
    let P : Form → Type 0 = λ g. g ≢ form.Other in
    (has-form c.kind c.number).cell (subst P (sym is) some) ∙ ap cell_of is

-- ---- integers and characters

int-out : (out : Value-F Value) (n : ℤ) → int_at out ≡ Some n → outline_of out ≡ form.Int n
int-out (Value-F.Int m) n h = cc
int-out _ n h = absurd (cc)

char-out : (out : Value-F Value) (n : ℕ) → char_at out ≡ Some n → outline_of out ≡ form.Char n
char-out (Value-F.Char m) n h = cc
char-out _ n h = absurd (cc)

pub int-cell : (cells : List Cell) (names : List ℕ) (top : ℕ) (c : Cell) (v : Value) (n : ℤ) → int_of v ≡ Some n → Stands cells names top c v → c ≡ cell_of (form.Int n)
int-cell cells names top c v n is h =
    let out : outline v ≡ form.Int n = int-out (out-Value v) n is in
    let P : Form → Type 0 = IsPlain in
    let some : form.Int n ≢ form.Other = λ e. cc in
    one-cell c (form.Int n) (plain-form cells names top c v (subst P (sym out) tt) h ∙ out) some

pub char-cell : (cells : List Cell) (names : List ℕ) (top : ℕ) (c : Cell) (v : Value) (n : ℕ) → char_of v ≡ Some n → Stands cells names top c v → c ≡ cell_of (form.Char n)
char-cell cells names top c v n is h =
    let out : outline v ≡ form.Char n = char-out (out-Value v) n is in
    let P : Form → Type 0 = IsPlain in
    let some : form.Char n ≢ form.Other = λ e. cc in
    one-cell c (form.Char n) (plain-form cells names top c v (subst P (sym out) tt) h ∙ out) some

pub int-form : (n : ℤ) → form_of (cell_of (form.Int n)) ≡ form.Int n
unfolding form.form
int-form n = refl

pub int-stands : (cells : List Cell) (names : List ℕ) (top : ℕ) (n : ℤ) → Stands cells names top (cell_of (form.Int n)) (value.Int n)
int-stands cells names top n = plain-stands cells names top (cell_of (form.Int n)) (value.Int n) (ap plain_value (int-form n))

pub int-is : (n : ℤ) → int_of (value.Int n) ≡ Some n
int-is n = ap int_at (outs-Int n)

pub char-is : (n : ℕ) → char_of (value.Char n) ≡ Some n
char-is n = ap char_at (outs-Char n)

-- what a cell of an integer stands for
pub int-value : (cells : List Cell) (names : List ℕ) (top : ℕ) (n : ℤ) (v : Value) → Stands cells names top (cell_of (form.Int n)) v → int_of v ≡ Some n
int-value cells names top n v h =
    let P : Form → Type 0 = IsPlain in
    let is : plain_value (form_of (cell_of (form.Int n))) ≡ Some v = stands-plain cells names top (cell_of (form.Int n)) v (subst P (sym (int-form n)) tt) h in
    let same : Some (value.Int n) ≡ Some v = sym (ap plain_value (int-form n)) ∙ is in
    let v_is : value.Int n ≡ v = cc in
    ap int_of (sym v_is) ∙ int-is n

pub con-form : (n : ℕ) → form_of (cell_of (form.Con n)) ≡ form.Con n
unfolding form.form
con-form n = refl

pub con-stands : (cells : List Cell) (names : List ℕ) (top : ℕ) (n : ℕ) → Stands cells names top (cell_of (form.Con n)) (value.Con n [])
con-stands cells names top n = plain-stands cells names top (cell_of (form.Con n)) (value.Con n []) (ap plain_value (con-form n))

-- ---- blocks

-- a cell of a block with this head
pub record HasHead (cells : List Cell) (names : List ℕ) (top : ℕ) (c : Cell) (v : Value) (f : Form) : Type 0 where
  pub at : ℕ
  pub form_is : form_of c ≡ form.Block at
  pub head : form_of (look cells at) ≡ f
  pub stands : BlockStands cells names top at v

pub stands-head : (cells : List Cell) (names : List ℕ) (top : ℕ) (c : Cell) (v : Value) (f : Form) → IsHead f → outline v ≡ f → Stands cells names top c v → HasHead cells names top c v f
stands-head cells names top c v f is_head out h =
    let root_is : root cells (form_of c) ≡ f = sym (outline-read h.0 cells names top c v h.1) ∙ out in
    elim (standing cells names top c v h) [
      | inl plain ↦
          let same : form_of c ≡ f = sym (plain-root cells (form_of c) plain) ∙ root_is in
          let P : Form → Type 0 = IsPlain in
          absurd (plain-no_head f (subst P same plain) is_head)
      | inr block ↦ record { at = block.at; form_is = block.form_is; head = sym (ap (root cells) block.form_is) ∙ root_is; stands = block.stands }
    ]

char-form : (n : ℕ) → n < 256 → form_of (cell_of (form.Char n)) ≡ form.Char n
unfolding form.form
char-form n low = pick (nat_lt n 256) refl
  where
    pick : (b : Bool) → nat_lt n 256 ≡ b → (if b then form.Char n else form.Other) ≡ form.Char n
    pick true small = refl
    pick false large = absurd (grind (arith, large, low))

pub char-stands : (cells : List Cell) (names : List ℕ) (top : ℕ) (n : ℕ) → n < 256 → Stands cells names top (cell_of (form.Char n)) (value.Char n)
char-stands cells names top n low = plain-stands cells names top (cell_of (form.Char n)) (value.Char n) (ap plain_value (char-form n low))

-- a number that is no byte makes no character
char-kind : (n : ℕ) (v : Value) → IsPlain (form_of (cell_of (form.Char n))) ⊎ ((at : ℕ) × (form_of (cell_of (form.Char n)) ≡ form.Block at)) → n < 256
unfolding form.form
char-kind n v told = pick (nat_lt n 256) refl told
  where
    pick : (b : Bool) → nat_lt n 256 ≡ b → IsPlain (if b then form.Char n else form.Other) ⊎ ((at : ℕ) × ((if b then form.Char n else form.Other) ≡ form.Block at)) → n < 256
    pick true small h = grind (arith, small)
    pick false large (inl h) = absurd h
    pick false large (inr h) = absurd (cc)

pub char-low : (cells : List Cell) (names : List ℕ) (top : ℕ) (n : ℕ) (v : Value) → Stands cells names top (cell_of (form.Char n)) v → n < 256
char-low cells names top n v h =
    let told : IsPlain (form_of (cell_of (form.Char n))) ⊎ ((at : ℕ) × (form_of (cell_of (form.Char n)) ≡ form.Block at)) =
    elim (standing cells names top (cell_of (form.Char n)) v h) [ inl plain ↦ inl plain | inr block ↦ inr (block.at, block.form_is) ]
    in
    char-kind n v told

pub char-value : (cells : List Cell) (names : List ℕ) (top : ℕ) (n : ℕ) (v : Value) → Stands cells names top (cell_of (form.Char n)) v → char_of v ≡ Some n
char-value cells names top n v h =
    let low : n < 256 = char-low cells names top n v h in
    let P : Form → Type 0 = IsPlain in
    let is : plain_value (form_of (cell_of (form.Char n))) ≡ Some v = stands-plain cells names top (cell_of (form.Char n)) v (subst P (sym (char-form n low)) tt) h in
    let same : Some (value.Char n) ≡ Some v = sym (ap plain_value (char-form n low)) ∙ is in
    let v_is : value.Char n ≡ v = cc in
    ap char_of (sym v_is) ∙ char-is n
