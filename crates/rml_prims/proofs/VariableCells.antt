-- The cell of a logical variable, and the rows that make, read and set one.
use Rattle.std.proofs.Common.{◌≡◌, ◌≢◌, ℕ, suc, ◌<◌, ◌⊎◌, List, [], ◌∷◌, ◌++◌, Option, Some, None, length, get_or, refl, sym, ap, subst, ◌∙◌, arith, inl, inr}
use Rattle.std.specs.Prelude.{slice_get}
use Rattle.std.specs.Option.{option_map}
use Rattle.std.proofs.lemmas.Option.{slice_get_within, slice_get-get_or}
use Rattle.std.proofs.lemmas.Bool.Decides.{eqb_tells}
use Rattle.rml_value.specs.declared.value.Value.{Value, out-Value}
use Rattle.rml_value.specs.declared.value.Value.TheOpen.{Value-F}
use Rattle.rml_value.specs.declared.value.Value.TheVariants.{outs-Cell}
use Rattle.rml_builtin.specs.Applied.{Store}
use Rattle.rml_builtin.specs.Arguments.{cell_at as entry_at, cell_of as entry_of}
use Rattle.rml_heap.specs.declared.cell.Cell.{Cell}
use Rattle.rml_heap.specs.HeapState.{unset_cell, lvar_head}
use Rattle.rml_heap.specs.Form as form
use Rattle.rml_heap.specs.Form.{Form, IsWord, form_of}
use Rattle.rml_heap.specs.Reading.{cell_at, look, place_of, Stands}
use Rattle.rml_heap.proofs.Callers.{BlockStands, IsPlain, block-form, block-kind, block-stands, lvar-stands, map-some, outline-read, outline_of, root, standing, unset-form}
use Rattle.rml_prims.specs.Binds.{Binds, HoldsEntry}
use Rattle.rml_prims.specs.Shapes.{IsVariable, block_cell}
use Rattle.rml_prims.proofs.PlainCells.{plain-root}
use Rattle.rml_prims.proofs.Bindings.{lvar-form}

-- ---- places of addresses

pub place-get : (at : ℕ) (names : List ℕ) (k : ℕ) → place_of at names ≡ Some k → slice_get names k ≡ Some at
place-get at [] k h = absurd (cc)
place-get at (name ∷ names) k h =
    elim (eqb_tells name at) [
      | inl same ↦
          let first : Some 0 ≡ Some k = rw same.0 at h in
          let k_is : k ≡ 0 = cc in
          ap (slice_get (name ∷ names)) k_is ∙ ap Some same.1
      | inr other ↦
          let rest : option_map suc (place_of at names) ≡ Some k = rw other.0 at h in
          let told = map-some suc (place_of at names) k rest in
          ap (slice_get (name ∷ names)) told.2 ∙ place-get at names told.0 told.1
    ]

pub place-new : (at : ℕ) (names : List ℕ) → ((k : ℕ) → slice_get names k ≡ Some at → ⊥) → place_of at (names ++ at ∷ []) ≡ Some (length names)
place-new at [] new =
    elim (eqb_tells at at) [
      | inl same ↦ rw same.0 refl
      | inr other ↦ absurd (other.1 refl)
    ]
place-new at (name ∷ names) new =
    elim (eqb_tells name at) [
      | inl same ↦ absurd (new 0 (ap Some same.1))
      | inr other ↦ rw other.0 (ap (option_map suc) (place-new at names (λ k. new (suc k))))
    ]

-- ---- the cell of a logical variable

plain-no_lvar : (f : Form) → IsPlain f → f ≢ form.Lvar
plain-no_lvar f p e = let P : Form → Type 0 = IsPlain in subst P e p

plain-word : (f : Form) → IsPlain f → IsWord f
plain-word (form.Int i) p = tt
plain-word (form.Char c) p = tt
plain-word (form.Rel r) p = tt
plain-word (form.Con c) p = tt
plain-word _ p = absurd p

-- what stands for a value can be what a logical variable is set to
pub stands-word : (cells : List Cell) (names : List ℕ) (top : ℕ) (c : Cell) (v : Value) → Stands cells names top c v → IsWord (form_of c)
stands-word cells names top c v h =
    elim (standing cells names top c v h) [
      | inl plain ↦ plain-word (form_of c) plain
      | inr block ↦ let P : Form → Type 0 = IsWord in subst P (sym block.form_is) tt
    ]

pub word-set : (c : Cell) → IsWord (form_of c) → c ≢ unset_cell
word-set c word e = let P : Form → Type 0 = IsWord in let w : IsWord form.Unset = subst P (ap form_of e ∙ unset-form) word in absurd w

entry-out : (out : Value-F Value) (k : ℕ) → entry_at out ≡ Some k → outline_of out ≡ form.Lvar
entry-out (Value-F.Cell j) k h = refl
entry-out _ k h = absurd (cc)

-- the block of a logical variable's number
pub record IsNamed (cells : List Cell) (names : List ℕ) (c : Cell) (k : ℕ) : Type 0 where
  pub at : ℕ
  pub is : c ≡ block_cell at
  pub head : form_of (look cells at) ≡ form.Lvar
  pub named : slice_get names k ≡ Some at

pub stands-named : (cells : List Cell) (names : List ℕ) (top : ℕ) (c : Cell) (v : Value) (k : ℕ) → entry_of v ≡ Some k → Stands cells names top c v → IsNamed cells names c k
stands-named cells names top c v k is h =
    let root_is : root cells (form_of c) ≡ form.Lvar = sym (outline-read h.0 cells names top c v h.1) ∙ entry-out (out-Value v) k is in
    elim (standing cells names top c v h) [
      | inl plain ↦ absurd (plain-no_lvar (form_of c) plain (sym (plain-root cells (form_of c) plain) ∙ root_is))
      | inr block ↦
          let head : form_of (look cells block.at) ≡ form.Lvar = sym (ap (root cells) block.form_is) ∙ root_is in
          let var = lvar-stands cells names top block.at v head block.stands in
          let number : Some var.0 ≡ Some k = sym (ap entry_of var.2 ∙ ap entry_at (outs-Cell var.0)) ∙ is in
          let k_is : var.0 ≡ k = cc in
          record { at = block.at; is = block-kind c block.at block.form_is; head = head; named = ap (slice_get names) (sym k_is) ∙ place-get block.at names var.0 var.1 }
    ]

-- under other names it has another number
pub record HasNumber (names : List ℕ) (at : ℕ) (v : Value) : Type 0 where
  pub k : ℕ
  pub entry : entry_of v ≡ Some k
  pub named : slice_get names k ≡ Some at

pub variable-number : (cells : List Cell) (names : List ℕ) (top at : ℕ) (v : Value) → look cells at ≡ lvar_head → Stands cells names top (block_cell at) v → HasNumber names at v
variable-number cells names top at v head h =
    let stands : BlockStands cells names top at v = block-stands cells names top at (block_cell at) v (block-form at) h in
    let var = lvar-stands cells names top at v (ap form_of head ∙ lvar-form) stands in
    record { k = var.0; entry = ap entry_of var.2 ∙ ap entry_at (outs-Cell var.0); named = place-get at names var.0 var.1 }

-- the content of a logical variable
entry-content : (cells : List Cell) (names : List ℕ) (at : ℕ) (entry : Option Value) → HoldsEntry cells names at entry → (cell_at cells (suc at) ≡ unset_cell) ⊎ IsWord (form_of (cell_at cells (suc at)))
entry-content cells names at None h = inl h
entry-content cells names at (Some v) h = inr (stands-word cells names (length cells) (cell_at cells (suc at)) v h)

pub entry-there : (names : List ℕ) (store : Store) (k at : ℕ) → length names ≡ length store → slice_get names k ≡ Some at → slice_get store k ≡ Some (get_or store k None)
entry-there names store k at long named =
    let inside : k < length names = slice_get_within names k at named in
    let within : k < length store = omega (arith, inside, long) in
    slice_get-get_or store k None within

pub is-variable : (cells : List Cell) (names : List ℕ) (store : Store) (c : Cell) (v : Value) (k : ℕ) → Binds cells names store → entry_of v ≡ Some k → Stands cells names (length cells) c v → IsVariable cells c
is-variable cells names store c v k binds is h =
    let n : IsNamed cells names c k = stands-named cells names (length cells) c v k is h in
    record {
      at = n.at;
      is = n.is;
      lvar = binds.lvars k n.at n.named;
      content = entry-content cells names n.at (get_or store k None) (binds.holds k n.at (get_or store k None) n.named (entry-there names store k n.at binds.long n.named));
    }
