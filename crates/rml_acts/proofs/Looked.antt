-- What it takes to look at values.
use Rattle.std.specs.Prelude.{ℕ, suc, ◌≡◌, ◌+◌, ◌<◌, ◌^◌, ◌↔◌, Bool, true, false, IsTrue, if◌then◌else◌, ℤ, List, length, Option, Some, None, slice_index_or, slice_set}
use Rattle.std.proofs.Common.{refl, ap, sym, ◌∙◌, arith}
use Rattle.rml_value.specs.declared.value.Value.{Value}
use Rattle.rml_value.specs.Same.{same}
use Rattle.rml_heap.specs.declared.cell.Cell.{Cell}
use Rattle.rml_heap.specs.HeapState.{unset_cell}
use Rattle.rml_heap.specs.Form.{form_of, address, or_zero}
use Rattle.rml_heap.specs.Reading.{word_of, Stands}
use Rattle.rml_heap.specs.Compared.{AreValues}
use Rattle.rml_code.specs.declared.instructions.Else.{Else}
use Rattle.rml_code.specs.declared.instructions.Else.TheVariants as else
use Rattle.rml_code.specs.declared.instructions.Halt.TheVariants as halt
use Rattle.rml_code.specs.declared.instructions.Instr.TheVariants as instr
use Rattle.rml_code.specs.declared.state.State.{State}
use Rattle.rml_code.specs.Frames.{register, put, label_at}
use Rattle.rml_prims.specs.Standing.{value_in, lvars_in}
use Rattle.rml_code.specs.Stretch as stretch
use Rattle.rml_code.specs.Stretch.{Stretch, Turn, Stop, goes, with_known}
use Rattle.rml_code.specs.Effects.{behind, effect, part_of, entry_in, otherwise, to_label}
use Rattle.rml_acts.specs.Did.{IsRight}
use Rattle.rml_acts.proofs.Effects.{known-right, known-is}
use Rattle.rml_acts.proofs.SameValues.{same-tells, same-itself}
use Rattle.rml_acts.proofs.Forms.{word-number, entry-number, part-there}

-- ---- a part of a block

pub record Takes (a b i : ℕ) (s : State) : Type 0 where
  pub inside : address (register s b).number + i < length s.heap.values
  pub does : behind (put a (slice_index_or s.heap.values (address (register s b).number + i) unset_cell) s) ≡ effect (instr.Field a b i) s

pub takes : (a b i : ℕ) (s : State) → length s.heap.values < 2 ^ 32 → IsRight (effect (instr.Field a b i) s) → Takes a b i s
takes a b i s small right =
    let go : Cell → Stretch = λ (c : Cell). behind (put a c s) in
    let there = known-right (part_of s.heap.values i (register s b)) go s right in
    let part = part-there s.heap.values i (register s b) there.0 small there.1 in
    record { inside = part.0; does = ap go part.1 ∙ sym (known-is (part_of s.heap.values i (register s b)) go s there.0 there.1) }

-- ---- ends

pub calls : (a : ℕ) (s : State) → IsRight (effect (instr.CallRegister a) s) → goes (Turn (or_zero (register s a).number)) s ≡ effect (instr.CallRegister a) s
calls a s right =
    let go : ℕ → Stretch = λ b. goes (Turn b) s in
    let o : Option ℕ = entry_in (form_of (register s a)) in
    let there = known-right o go s right in
    ap go (entry-number (register s a) there.0 there.1) ∙ sym (known-is o go s there.0 there.1)

pub gives : (s : State) → IsRight (effect (instr.Halt halt.Integer) s) → goes (Stop (stretch.Answer (Some (register s 0).number))) s ≡ effect (instr.Halt halt.Integer) s
gives s right =
    let go : ℤ → Stretch = λ i. goes (Stop (stretch.Answer (Some i))) s in
    let there = known-right (word_of (register s 0)) go s right in
    ap go (word-number (register s 0) there.0 there.1) ∙ sym (known-is (word_of (register s 0)) go s there.0 there.1)

-- the state stays
known-stays : {A : Type 0} (o : Option A) (go : A → Stretch) (s : State) → ((x : A) → (go x).state ≡ s) → (with_known o go s).state ≡ s
known-stays None go s stays = refl
known-stays (Some x) go s stays = stays x

pub label-stays : (at : ℕ) (s : State) → (to_label at s).state ≡ s
label-stays at s = known-stays (label_at at s.heap) (λ b. goes (Turn b) s) s (λ b. refl)

pub otherwise-stays : (e : Else) (s : State) → (otherwise e s).state ≡ s
otherwise-stays else.Fail s = label-stays s.failure s
otherwise-stays (else.Block b) s = refl

-- ---- equality

pub record Compares (a b : ℕ) (e : Else) (s : State) : Type 0 where
  pub values : AreValues s.heap.values (register s a) (register s b)
  pub left : Value
  pub right : Value
  pub left_stands : Stands s.heap.values (lvars_in s.heap.values) (length s.heap.values) (register s a) left
  pub right_stands : Stands s.heap.values (lvars_in s.heap.values) (length s.heap.values) (register s b) right
  pub does : effect (instr.Equal a b e) s ≡ (if same left right then behind s else otherwise e s)

pub compares : (a b : ℕ) (e : Else) (s : State) → IsRight (effect (instr.Equal a b e) s) → Compares a b e s
compares a b e s right =
    let after : Value → Value → Stretch = λ (v w : Value). if same v w then behind s else otherwise e s in
    let second : Option Value = value_in s.heap.values (register s b) in
    let go : Value → Stretch = λ (v : Value). with_known second (after v) s in
    let first : Option Value = value_in s.heap.values (register s a) in
    let v = known-right first go s right in
    let goes_on : effect (instr.Equal a b e) s ≡ go v.0 = known-is first go s v.0 v.1 in
    let w = known-right second (after v.0) s (λ wrong. right (ap (λ (x : Stretch). x.next) goes_on ∙ wrong)) in
    let depth : ℕ = suc (length s.heap.values) in
    record {
      values = record { names = lvars_in s.heap.values; top = length s.heap.values; below = length s.heap.values; left = v.0; right = w.0; left_stands = (depth, v.1); right_stands = (depth, w.1); within = omega arith };
      left = v.0;
      right = w.0;
      left_stands = (depth, v.1);
      right_stands = (depth, w.1);
      does = goes_on ∙ known-is second (after v.0) s w.0 w.1;
    }

-- by what the test of cells tells
pub tested : (a b : ℕ) (e : Else) (s : State) (c : Compares a b e s) (test : Bool) → (IsTrue test ↔ (c.left ≡ c.right)) → effect (instr.Equal a b e) s ≡ (if test then behind s else otherwise e s)
tested a b e s c test tells =
    c.does ∙ ap (λ t. if t then behind s else otherwise e s) (agree (same c.left c.right) test (λ yes. tells.1 (same-tells c.left c.right yes)) (λ yes. ap (same c.left) (sym (tells.0 yes)) ∙ same-itself c.left))
  where
    agree : (x y : Bool) → (x ≡ true → y ≡ true) → (y ≡ true → x ≡ true) → x ≡ y
    agree true y h i = sym (h refl)
    agree false true h i = i refl
    agree false false h i = refl

pub taken : (a b i : ℕ) (s : State) (at : ℕ) (c : Cell) (registers : List Cell) → Takes a b i s → at ≡ address (register s b).number → c ≡ slice_index_or s.heap.values (at + i) unset_cell
    → registers ≡ slice_set s.registers a c → behind (record s { registers = registers }) ≡ effect (instr.Field a b i) s
taken a b i s at c registers t is there written = rw (written, there, is) t.does

-- what the test of cells tells
Tells : State → Cell → Cell → Bool → Type 0
Tells s left right test = (names : List ℕ) (top below : ℕ) (v w : Value) → Stands s.heap.values names top left v → Stands s.heap.values names below right w → IsTrue test ↔ (v ≡ w)

module _ (a b : ℕ) (e : Else) (s : State) (left right : Cell) (left_is : left ≡ register s a) (right_is : right ≡ register s b) (meaning : IsRight (effect (instr.Equal a b e) s)) where
  pub compared-values : AreValues s.heap.values left right
  compared-values = rw (left_is, right_is) (compares a b e s meaning).values

  compared : (test : Bool) → Tells s left right test → effect (instr.Equal a b e) s ≡ (if test then behind s else otherwise e s)
  unfolding Tells
  compared test tells =
      let c = compares a b e s meaning in
      let l : Stands s.heap.values (lvars_in s.heap.values) (length s.heap.values) left c.left = rw left_is c.left_stands in
      let r : Stands s.heap.values (lvars_in s.heap.values) (length s.heap.values) right c.right = rw right_is c.right_stands in
      tested a b e s c test (tells (lvars_in s.heap.values) (length s.heap.values) (length s.heap.values) c.left c.right l r)

  pub compared-then : (test : Bool) → ((names : List ℕ) (top below : ℕ) (v w : Value) → Stands s.heap.values names top left v → Stands s.heap.values names below right w → IsTrue test ↔ (v ≡ w))
      → test ≡ true → behind s ≡ effect (instr.Equal a b e) s
  unfolding Tells
  compared-then test tells is = ap (λ t. if t then behind s else otherwise e s) (sym is) ∙ sym (compared test tells)

  pub compared-else : (test : Bool) → ((names : List ℕ) (top below : ℕ) (v w : Value) → Stands s.heap.values names top left v → Stands s.heap.values names below right w → IsTrue test ↔ (v ≡ w))
      → test ≡ false → otherwise e s ≡ effect (instr.Equal a b e) s
  unfolding Tells
  compared-else test tells is = ap (λ t. if t then behind s else otherwise e s) (sym is) ∙ sym (compared test tells)
