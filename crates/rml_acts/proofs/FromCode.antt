-- What an instruction may rest on, by what code keeps of it.
use Rattle.std.specs.Prelude.{ℕ, ◌≡◌, ◌*◌, ◌<◌, ◌≤◌, ◌==◌, Bool, true, false, not, ◌&&◌, nat_lt, nat_le, List, [], ◌∷◌, length, Option, Some, None, slice_get}
use Rattle.std.specs.List.{list_all}
use Rattle.std.proofs.Common.{inl, inr, ap, arith}
use Rattle.std.proofs.lemmas.Bool.{ltb-true, leb-true, eqb-true}
use Rattle.std.proofs.lemmas.Bool.Decides.{leb_tells}
use Rattle.std.proofs.lemmas.Option.{slice_get_past}
use Rattle.rml_value.specs.declared.value.TheConstants.{CONS}
use Rattle.rml_builtin.specs.declared.row.TheConstants.{ROWS}
use Rattle.rml_builtin.specs.declared.row.Row.{Row}
use Rattle.rml_builtin.specs.Table.{inputs_of, outputs_of}
use Rattle.rml_code.specs.declared.limits.TheConstants.{CON_PARTS, PER_TOKEN, WEIGHT, LENGTH}
use Rattle.rml_code.specs.declared.instructions.Word.{Word}
use Rattle.rml_code.specs.declared.instructions.Word.TheVariants as word
use Rattle.rml_code.specs.declared.instructions.Tag.{Tag}
use Rattle.rml_code.specs.declared.instructions.Tag.TheVariants as tag
use Rattle.rml_code.specs.declared.instructions.Case.{Case}
use Rattle.rml_code.specs.declared.instructions.Halt.{Halt}
use Rattle.rml_code.specs.declared.instructions.Halt.TheVariants as halt
use Rattle.rml_code.specs.declared.instructions.Instr.{Instr}
use Rattle.rml_code.specs.declared.instructions.Instr.TheVariants as instr
use Rattle.rml_code.specs.declared.constants.Constant.{Constant}
use Rattle.rml_code.specs.declared.listing.Listing.{Listing}
use Rattle.rml_code.specs.Fits.{word_fits, con_fits, is_counted, is_text, tag_fits, tags_differ, jump_fits, else_fits, case_fits, register_fits, registers_fit, row_fits, instr_fits, is_small, is_light}
use Rattle.rml_acts.specs.Fine.{AreBelow, IsLabel, IsFineWord, IsFineHalt, IsFineTag, AreFineCases, IsFineRow, IsFine}
use Rattle.rml_acts.specs.Kept.{IsQuietRow, PrintsNothing}
use Rattle.rml_acts.proofs.Effects.{both-true}

-- a text is there
text-there : (constants : List Constant) (i : ℕ) → is_text (slice_get constants i) ≡ true → i < length constants
text-there constants i h =
    elim (leb_tells (length constants) i) [
      | inl past ↦
          let none : is_text (slice_get constants i) ≡ false = ap is_text (slice_get_past constants i past.1) in
          absurd (cc)
      | inr inside ↦ inside.1
    ]

module _ (l : Listing) (small : is_small l ≡ true) (light : is_light l ≡ true) where
  few-blocks : length l.blocks ≤ PER_TOKEN * l.weight
  few-blocks =
      let a : Bool = nat_le 1 l.registers in
      let b : Bool = nat_le l.registers (PER_TOKEN * l.weight) in
      let c : Bool = nat_le (length l.constants) (PER_TOKEN * l.weight) in
      let last = both-true (a && b && c) (nat_le (length l.blocks) (PER_TOKEN * l.weight)) small in
      leb-true (length l.blocks) (PER_TOKEN * l.weight) last.1

  one-register : 0 < l.registers
  one-register =
      let a : Bool = nat_le 1 l.registers in
      let b : Bool = nat_le l.registers (PER_TOKEN * l.weight) in
      let c : Bool = nat_le (length l.constants) (PER_TOKEN * l.weight) in
      let three = both-true (a && b && c) (nat_le (length l.blocks) (PER_TOKEN * l.weight)) small in
      let two = both-true (a && b) c three.0 in
      let one = both-true a b two.0 in
      let least : 1 ≤ l.registers = leb-true 1 l.registers one.0 in
      omega (arith, least)

  low-weight : l.weight < WEIGHT
  low-weight = ltb-true l.weight WEIGHT (both-true (nat_le l.longest l.weight) (nat_lt l.weight WEIGHT) light).1

  label : (b : ℕ) → nat_lt b (length l.blocks) ≡ true → IsLabel b
  label b h =
      let inside : b < length l.blocks = ltb-true b (length l.blocks) h in
      omega (arith, inside, few-blocks, low-weight)

  below : (r : ℕ) → register_fits l r ≡ true → r < l.registers
  below r h = ltb-true r l.registers h

  all-below : (rs : List ℕ) → registers_fit l rs ≡ true → AreBelow l.registers rs
  all-below [] h = tt
  all-below (r ∷ rs) h = let t = both-true (register_fits l r) (registers_fit l rs) h in (below r t.0, all-below rs t.1)

  counted : (n : ℕ) → is_counted n ≡ true → n < LENGTH
  counted n h = ltb-true n LENGTH h

  few-parts : (c n : ℕ) → con_fits c n ≡ true → n < CON_PARTS
  few-parts c n h =
      let t = both-true (nat_le 1 n && nat_lt n CON_PARTS) (not ((c == CONS) && (n == 2))) h in
      ltb-true n CON_PARTS (both-true (nat_le 1 n) (nat_lt n CON_PARTS) t.0).1

  word-fine : (w : Word) → word_fits l w ≡ true → IsFineWord w
  word-fine (word.Int i) h = tt
  word-fine (word.Char c) h = tt
  word-fine (word.Rel b) h = label b (both-true (nat_le 2 b) (nat_lt b (length l.blocks)) h).1
  word-fine (word.Con c) h = tt

  tag-fine : (t : Tag) → tag_fits l t ≡ true → IsFineTag (length l.constants) t
  tag-fine (tag.Int i) h = tt
  tag-fine (tag.Char c) h = tt
  tag-fine (tag.Con c) h = tt
  tag-fine (tag.Text i) h = text-there l.constants i h

  cases-fine : (at : ℕ) (cases : List Case) → list_all (case_fits l at) cases ≡ true → AreFineCases (length l.constants) cases
  cases-fine at [] h = tt
  cases-fine at (k ∷ cases) h =
      let t = both-true (case_fits l at k) (list_all (case_fits l at) cases) h in
      (tag-fine k.tag (both-true (tag_fits l k.tag) (jump_fits l at k.block) t.0).0, cases-fine at cases t.1)

  halt-fine : (h : Halt) → IsFineHalt l.registers h
  halt-fine halt.Yes = tt
  halt-fine halt.Integer = one-register
  halt-fine halt.No = tt

  row-fine : (taken given : ℕ) (o : Option Row) → row_fits taken given o ≡ true → IsQuietRow o → IsFineRow taken given o
  row-fine taken given None h quiet = absurd (cc)
  row-fine taken given (Some row) h quiet =
      let t = both-true (length (inputs_of row) == taken) (length (outputs_of row) == given) h in
      (quiet, eqb-true (length (inputs_of row)) taken t.0, eqb-true (length (outputs_of row)) given t.1)

  pub instr-fine : (at : ℕ) (i : Instr) → instr_fits l at i ≡ true → PrintsNothing i → IsFine l.registers (length l.constants) i
  instr-fine at (instr.Move a b) h quiet = let t = both-true (register_fits l a) (register_fits l b) h in (below a t.0, below b t.1)
  instr-fine at (instr.Word a w) h quiet = let t = both-true (register_fits l a) (word_fits l w) h in (below a t.0, word-fine w t.1)
  instr-fine at (instr.Const a i) h quiet = let t = both-true (register_fits l a) (nat_lt i (length l.constants)) h in (below a t.0, ltb-true i (length l.constants) t.1)
  instr-fine at (instr.Field a b i) h quiet =
      let two = both-true (register_fits l a && register_fits l b) (nat_le 1 i) h in
      let t = both-true (register_fits l a) (register_fits l b) two.0 in
      (below a t.0, below b t.1)
  instr-fine at (instr.Con a c rs) h quiet =
      let two = both-true (register_fits l a && con_fits c (length rs)) (registers_fit l rs) h in
      let t = both-true (register_fits l a) (con_fits c (length rs)) two.0 in
      (below a t.0, few-parts c (length rs) t.1, all-below rs two.1)
  instr-fine at (instr.Tuple a rs) h quiet =
      let two = both-true (register_fits l a && registers_fit l rs) (is_counted (length rs)) h in
      let t = both-true (register_fits l a) (registers_fit l rs) two.0 in
      (below a t.0, counted (length rs) two.1, all-below rs t.1)
  instr-fine at (instr.Cons a b c) h quiet =
      let two = both-true (register_fits l a && register_fits l b) (register_fits l c) h in
      let t = both-true (register_fits l a) (register_fits l b) two.0 in
      (below a t.0, below b t.1, below c two.1)
  instr-fine at (instr.Save b rs) h quiet =
      let two = both-true (nat_lt b (length l.blocks) && registers_fit l rs) (is_counted (length rs)) h in
      let t = both-true (nat_lt b (length l.blocks)) (registers_fit l rs) two.0 in
      (label b t.0, counted (length rs) two.1, all-below rs t.1)
  instr-fine at (instr.Guard b rs) h quiet =
      let two = both-true (nat_lt b (length l.blocks) && registers_fit l rs) (is_counted (length rs)) h in
      let t = both-true (nat_lt b (length l.blocks)) (registers_fit l rs) two.0 in
      (label b t.0, counted (length rs) two.1, all-below rs t.1)
  instr-fine at (instr.Resume rs) h quiet = all-below rs h
  instr-fine at (instr.Retry rs) h quiet = all-below rs h
  instr-fine at instr.Drop h quiet = tt
  instr-fine at (instr.Builtin k rs ys e) h quiet =
      let row : Bool = row_fits (length rs) (length ys) (slice_get ROWS k) in
      let three = both-true (row && registers_fit l rs && registers_fit l ys) (else_fits l at e) h in
      let two = both-true (row && registers_fit l rs) (registers_fit l ys) three.0 in
      let t = both-true row (registers_fit l rs) two.0 in
      (row-fine (length rs) (length ys) (slice_get ROWS k) t.0 quiet, all-below rs t.1, all-below ys two.1)
  instr-fine at (instr.Equal a b e) h quiet =
      let two = both-true (register_fits l a && register_fits l b) (else_fits l at e) h in
      let t = both-true (register_fits l a) (register_fits l b) two.0 in
      (below a t.0, below b t.1)
  instr-fine at (instr.Switch a cases e) h quiet =
      let some : Bool = nat_le 1 (length cases) in
      let each : Bool = list_all (case_fits l at) cases in
      let four = both-true (register_fits l a && some && each && tags_differ cases) (else_fits l at e) h in
      let three = both-true (register_fits l a && some && each) (tags_differ cases) four.0 in
      let two = both-true (register_fits l a && some) each three.0 in
      let t = both-true (register_fits l a) some two.0 in
      (below a t.0, cases-fine at cases two.1)
  instr-fine at (instr.Goto b) h quiet = tt
  instr-fine at (instr.Call b) h quiet = tt
  instr-fine at (instr.CallRegister a) h quiet = below a h
  instr-fine at instr.Answer h quiet = tt
  instr-fine at instr.Fail h quiet = tt
  instr-fine at (instr.Halt e) h quiet = halt-fine e
