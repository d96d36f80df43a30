-- What code keeps, each a test over its listing: numbers lead into their tables, and a direct jump to a later block; blocks end in what may
-- end them; tags are of one kind and different; all of it is small.
use Rattle.std.specs.Prelude.{ℕ, suc, ◌*◌, Bool, true, false, not, ◌&&◌, ◌==◌, nat_lt, nat_le, List, [], ◌∷◌, length, Option, Some, None, slice_get}
use Rattle.std.specs.List.{list_all}
use Rattle.std.specs.Ordering.{int_eq}
use Rattle.rml_base.specs.Bytes.{are_bytes}
use Rattle.rml_value.specs.declared.value.TheConstants.{CONS}
use Rattle.rml_value.specs.Range.{is_integer}
use Rattle.rml_builtin.specs.declared.row.TheConstants.{ROWS}
use Rattle.rml_builtin.specs.declared.row.Row.{Row}
use Rattle.rml_builtin.specs.Table.{inputs_of, outputs_of}
use Rattle.rml_code.specs.declared.limits.TheConstants.{CON_PARTS, PER_TOKEN, WEIGHT, LENGTH}
use Rattle.rml_code.specs.declared.instructions.Word.{Word}
use Rattle.rml_code.specs.declared.instructions.Word.TheVariants as word
use Rattle.rml_code.specs.declared.instructions.Else.{Else}
use Rattle.rml_code.specs.declared.instructions.Else.TheVariants as else
use Rattle.rml_code.specs.declared.instructions.Tag.{Tag}
use Rattle.rml_code.specs.declared.instructions.Tag.TheVariants as tag
use Rattle.rml_code.specs.declared.instructions.Case.{Case}
use Rattle.rml_code.specs.declared.instructions.Halt.{Halt}
use Rattle.rml_code.specs.declared.instructions.Halt.TheVariants as halt
use Rattle.rml_code.specs.declared.instructions.Instr.{Instr}
use Rattle.rml_code.specs.declared.instructions.Instr.TheVariants as instr
use Rattle.rml_code.specs.declared.constants.Part.{Part}
use Rattle.rml_code.specs.declared.constants.Part.TheVariants as part
use Rattle.rml_code.specs.declared.constants.Constant.{Constant}
use Rattle.rml_code.specs.declared.constants.Constant.TheVariants as constant
use Rattle.rml_code.specs.declared.listing.Listing.{Listing}

-- each with its number, from this one on
abbrev pub all_from : {A : Type 0} → (ℕ → A → Bool) → ℕ → List A → Bool
all_from test n [] = true
all_from test n (x ∷ xs) = test n x && all_from test (suc n) xs

-- ---- words and constants

-- a relation's entry block comes behind the two ends of a run
abbrev pub entry_fits : Listing → ℕ → Bool
entry_fits l b = nat_le 2 b && nat_lt b (length l.blocks)

abbrev pub word_fits : Listing → Word → Bool
word_fits l (word.Int i) = is_integer i
word_fits l (word.Char c) = nat_lt c 256
word_fits l (word.Rel b) = entry_fits l b
word_fits l (word.Con c) = true

-- a constructor has arguments in a block, and is not `::`
abbrev pub con_fits : ℕ → ℕ → Bool
con_fits c n = nat_le 1 n && nat_lt n CON_PARTS && not ((c == CONS) && (n == 2))

-- so many are counted in 32 bits, with all that a frame keeps besides
abbrev pub is_counted : ℕ → Bool
is_counted n = nat_lt n LENGTH

-- constants share earlier ones
abbrev pub part_fits : Listing → ℕ → Part → Bool
part_fits l i (part.Word w) = word_fits l w
part_fits l i (part.Constant j) = nat_lt j i

abbrev pub constant_fits : Listing → ℕ → Constant → Bool
constant_fits l i (constant.Text bytes) = are_bytes bytes && is_counted (length bytes)
constant_fits l i (constant.Con c parts) = con_fits c (length parts) && list_all (part_fits l i) parts
constant_fits l i (constant.Tuple parts) = list_all (part_fits l i) parts && is_counted (length parts)
constant_fits l i (constant.Cons head tail) = part_fits l i head && part_fits l i tail

abbrev pub constants_fit : Listing → Bool
constants_fit l = all_from (constant_fits l) 0 l.constants

-- ---- tags

abbrev pub is_text : Option Constant → Bool
is_text (Some (constant.Text bytes)) = true
is_text _ = false

abbrev pub tag_fits : Listing → Tag → Bool
tag_fits l (tag.Int i) = is_integer i
tag_fits l (tag.Char c) = nat_lt c 256
tag_fits l (tag.Con c) = true
tag_fits l (tag.Text i) = is_text (slice_get l.constants i)

abbrev pub are_alike : Tag → Tag → Bool
are_alike (tag.Int i) (tag.Int j) = true
are_alike (tag.Char c) (tag.Char d) = true
are_alike (tag.Con c) (tag.Con d) = true
are_alike (tag.Text i) (tag.Text j) = true
are_alike _ _ = false

abbrev pub are_equal : Tag → Tag → Bool
are_equal (tag.Int i) (tag.Int j) = int_eq i j
are_equal (tag.Char c) (tag.Char d) = c == d
are_equal (tag.Con c) (tag.Con d) = c == d
are_equal (tag.Text i) (tag.Text j) = i == j
are_equal _ _ = false

-- of the same kind as this one, and another
abbrev pub is_beside : Tag → Case → Bool
is_beside t k = are_alike t k.tag && not (are_equal t k.tag)

abbrev pub tags_differ : List Case → Bool
tags_differ [] = true
tags_differ (k ∷ ks) = list_all (is_beside k.tag) ks && tags_differ ks

-- ---- instructions

-- a direct jump goes to a greater block
abbrev pub jump_fits : Listing → ℕ → ℕ → Bool
jump_fits l from to = nat_lt from to && nat_lt to (length l.blocks)

abbrev pub else_fits : Listing → ℕ → Else → Bool
else_fits l b else.Fail = true
else_fits l b (else.Block to) = jump_fits l b to

abbrev pub case_fits : Listing → ℕ → Case → Bool
case_fits l b k = tag_fits l k.tag && jump_fits l b k.block

abbrev pub register_fits : Listing → ℕ → Bool
register_fits l r = nat_lt r l.registers

abbrev pub registers_fit : Listing → List ℕ → Bool
registers_fit l rs = list_all (register_fits l) rs

abbrev pub row_fits : ℕ → ℕ → Option Row → Bool
row_fits taken given None = false
row_fits taken given (Some row) = (length (inputs_of row) == taken) && (length (outputs_of row) == given)

-- in the block of this number
abbrev pub instr_fits : Listing → ℕ → Instr → Bool
instr_fits l at (instr.Move a b) = register_fits l a && register_fits l b
instr_fits l at (instr.Word a w) = register_fits l a && word_fits l w
instr_fits l at (instr.Const a i) = register_fits l a && nat_lt i (length l.constants)
instr_fits l at (instr.Field a b i) = register_fits l a && register_fits l b && nat_le 1 i
instr_fits l at (instr.Con a c rs) = register_fits l a && con_fits c (length rs) && registers_fit l rs
instr_fits l at (instr.Tuple a rs) = register_fits l a && registers_fit l rs && is_counted (length rs)
instr_fits l at (instr.Cons a b c) = register_fits l a && register_fits l b && register_fits l c
instr_fits l at (instr.Save b rs) = nat_lt b (length l.blocks) && registers_fit l rs && is_counted (length rs)
instr_fits l at (instr.Guard b rs) = nat_lt b (length l.blocks) && registers_fit l rs && is_counted (length rs)
instr_fits l at (instr.Resume rs) = registers_fit l rs
instr_fits l at (instr.Retry rs) = registers_fit l rs
instr_fits l at instr.Drop = true
instr_fits l at (instr.Builtin k rs ys e) = row_fits (length rs) (length ys) (slice_get ROWS k) && registers_fit l rs && registers_fit l ys && else_fits l at e
instr_fits l at (instr.Equal a b e) = register_fits l a && register_fits l b && else_fits l at e
instr_fits l at (instr.Switch a cases e) = register_fits l a && nat_le 1 (length cases) && list_all (case_fits l at) cases && tags_differ cases && else_fits l at e
instr_fits l at (instr.Goto b) = jump_fits l at b
instr_fits l at (instr.Call b) = nat_lt b (length l.blocks)
instr_fits l at (instr.CallRegister a) = register_fits l a
instr_fits l at instr.Answer = true
instr_fits l at instr.Fail = true
instr_fits l at (instr.Halt h) = true

-- ---- blocks

abbrev pub is_last : Instr → Bool
is_last (instr.Switch a cases e) = true
is_last (instr.Goto b) = true
is_last (instr.Call b) = true
is_last (instr.CallRegister a) = true
is_last instr.Answer = true
is_last instr.Fail = true
is_last (instr.Halt h) = true
is_last _ = false

-- one of these stands last, and none before
abbrev pub block_ends : List Instr → Bool
block_ends [] = false
block_ends (i ∷ []) = is_last i
block_ends (i ∷ j ∷ rest) = not (is_last i) && block_ends (j ∷ rest)

abbrev pub block_fits : Listing → ℕ → List Instr → Bool
block_fits l at instrs = list_all (instr_fits l at) instrs && block_ends instrs

abbrev pub blocks_fit : Listing → Bool
blocks_fit l = all_from (block_fits l) 0 l.blocks

-- `halt yes` or `halt yes r0`, and `halt no`
abbrev pub is_yes : Halt → Bool
is_yes halt.Yes = true
is_yes halt.Integer = true
is_yes halt.No = false

abbrev pub halts_so : (Halt → Bool) → Option (List Instr) → Bool
halts_so test (Some (instr.Halt h ∷ [])) = test h
halts_so test _ = false

abbrev pub ends_fit : Listing → Bool
ends_fit l = halts_so is_yes (slice_get l.blocks 0) && halts_so (λ h. not (is_yes h)) (slice_get l.blocks 1)

-- ---- sizes

-- there is a register, and no more registers, constants and blocks each than `PER_TOKEN` for what the weight counts
abbrev pub is_small : Listing → Bool
is_small l = nat_le 1 l.registers && nat_le l.registers (PER_TOKEN * l.weight) && nat_le (length l.constants) (PER_TOKEN * l.weight) && nat_le (length l.blocks) (PER_TOKEN * l.weight)

-- no rule is longer than all of them
abbrev pub is_light : Listing → Bool
is_light l = nat_le l.longest l.weight && nat_lt l.weight WEIGHT
