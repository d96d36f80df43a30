-- The text of code: how many registers there are, the constants, a line each, how many blocks, the block of the first turn, and then each
-- block with its instructions, a line each, two blanks deeper. The cases of a `switch` stand two blanks deeper than it. A register is `r`
-- and its number; blocks, constants and constructors are numbers.
use Rattle.std.specs.Prelude.{ℕ, suc, List, [], ◌∷◌, ◌++◌, length, Option, Some, None, slice_get, codes}
use Rattle.std.specs.List.{flat_map}
use Rattle.std.specs.Fmt.{decimal, signed_decimal}
use Rattle.rml_escapes.specs.Escapes.{quoted}
use Rattle.rml_builtin.specs.declared.row.TheConstants.{ROWS}
use Rattle.rml_builtin.specs.declared.row.Row.{Row}
use Rattle.rml_builtin.specs.Table.{name_of}
use Rattle.rml_code.specs.declared.instructions.Word.{Word}
use Rattle.rml_code.specs.declared.instructions.Word.TheVariants as word
use Rattle.rml_code.specs.declared.instructions.Else.{Else}
use Rattle.rml_code.specs.declared.instructions.Else.TheVariants as else
use Rattle.rml_code.specs.declared.instructions.Tag.{Tag}
use Rattle.rml_code.specs.declared.instructions.Tag.TheVariants as tag
use Rattle.rml_code.specs.declared.instructions.Case.{Case}
use Rattle.rml_code.specs.declared.instructions.Halt.{Halt}
use Rattle.rml_code.specs.declared.instructions.Halt.TheVariants as halt
use Rattle.rml_code.specs.declared.instructions.Instr.{Instr}
use Rattle.rml_code.specs.declared.instructions.Instr.TheVariants as instr
use Rattle.rml_code.specs.declared.constants.Part.{Part}
use Rattle.rml_code.specs.declared.constants.Part.TheVariants as part
use Rattle.rml_code.specs.declared.constants.Constant.{Constant}
use Rattle.rml_code.specs.declared.constants.Constant.TheVariants as constant
use Rattle.rml_code.specs.declared.listing.Listing.{Listing}

-- ---- words of a line

-- a number behind its word, and a signed one
abbrev pub numbered : List ℕ → ℕ → List ℕ
numbered name n = name ++ 32 ∷ decimal n

abbrev pub register_text : ℕ → List ℕ
register_text r = codes " r" ++ decimal r

abbrev pub registers_text : List ℕ → List ℕ
registers_text rs = flat_map register_text rs

abbrev pub word_text : Word → List ℕ
word_text (word.Int i) = codes "int " ++ signed_decimal i
word_text (word.Char c) = numbered (codes "char") c
word_text (word.Rel b) = numbered (codes "rel") b
word_text (word.Con c) = numbered (codes "con") c

abbrev pub tag_text : Tag → List ℕ
tag_text (tag.Int i) = codes "int " ++ signed_decimal i
tag_text (tag.Char c) = numbered (codes "char") c
tag_text (tag.Con c) = numbered (codes "con") c
tag_text (tag.Text i) = numbered (codes "constant") i

abbrev pub else_text : Else → List ℕ
else_text else.Fail = codes "else fail"
else_text (else.Block b) = numbered (codes "else") b

abbrev pub row_name : Option Row → List ℕ
row_name None = []
row_name (Some row) = name_of row

abbrev pub halt_text : Halt → List ℕ
halt_text halt.Yes = codes "yes"
halt_text halt.Integer = codes "yes r0"
halt_text halt.No = codes "no"

-- ---- lines

-- two blanks deeper for each
abbrev pub line : List ℕ → List ℕ
line text = text ++ 10 ∷ []

abbrev pub deeper : List ℕ → List ℕ
deeper text = codes "  " ++ line text

abbrev pub case_line : Case → List ℕ
case_line k = codes "  " ++ deeper (tag_text k.tag ++ codes " -> " ++ decimal k.block)

abbrev pub instr_lines : Instr → List ℕ
instr_lines (instr.Move a b) = deeper (codes "move" ++ register_text a ++ register_text b)
instr_lines (instr.Word a w) = deeper (codes "word" ++ register_text a ++ 32 ∷ word_text w)
instr_lines (instr.Const a i) = deeper (codes "const" ++ register_text a ++ 32 ∷ decimal i)
instr_lines (instr.Field a b i) = deeper (codes "field" ++ register_text a ++ register_text b ++ 32 ∷ decimal i)
instr_lines (instr.Con a c rs) = deeper (codes "con" ++ register_text a ++ 32 ∷ decimal c ++ registers_text rs)
instr_lines (instr.Tuple a rs) = deeper (codes "tuple" ++ register_text a ++ registers_text rs)
instr_lines (instr.Cons a b c) = deeper (codes "cons" ++ register_text a ++ register_text b ++ register_text c)
instr_lines (instr.Save b rs) = deeper (numbered (codes "save") b ++ registers_text rs)
instr_lines (instr.Guard b rs) = deeper (numbered (codes "guard") b ++ registers_text rs)
instr_lines (instr.Resume rs) = deeper (codes "resume" ++ registers_text rs)
instr_lines (instr.Retry rs) = deeper (codes "retry" ++ registers_text rs)
instr_lines instr.Drop = deeper (codes "drop")
instr_lines (instr.Builtin k rs ys e) = deeper (codes "builtin " ++ row_name (slice_get ROWS k) ++ registers_text rs ++ codes " =>" ++ registers_text ys ++ 32 ∷ else_text e)
instr_lines (instr.Equal a b e) = deeper (codes "equal" ++ register_text a ++ register_text b ++ 32 ∷ else_text e)
instr_lines (instr.Switch a cases e) = deeper (codes "switch" ++ register_text a) ++ flat_map case_line cases ++ codes "  " ++ deeper (else_text e)
instr_lines (instr.Goto b) = deeper (numbered (codes "goto") b)
instr_lines (instr.Call b) = deeper (numbered (codes "call") b)
instr_lines (instr.CallRegister a) = deeper (codes "callr" ++ register_text a)
instr_lines instr.Answer = deeper (codes "answer")
instr_lines instr.Fail = deeper (codes "fail")
instr_lines (instr.Halt h) = deeper (codes "halt " ++ halt_text h)

-- ---- constants

abbrev pub part_text : Part → List ℕ
part_text (part.Word w) = word_text w
part_text (part.Constant i) = numbered (codes "constant") i

abbrev pub parts_text : List Part → List ℕ
parts_text parts = flat_map (λ (p : Part). 32 ∷ part_text p) parts

abbrev pub constant_text : Constant → List ℕ
constant_text (constant.Text bytes) = codes "text " ++ quoted bytes
constant_text (constant.Con c parts) = numbered (codes "con") c ++ parts_text parts
constant_text (constant.Tuple parts) = codes "tuple" ++ parts_text parts
constant_text (constant.Cons head tail) = codes "cons" ++ (32 ∷ part_text head) ++ 32 ∷ part_text tail

-- ---- the whole

-- each with its number, from this one on
abbrev pub lines_from : {A : Type 0} → (ℕ → A → List ℕ) → ℕ → List A → List ℕ
lines_from f n [] = []
lines_from f n (x ∷ xs) = f n x ++ lines_from f (suc n) xs

abbrev pub constant_line : ℕ → Constant → List ℕ
constant_line i k = line (numbered (codes "constant") i ++ 32 ∷ constant_text k)

abbrev pub block_lines : ℕ → List Instr → List ℕ
block_lines b instrs = line (numbered (codes "block") b) ++ flat_map instr_lines instrs

abbrev pub text_of : Listing → List ℕ
text_of l =
    line (numbered (codes "registers") l.registers)
    ++ line (numbered (codes "constants") (length l.constants))
    ++ lines_from constant_line 0 l.constants
    ++ line (numbered (codes "blocks") (length l.blocks))
    ++ line (numbered (codes "main") l.main)
    ++ lines_from block_lines 0 l.blocks
