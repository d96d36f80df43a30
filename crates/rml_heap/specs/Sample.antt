-- A few cells, with one block of each kind, for the examples of what is read.
use Rattle.std.specs.Prelude.{ℕ, List, [], ◌∷◌, pos}
use Rattle.rml_heap.specs.declared.cell.Cell.{Cell}
use Rattle.rml_heap.specs.declared.cell.TheConstants.{INT, CHAR, REL, BLOCK, CON, TEXT, CON_BLOCK, TUPLE, CONS_BLOCK, LVAR, UNSET, VECTOR}

abbrev pub cell : ℕ → ℕ → Cell
cell kind n = record { kind = kind; number = pos n }

abbrev pub block : ℕ → Cell
block at = cell BLOCK at

abbrev pub sample : List Cell
sample =
    -- 0: the text "ab"; 2: ["ab"]; 5: an unset variable; 7: a vector of 7 and that variable
    cell TEXT 2
    ∷ cell INT 25185
    ∷ cell CONS_BLOCK 0
    ∷ block 0
    ∷ cell CON 0
    ∷ cell LVAR 0
    ∷ cell UNSET 0
    ∷ cell VECTOR 2
    ∷ cell INT 7
    ∷ block 5
    -- 10: SOME of ["ab"]; 12: a pair of a character and the first relation
    ∷ cell CON_BLOCK 5242881
    ∷ block 2
    ∷ cell TUPLE 2
    ∷ cell CHAR 65
    ∷ cell REL 2
    -- 15: a `::` as a constructor's block; 18: a text with a byte too many; 20: a block that has itself as a part
    ∷ cell CON_BLOCK 1048578
    ∷ cell CON 0
    ∷ cell CON 0
    ∷ cell TEXT 1
    ∷ cell INT 25185
    ∷ cell TUPLE 1
    ∷ block 20
    ∷ []
