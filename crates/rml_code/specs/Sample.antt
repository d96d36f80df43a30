-- Code written by hand, for the examples of what runs give. Its main relation pushes a failure frame, calls a relation that answers what it
-- is given, adds to the answer, prints a text, and fails; the failure frame's block answers 7.
use Rattle.std.specs.Prelude.{List, [], ◌∷◌, Some, pos, codes}
use Rattle.rml_code.specs.declared.constants.Constant.TheVariants as constant
use Rattle.rml_code.specs.declared.instructions.Instr.{Instr}
use Rattle.rml_code.specs.declared.instructions.Instr.TheVariants as instr
use Rattle.rml_code.specs.declared.instructions.Word.TheVariants as word
use Rattle.rml_code.specs.declared.instructions.Else.TheVariants as else
use Rattle.rml_code.specs.declared.instructions.Halt.TheVariants as halt
use Rattle.rml_code.specs.declared.listing.Listing.{Listing}
use Rattle.rml_code.specs.Stretch as stretch
use Rattle.rml_code.specs.Runs.{Ran, Ended, Cut}

abbrev pub sample_blocks : List (List Instr)
sample_blocks =
    -- 0 and 1: the ends
    (instr.Halt halt.Integer ∷ [])
    ∷ (instr.Halt halt.No ∷ [])
    -- 2: main
    ∷ (instr.Guard 4 [] ∷ instr.Word 1 (word.Int (pos 40)) ∷ instr.Save 3 (1 ∷ []) ∷ instr.Word 0 (word.Int (pos 2)) ∷ instr.Call 5 ∷ [])
    -- 3: the answer
    ∷ (instr.Resume (1 ∷ []) ∷ instr.Builtin 0 (0 ∷ 1 ∷ []) (0 ∷ []) else.Fail ∷ instr.Const 1 0 ∷ instr.Builtin 27 (1 ∷ []) [] else.Fail ∷ instr.Fail ∷ [])
    -- 4: the failure
    ∷ (instr.Retry [] ∷ instr.Word 0 (word.Int (pos 7)) ∷ instr.Answer ∷ [])
    -- 5: the other relation
    ∷ (instr.Answer ∷ [])
    ∷ []

abbrev pub sample : Listing
sample = record { registers = 2; constants = constant.Text (codes "hi") ∷ []; blocks = sample_blocks; main = 2; longest = 1; weight = 1 }

-- with five turns it ends; 10 start cells, and two frames
abbrev pub whole : Ran
whole = record { outcome = Ended (stretch.Answer (Some (pos 7))); text = codes "hi"; turns = 5; cells = 19; made = 0; weighed = 9 }

-- with three it is cut where it has failed
abbrev pub cut_short : Ran
cut_short = record { outcome = Cut; text = codes "hi"; turns = 3; cells = 19; made = 0; weighed = 9 }

-- with a cell less the second frame does not fit
abbrev pub too_narrow : Ran
too_narrow = record { outcome = Ended (stretch.Full 15 4); text = []; turns = 1; cells = 15; made = 0; weighed = 5 }

-- within seven cells the last failure frame does not fit
abbrev pub not_opened : Ran
not_opened = record { outcome = Ended (stretch.Full 3 5); text = []; turns = 0; cells = 3; made = 0; weighed = 0 }
