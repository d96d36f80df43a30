-- Turns: a block to its end, with the blocks that it goes on to directly. A direct jump goes to a block of a greater number, so a turn goes
-- through each block at most once, and ends.
use Rattle.std.specs.Prelude.{ℕ, zero, suc, List, [], ◌∷◌, length, slice_get}
use Rattle.rml_code.specs.declared.instructions.Instr.{Instr}
use Rattle.rml_code.specs.declared.state.State.{State}
use Rattle.rml_code.specs.Stretch.{Turn, Stretch, goes, wrong, with_known, counting, after_turn, then_behind, then_jump, then_turn}
use Rattle.rml_code.specs.Effects.{effect}

-- instructions one after another; to come to no end is Wrong
abbrev pub exec : List Instr → State → Stretch
exec [] s = wrong s
exec (i ∷ rest) s = counting s (then_behind (effect i s) (exec rest))

-- the block of a number
abbrev pub enters : List (List Instr) → ℕ → State → Stretch
enters blocks b s = with_known (slice_get blocks b) (λ instrs. exec instrs s) s

-- and those that it goes on to directly, through at most so many
abbrev pub hops : List (List Instr) → ℕ → ℕ → State → Stretch
hops blocks zero b s = wrong s
hops blocks (suc n) b s = then_jump (enters blocks b s) (hops blocks n)

abbrev pub turn : List (List Instr) → ℕ → State → Stretch
turn blocks b s = hops blocks (length blocks) b s

-- at most so many turns, the first one to this block
abbrev pub turns : List (List Instr) → ℕ → ℕ → State → Stretch
turns blocks zero b s = goes (Turn b) s
turns blocks (suc n) b s = after_turn (then_turn (turn blocks b s) (turns blocks n))
