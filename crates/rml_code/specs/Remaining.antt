-- What remains of a run, from the middle of a block on: its instructions that are still to come, blocks that are gone on to directly, at most
-- so many, and turns. It is what comes of the first instruction, and then what remains.
use Rattle.std.specs.Prelude.{ℕ, ◌+◌, nat_le, if◌then◌else◌, List, length}
use Rattle.rml_base.specs.Run.{Run, Rest, Full, bare, step, prepend, make, weigh}
use Rattle.rml_heap.specs.HeapState.{cells_used}
use Rattle.rml_code.specs.declared.instructions.Instr.{Instr}
use Rattle.rml_code.specs.declared.state.State.{State}
use Rattle.rml_code.specs.Stretch.{Next, Behind, Jump, Turn, Stop, Stretch, then_jump, then_turn}
use Rattle.rml_code.specs.Turns.{exec, hops, turns}
use Rattle.rml_code.specs.Runs.{ran, run_of, inner_end}

-- a stretch as a run
abbrev pub shown : Stretch → Run
shown a = run_of (ran a)

-- a run behind a stretch
abbrev pub behind_it : Stretch → Run → Run
behind_it a r = prepend a.text (make a.made (weigh a.weighed r))

module _ (blocks : List (List Instr)) where
  -- these instructions, and so many blocks directly
  abbrev pub remains : ℕ → List Instr → State → Rest
  remains k instrs s n = shown (then_turn (then_jump (exec instrs s) (hops blocks k)) (turns blocks n))

  -- a block directly, which is one of so many
  abbrev pub at_block : ℕ → ℕ → State → Rest
  at_block k b s n = shown (then_turn (hops blocks k b s) (turns blocks n))

  -- a block by a turn, if there is one left
  abbrev pub at_turn : ℕ → State → Rest
  at_turn b s = step (at_block (length blocks) b s)

  -- what follows an instruction
  abbrev pub follows : ℕ → List Instr → Next → State → Rest
  follows k rest Behind s n = remains k rest s n
  follows k rest (Jump b) s n = at_block k b s n
  follows k rest (Turn b) s n = at_turn b s n
  follows k rest (Stop e) s n = bare (inner_end e)

  -- all that comes of what an instruction does
  abbrev pub comes_of : ℕ → List Instr → Stretch → Rest
  comes_of k rest a n = behind_it a (follows k rest a.next a.state n)

-- so many cells are handed out and weighed, or the run ends
abbrev pub weigh_if_room : ℕ → State → Run → Run
weigh_if_room n s r = if nat_le (cells_used s.heap + n) s.heap.limit then weigh n r else bare Full
