-- A stretch of a run: what it printed, made and took, and where the run goes on behind it.
use Rattle.std.specs.Prelude.{ℕ, suc, ◌+◌, max, ℤ, List, [], ◌++◌, Option, Some, None}
use Rattle.rml_heap.specs.HeapState.{cells_used}
use Rattle.rml_code.specs.declared.state.State.{State}

-- how a run ends; at an end Full so many cells are in use, and so many more were to be handed out
pub data End : Type 0 where
  Answer : Option ℤ → End
  Failure : End
  Full : (used need : ℕ) → End
  Wrong : End

-- where it goes on: with the instruction behind, with a block directly, or with a block by a turn
pub data Next : Type 0 where
  Behind : Next
  Jump : ℕ → Next
  Turn : ℕ → Next
  Stop : End → Next

-- where it goes on and from what state, the bytes that it printed, the cells that built-ins made, the other cells that were handed out, the
-- greatest number of cells that were in use, and the turns
pub record Stretch : Type 0 where
  pub next : Next
  pub state : State
  pub text : List ℕ
  pub made : ℕ
  pub weighed : ℕ
  pub cells : ℕ
  pub turns : ℕ

-- nothing but to go on there
abbrev pub goes : Next → State → Stretch
goes next s = record { next = next; state = s; text = []; made = 0; weighed = 0; cells = cells_used s.heap; turns = 0 }

-- what has no meaning
abbrev pub wrong : State → Stretch
wrong s = goes (Stop Wrong) s

-- goes on with what is there; where there is nothing the run is Wrong
abbrev pub with_known : {A : Type 0} → Option A → (A → Stretch) → State → Stretch
with_known None go s = wrong s
with_known (Some x) go s = go x

-- one stretch, and the next one from its state
abbrev pub joined : Stretch → Stretch → Stretch
joined a b = record b { text = a.text ++ b.text; made = a.made + b.made; weighed = a.weighed + b.weighed; cells = max a.cells b.cells; turns = a.turns + b.turns }

-- the cells that were in use before it are counted
abbrev pub counting : State → Stretch → Stretch
counting s a = record a { cells = max (cells_used s.heap) a.cells }

-- a turn is made before it
abbrev pub after_turn : Stretch → Stretch
after_turn a = record a { turns = suc a.turns }

-- ---- what follows a stretch, where it goes on so

-- the instructions behind it
abbrev pub behind_at : Next → Stretch → (State → Stretch) → Stretch
behind_at Behind a go = joined a (go a.state)
behind_at (Jump b) a go = a
behind_at (Turn b) a go = a
behind_at (Stop e) a go = a

abbrev pub then_behind : Stretch → (State → Stretch) → Stretch
then_behind a go = behind_at a.next a go

-- a block, directly
abbrev pub jump_at : Next → Stretch → (ℕ → State → Stretch) → Stretch
jump_at Behind a go = a
jump_at (Jump b) a go = joined a (go b a.state)
jump_at (Turn b) a go = a
jump_at (Stop e) a go = a

abbrev pub then_jump : Stretch → (ℕ → State → Stretch) → Stretch
then_jump a go = jump_at a.next a go

-- a block, by a turn
abbrev pub turn_at : Next → Stretch → (ℕ → State → Stretch) → Stretch
turn_at Behind a go = a
turn_at (Jump b) a go = a
turn_at (Turn b) a go = joined a (go b a.state)
turn_at (Stop e) a go = a

abbrev pub then_turn : Stretch → (ℕ → State → Stretch) → Stretch
then_turn a go = turn_at a.next a go
