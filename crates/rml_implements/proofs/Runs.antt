-- How runs of continuation form and of code go on together.
use Rattle.std.proofs.Common.{◌≡◌, ℕ, zero, suc, ◌+◌, ◌-◌, ◌<◌, ◌≤◌, Bool, true, false, List, length, Some, refl, sym, subst, arith}
use Rattle.std.specs.Prelude.{if◌then◌else◌, nat_le, slice_get}
use Rattle.std.proofs.lemmas.Bool.{leb-true}
use Rattle.std.proofs.lemmas.Option.{slice_get_within}
use Rattle.rml_base.specs.Run.{Rest, Full, bare, step, weigh}
use Rattle.rml_simulation.specs.Simulates.{Credit, nothing, Simulates}
use Rattle.rml_simulation.proofs.Callers.{both_step, equal, new_full, new_weigh, old_weigh, weaken}
use Rattle.rml_heap.specs.HeapState.{cells_used}
use Rattle.rml_code.specs.declared.instructions.Instr.{Instr}
use Rattle.rml_code.specs.declared.state.State.{State}
use Rattle.rml_code.specs.Remaining.{remains, at_block, at_turn, weigh_if_room}
use Rattle.rml_code.proofs.Callers.{remains-block}
use Rattle.rml_implements.specs.World.{credit}

-- runs may be replaced by equal ones
pub along : (i : ℕ) (c : Credit) (f f' g g' : Rest) → ((n : ℕ) → f' n ≡ f n) → ((n : ℕ) → g' n ≡ g n) → Simulates i c f g → Simulates i c f' g'
along i c f f' g g' e d u = equal i c f f' g g' (λ n. sym (e n)) (λ m le. sym (d m)) u

pub along-new : (i : ℕ) (c : Credit) (f g g' : Rest) → ((n : ℕ) → g' n ≡ g n) → Simulates i c f g → Simulates i c f g'
along-new i c f g g' d u = along i c f f g g' (λ n. refl) d u

pub along-old : (i : ℕ) (c : Credit) (f f' g : Rest) → ((n : ℕ) → f' n ≡ f n) → Simulates i c f g → Simulates i c f' g
along-old i c f f' g d u = along i c f f' g g d (λ n. refl) u

-- with something left to spend, nothing has to be
pub spend : (i j spare less : ℕ) (f g : Rest) → j ≤ i → less ≤ spare → Simulates i (credit less) f g → Simulates j (credit spare) f g
spend i j spare less f g le l u = weaken i j (credit less) (credit spare) f g le (record { steps = omega arith; made = omega arith; weighed = l }) u

-- a path's entry
pub entry-weighs : (i w : ℕ) (f g : Rest) → Simulates i (credit w) f g → Simulates i nothing (λ n. weigh w (f n)) g
entry-weighs i w f g u =
    let e : w ≡ w + 0 = omega arith in
    old_weigh i nothing w f g (subst (λ x. Simulates i (credit x) f g) e u)

-- cells are handed out where the limit allows it
pub room-there : (need : ℕ) (t : State) (i spare : ℕ) (f g : Rest) → need ≤ spare → (cells_used t.heap + need ≤ t.heap.limit → Simulates i (credit (spare - need)) f g) → Simulates i (credit spare) f (λ n. weigh_if_room need t (g n))
room-there need t i spare f g le u = pick (nat_le (cells_used t.heap + need) t.heap.limit) refl
  where
    pick : (b : Bool) → nat_le (cells_used t.heap + need) t.heap.limit ≡ b → Simulates i (credit spare) f (λ n. if b then weigh need (g n) else bare Full)
    pick true e = new_weigh i (credit spare) need f g le (u (leb-true (cells_used t.heap + need) t.heap.limit e))
    pick false e = new_full i (credit spare) f

module _ (blocks : List (List Instr)) where
  -- a turn of the code is a step
  pub turn-there : (i spare : ℕ) (f : Rest) (b : ℕ) (t : State) → ((j : ℕ) → j < i → Simulates j nothing f (at_block blocks (length blocks) b t)) → Simulates i (credit spare) (step f) (at_turn blocks b t)
  turn-there i spare f b t u =
      both_step i (credit spare) f (at_block blocks (length blocks) b t) (λ j lt. spend j j spare 0 f (at_block blocks (length blocks) b t) (omega arith) (omega arith) (u j lt))

  -- a direct jump
  pub jump-there : (i : ℕ) (c : Credit) (f : Rest) (k at to : ℕ) (code : List Instr) (t : State) → length blocks ≤ k + suc at → at < to → slice_get blocks to ≡ Some code
      → ((less : ℕ) → length blocks ≤ less + suc to → Simulates i c f (remains blocks less code t)) → Simulates i c f (at_block blocks k to t)
  jump-there i c f zero at to code t le lt there go = let within : to < length blocks = slice_get_within blocks to code there in absurd (omega (arith, le, lt, within))
  jump-there i c f (suc k) at to code t le lt there go =
      along-new i c f (remains blocks k code t) (at_block blocks (suc k) to t) (λ n. remains-block blocks k to code t n there) (go k (omega (arith, le, lt)))

  -- a block by a turn
  pub block-there : (i : ℕ) (c : Credit) (f : Rest) (to : ℕ) (code : List Instr) (t : State) → slice_get blocks to ≡ Some code
      → ((k : ℕ) → length blocks ≤ k + suc to → Simulates i c f (remains blocks k code t)) → Simulates i c f (at_block blocks (length blocks) to t)
  block-there i c f to code t there go = pick (length blocks) refl
    where
      within : to < length blocks
      within = slice_get_within blocks to code there

      pick : (m : ℕ) → length blocks ≡ m → Simulates i c f (at_block blocks m to t)
      pick zero e = absurd (omega (arith, e, within))
      pick (suc k) e = along-new i c f (remains blocks k code t) (at_block blocks (suc k) to t) (λ n. remains-block blocks k to code t n there) (go k (omega (arith, e)))
