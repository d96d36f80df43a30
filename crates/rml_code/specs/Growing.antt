-- Code with more turns: an end stays, and a text only grows.
use Rattle.std.specs.Prelude.{ℕ, zero, suc, ◌+◌, ◌≡◌, min, List, Ok, Err}
use Rattle.std.proofs.Common.{subst, arith}
use Rattle.rml_base.specs.Monotone.{Later, IsMonotone}
use Rattle.rml_base.specs.MonotoneLaws.{later_self, later_cut, later_prepend, later_make, later_weigh, longer_is_monotone}
use Rattle.rml_heap.specs.declared.heap.TheConstants.{MOST_CELLS}
use Rattle.rml_code.specs.declared.instructions.Instr.{Instr}
use Rattle.rml_code.specs.declared.listing.Listing.{Listing}
use Rattle.rml_code.specs.declared.state.State.{State}
use Rattle.rml_code.specs.Stretch.{Next, Behind, Jump, Turn, Stop, Stretch, turn_at}
use Rattle.rml_code.specs.Turns.{turn, turns}
use Rattle.rml_code.specs.Opening.{Placing, opening}
use Rattle.rml_code.specs.Runs.{run_of, from_opening, not_begun, runs_of}
use Rattle.rml_code.specs.Remaining.{shown}

turn_grows : (next : Next) (a : Stretch) (f g : ℕ → State → Stretch) → ((b : ℕ) (s : State) → Later (shown (f b s)) (shown (g b s))) → Later (shown (turn_at next a f)) (shown (turn_at next a g))
turn_grows Behind a f g grows = later_self (shown a)
turn_grows (Jump b) a f g grows = later_self (shown a)
turn_grows (Turn b) a f g grows = later_prepend a.text (later_make a.made (later_weigh a.weighed (grows b a.state)))
turn_grows (Stop e) a f g grows = later_self (shown a)

turns_grow : (blocks : List (List Instr)) (j n b : ℕ) (s : State) → Later (shown (turns blocks n b s)) (shown (turns blocks (n + j) b s))
turns_grow blocks j zero b s = later_cut (shown (turns blocks (0 + j) b s))
turns_grow blocks j (suc n) b s =
    let e : suc (n + j) ≡ suc n + j = omega arith in
    subst (λ k. Later (shown (turns blocks (suc n) b s)) (shown (turns blocks k b s))) e
    (turn_grows (turn blocks b s).next (turn blocks b s) (turns blocks n) (turns blocks (n + j)) (turns_grow blocks j n))

begun_grows : (l : Listing) (o : Placing State) (j n : ℕ) → Later (run_of (from_opening l o n)) (run_of (from_opening l o (n + j)))
begun_grows l (Ok s) j n = turns_grow l.blocks j n l.main s
begun_grows l (Err full) j n = later_self (run_of (not_begun full))

pub runs_are_monotone : (l : Listing) (args : List (List ℕ)) (limit : ℕ) → IsMonotone (runs_of l args limit)
runs_are_monotone l args limit = longer_is_monotone (runs_of l args limit) (λ j. record { at = λ n. begun_grows l (opening l args (min limit MOST_CELLS)) j n })
