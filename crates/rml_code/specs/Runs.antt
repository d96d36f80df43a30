-- The runs of code: how a run ends or that its turns ran out, the text, the turns, and the greatest number of cells that were in use. What
-- built-ins made and what was handed out besides those cells and the start cells is counted with them.
use Rattle.std.specs.Prelude.{ℕ, min, List, [], Ok, Err}
use Rattle.rml_base.specs.Run as run
use Rattle.rml_base.specs.Run.{InnerOutcome, Run, Runs}
use Rattle.rml_heap.specs.declared.heap.Full.{Full}
use Rattle.rml_heap.specs.declared.heap.TheConstants.{MOST_CELLS}
use Rattle.rml_code.specs.declared.listing.Listing.{Listing}
use Rattle.rml_code.specs.declared.state.State.{State}
use Rattle.rml_code.specs.Stretch as stretch
use Rattle.rml_code.specs.Stretch.{End, Next, Stretch}
use Rattle.rml_code.specs.Turns.{turns}
use Rattle.rml_code.specs.Opening.{Placing, opening}

-- it ended, or its turns ran out
pub data Outcome : Type 0 where
  Ended : End → Outcome
  Cut : Outcome

-- what a run gives
pub record Ran : Type 0 where
  pub outcome : Outcome
  pub text : List ℕ
  pub turns : ℕ
  pub cells : ℕ
  pub made : ℕ
  pub weighed : ℕ

-- what could go on is cut
abbrev pub outcome_of : Next → Outcome
outcome_of stretch.Behind = Cut
outcome_of (stretch.Jump b) = Cut
outcome_of (stretch.Turn b) = Cut
outcome_of (stretch.Stop e) = Ended e

abbrev pub ran : Stretch → Ran
ran a = record { outcome = outcome_of a.next; text = a.text; turns = a.turns; cells = a.cells; made = a.made; weighed = a.weighed }

-- where the start cells do not fit
abbrev pub not_begun : Full → Ran
not_begun full = record { outcome = Ended (stretch.Full full.used full.need); text = []; turns = 0; cells = full.used; made = 0; weighed = 0 }

abbrev pub from_opening : Listing → Placing State → ℕ → Ran
from_opening l (Ok s) n = ran (turns l.blocks n l.main s)
from_opening l (Err full) n = not_begun full

-- code on these arguments, within so many cells, with at most so many turns
abbrev pub machine : Listing → List (List ℕ) → ℕ → ℕ → Ran
machine l args limit n = from_opening l (opening l args limit) n

-- ---- as a run of any form

abbrev pub inner_end : End → InnerOutcome
inner_end (stretch.Answer value) = run.Answer value
inner_end stretch.Failure = run.Failure
inner_end (stretch.Full used need) = run.Full
inner_end stretch.Wrong = run.Wrong

abbrev pub inner : Outcome → InnerOutcome
inner (Ended e) = inner_end e
inner Cut = run.Cut

abbrev pub run_of : Ran → Run
run_of r = record { outcome = inner r.outcome; text = r.text; made = r.made; weighed = r.weighed }

-- there are no more cells than `MOST_CELLS`, so a run that may take more takes as many as it would within these
abbrev pub runs_of : Listing → Runs
runs_of l args limit n = run_of (machine l args (min limit MOST_CELLS) n)
