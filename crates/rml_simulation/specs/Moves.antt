-- The moves by which a pass shows Simulates: what is to be shown of two runs follows from what is shown of the rest of them.
-- Each is read from its conclusion to its premise, so a proof follows the two runs: what the old run does alone earns
-- credit, what the new one does alone takes it.
use Rattle.std.specs.Prelude.{◌≡◌, ◌≢◌, ℕ, ◌+◌, ◌-◌, ◌≤◌, ◌<◌, Bool, true, false, if◌then◌else◌, List, []}
use Rattle.rml_base.specs.Run.{Cut, Full, Wrong, bare, Rest, step, prepend, make, weigh}
use Rattle.rml_base.specs.Monotone.{IsMonotone}
use Rattle.rml_simulation.specs.Simulates.{Credit, Simulates}

-- c is no more than d
pub record AtMost (c d : Credit) : Type 0 where
  pub steps : c.steps ≤ d.steps
  pub made : c.made ≤ d.made
  pub weighed : c.weighed ≤ d.weighed

-- a credit with something more, or less
abbrev pub more_steps : ℕ → Credit → Credit
more_steps q c = record c { steps = q + c.steps }

abbrev pub more_made : ℕ → Credit → Credit
more_made k c = record c { made = k + c.made }

abbrev pub more_weighed : ℕ → Credit → Credit
more_weighed w c = record c { weighed = w + c.weighed }

abbrev pub less_steps : ℕ → Credit → Credit
less_steps q c = record c { steps = c.steps - q }

abbrev pub less_made : ℕ → Credit → Credit
less_made k c = record c { made = c.made - k }

abbrev pub less_weighed : ℕ → Credit → Credit
less_weighed w c = record c { weighed = c.weighed - w }

-- credit may be given up, and fewer steps may be looked at
abbrev pub Weaken : Type 0
Weaken = (i j : ℕ) (c d : Credit) (f g : Rest) → j ≤ i → AtMost c d → Simulates i c f g → Simulates j d f g

-- a step of both: the rest is needed only below i
abbrev pub BothStep : Type 0
BothStep = (i : ℕ) (c : Credit) (f g : Rest) → ((j : ℕ) → j < i → Simulates j c f g) → Simulates i c (step f) (step g)

-- a step of the old run alone earns a credit
abbrev pub OldStep : Type 0
OldStep = (i : ℕ) (c : Credit) (f g : Rest) → Simulates i (more_steps 1 c) f g → Simulates i c (step f) g

-- a run that with no further step has printed nothing, and isn't full
pub record IsQuiet (f : Rest) : Type 0 where
  pub text : (f 0).text ≡ []
  pub not_full : (f 0).outcome ≢ Full

-- a step of the new run alone takes a credit, where the old run prints nothing before its next step. The rest is needed
-- only below i
abbrev pub NewStep : Type 0
NewStep = (i : ℕ) (c : Credit) (f g : Rest) → 1 ≤ c.steps → IsQuiet f → ((j : ℕ) → j < i → Simulates j (less_steps 1 c) f g) → Simulates i c f (step g)

-- the old run goes through something alone that takes q steps and prints nothing, and comes to h
abbrev pub OldRun : Type 0
OldRun = (i q k w : ℕ) (c : Credit) (f h g : Rest) → ((n : ℕ) → n < q → (f n).outcome ≡ Cut) → ((n : ℕ) → f (q + n) ≡ make k (weigh w (h n))) → Simulates i (more_steps q (more_made k (more_weighed w c))) h g → Simulates i c f g

-- both print a text
abbrev pub BothPrepend : Type 0
BothPrepend = (i : ℕ) (c : Credit) (t : List ℕ) (f g : Rest) → Simulates i c f g → Simulates i c (λ n. prepend t (f n)) (λ n. prepend t (g n))

-- both make cells; the old run alone; the new run alone
abbrev pub BothMake : Type 0
BothMake = (i : ℕ) (c : Credit) (k : ℕ) (f g : Rest) → Simulates i c f g → Simulates i c (λ n. make k (f n)) (λ n. make k (g n))

abbrev pub OldMake : Type 0
OldMake = (i : ℕ) (c : Credit) (k : ℕ) (f g : Rest) → Simulates i (more_made k c) f g → Simulates i c (λ n. make k (f n)) g

abbrev pub NewMake : Type 0
NewMake = (i : ℕ) (c : Credit) (k : ℕ) (f g : Rest) → k ≤ c.made → Simulates i (less_made k c) f g → Simulates i c f (λ n. make k (g n))

-- both meet a weight; the old run alone; the new run alone
abbrev pub BothWeigh : Type 0
BothWeigh = (i : ℕ) (c : Credit) (w : ℕ) (f g : Rest) → Simulates i c f g → Simulates i c (λ n. weigh w (f n)) (λ n. weigh w (g n))

abbrev pub OldWeigh : Type 0
OldWeigh = (i : ℕ) (c : Credit) (w : ℕ) (f g : Rest) → Simulates i (more_weighed w c) f g → Simulates i c (λ n. weigh w (f n)) g

abbrev pub NewWeigh : Type 0
NewWeigh = (i : ℕ) (c : Credit) (w : ℕ) (f g : Rest) → w ≤ c.weighed → Simulates i (less_weighed w c) f g → Simulates i c f (λ n. weigh w (g n))

-- a test that comes out alike on both sides
abbrev pub BothTest : Type 0
BothTest = (i : ℕ) (c : Credit) (b : Bool) (f g f' g' : Rest) → (b ≡ true → Simulates i c f g) → (b ≡ false → Simulates i c f' g') → Simulates i c (λ n. if b then f n else f' n) (λ n. if b then g n else g' n)

-- runs may be replaced by equal ones
abbrev pub Equal : Type 0
Equal = (i : ℕ) (c : Credit) (f f' g g' : Rest) → ((n : ℕ) → f n ≡ f' n) → ((m : ℕ) → m ≤ i → g m ≡ g' m) → Simulates i c f g → Simulates i c f' g'

-- a monotone run follows itself
abbrev pub Itself : Type 0
Itself = (i : ℕ) (c : Credit) (f : Rest) → IsMonotone f → Simulates i c f f

-- nothing is asked where the old run is Wrong
abbrev pub OldWrong : Type 0
OldWrong = (i : ℕ) (c : Credit) (f g : Rest) (n : ℕ) → (f n).outcome ≡ Wrong → Simulates i c f g

-- the new run may be full at any moment
abbrev pub NewFull : Type 0
NewFull = (i : ℕ) (c : Credit) (f : Rest) → Simulates i c f (λ n. bare Full)
