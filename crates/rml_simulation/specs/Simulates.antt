-- Light by steps: what a pass shows of the first i steps of the new run, from a moment at which the old run is ahead by a
-- credit. A call is a step, so a pass needs what it calls only below i, and the whole follows by induction on i.
use Rattle.std.specs.Prelude.{◌≡◌, ◌≢◌, ℕ, ◌+◌, ◌-◌, ◌≤◌}
use Rattle.rml_base.specs.Run.{Cut, Full, Rest, make, weigh, IsPrefix}
use Rattle.rml_base.specs.Light.{ComesTo, CatchesUp, NeverWrong}

-- by how much the old run is ahead of the new one so far: steps that it took, cells that it made and weights that it
-- met more than the new one
pub record Credit : Type 0 where
  pub steps : ℕ
  pub made : ℕ
  pub weighed : ℕ

abbrev pub nothing : Credit
nothing = record { steps = 0; made = 0; weighed = 0 }

-- what the old run gives, with what it is ahead by
abbrev pub ahead : Credit → Rest → Rest
ahead c f n = make c.made (weigh c.weighed (f n))

-- over the first i steps of the new run it ends as the old run ends, is cut only where the old run is, with a text of
-- the old run that is not behind, and is full only with a text that the old run prints too: LightRun, with the credit
pub record Follows (i : ℕ) (c : Credit) (old new : Rest) : Type 0 where
  pub ended : (m : ℕ) → m ≤ i → (new m).outcome ≢ Cut → (new m).outcome ≢ Full → ComesTo (ahead c old) (new m)
  pub cut : (m n : ℕ) → m ≤ i → n + c.steps ≤ m → (new m).outcome ≡ Cut → (old n).outcome ≡ Cut
  pub cut_text : (m : ℕ) → m ≤ i → (new m).outcome ≡ Cut → CatchesUp (m - c.steps) (ahead c old) (new m)
  pub full : (m : ℕ) → m ≤ i → (new m).outcome ≡ Full → (n : ℕ) × IsPrefix (new m).text (old n).text

-- the same where the old run is never Wrong. So a pass may do as it likes where the old run is Wrong, and may use that
-- it is not
pub record Simulates (i : ℕ) (c : Credit) (old new : Rest) : Type 0 where
  pub follows : NeverWrong old → Follows i c old new
