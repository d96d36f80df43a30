-- The moves: Follow's, where the old run may be Wrong. What the old run comes to is never Wrong where the whole is not.
use Rattle.std.proofs.Common.{◌≡◌, ◌≤◌, ◌≢◌, ℕ, zero, suc, ◌+◌, ◌<◌, true, false, List, refl, sym, subst, arith}
use Rattle.rml_base.specs.Bytes.{AreBytes}
use Rattle.rml_base.specs.Run.{Wrong, Run, Rest, Runs, step}
use Rattle.rml_base.specs.Light.{NeverWrong, NoWrong, LightRun, Light}
use Rattle.rml_simulation.specs.Simulates.{Credit, nothing, Simulates}
use Rattle.rml_simulation.specs.Moves.{Weaken, BothStep, OldStep, NewStep, OldRun, BothPrepend, BothMake, OldMake, NewMake, BothWeigh, OldWeigh, NewWeigh, BothTest, Equal, Itself, OldWrong, NewFull}
use Rattle.rml_simulation.proofs.Follow

after_step : (f : Rest) → NeverWrong (step f) → NeverWrong f
after_step f never = record { at = λ n. never.at (suc n) }

never_equal : (f f' : Rest) → ((n : ℕ) → f n ≡ f' n) → NeverWrong f' → NeverWrong f
never_equal f f' e never = record { at = λ n. subst (λ (r : Run). r.outcome ≢ Wrong) (sym (e n)) (never.at n) }

pub weaken : Weaken
weaken i j c d f g le more u = record { follows = λ never. Follow.weaken i j c d f g le more (u.follows never) }

-- below a lower index
pub lower : (i j : ℕ) (c : Credit) (f g : Rest) → j ≤ i → Simulates i c f g → Simulates j c f g
lower i j c f g le u = weaken i j c c f g le (record { steps = omega arith; made = omega arith; weighed = omega arith }) u

pub both_step : BothStep
both_step i c f g u = record { follows = λ never. Follow.both_step i c f g (λ j lt. (u j lt).follows (after_step f never)) }

-- a step of both, where the rest is known at i itself
pub both_step_here : (i : ℕ) (c : Credit) (f g : Rest) → Simulates i c f g → Simulates i c (step f) (step g)
both_step_here i c f g u = both_step i c f g (λ j lt. lower i j c f g (omega arith) u)

pub old_step : OldStep
old_step i c f g u = record { follows = λ never. Follow.old_step i c f g (u.follows (after_step f never)) }

pub new_step : NewStep
new_step i c f g some quiet u = record { follows = λ never. Follow.new_step i c f g some quiet (λ j lt. (u j lt).follows never) }

pub old_run : OldRun
old_run i q k w c f h g before comes u = record {
  follows = λ never. Follow.old_run i q k w c f h g before comes (u.follows (record { at = λ n. subst (λ (r : Run). r.outcome ≢ Wrong) (comes n) (never.at (q + n)) }));
}

pub both_prepend : BothPrepend
both_prepend i c t f g u = record { follows = λ never. Follow.both_prepend i c t f g (u.follows (record { at = never.at })) }

pub both_make : BothMake
both_make i c k f g u = record { follows = λ never. Follow.both_make i c k f g (u.follows (record { at = never.at })) }

pub old_make : OldMake
old_make i c k f g u = record { follows = λ never. Follow.old_make i c k f g (u.follows (record { at = never.at })) }

pub new_make : NewMake
new_make i c k f g some u = record { follows = λ never. Follow.new_make i c k f g some (u.follows never) }

pub both_weigh : BothWeigh
both_weigh i c w f g u = record { follows = λ never. Follow.both_weigh i c w f g (u.follows (record { at = never.at })) }

pub old_weigh : OldWeigh
old_weigh i c w f g u = record { follows = λ never. Follow.old_weigh i c w f g (u.follows (record { at = never.at })) }

pub new_weigh : NewWeigh
new_weigh i c w f g some u = record { follows = λ never. Follow.new_weigh i c w f g some (u.follows never) }

pub both_test : BothTest
both_test i c true f g f' g' u v = u refl
both_test i c false f g f' g' u v = v refl

pub equal : Equal
equal i c f f' g g' e d u = record { follows = λ never. Follow.equal i c f f' g g' e d (u.follows (never_equal f f' e never)) }

pub itself : Itself
itself i c f monotone = record { follows = λ never. Follow.itself i c f monotone }

pub old_wrong : OldWrong
old_wrong i c f g n e = record { follows = λ never. absurd (never.at n e) }

pub new_full : NewFull
new_full i c f = record { follows = λ never. Follow.full i c f }

below : (Holds : ℕ → Type 0) → ((i : ℕ) → ((j : ℕ) → j < i → Holds j) → Holds i) → (i j : ℕ) → j < i → Holds j
below Holds up zero j lt = absurd (omega arith)
below Holds up (suc i) j lt = up j (λ k less. below Holds up i k (omega arith))

-- what holds at each index at which it holds at all lower ones, holds at each
pub by_index : (Holds : ℕ → Type 0) → ((i : ℕ) → ((j : ℕ) → j < i → Holds j) → Holds i) → (i : ℕ) → Holds i
by_index Holds up i = below Holds up (suc i) i (omega arith)

-- where Simulates holds at each index, the new run is Light
pub limit : (old new : Rest) → NeverWrong old → ((i : ℕ) → Simulates i nothing old new) → LightRun old new
limit old new never u = Follow.limit old new (λ i. (u i).follows never)

pub light : (old new : Runs) → NoWrong old → ((args : List (List ℕ)) (cells i : ℕ) → AreBytes args → Simulates i nothing (old args cells) (new args cells)) → Light old new
light old new right u = record { on = λ args cells bytes. limit (old args cells) (new args cells) (right.on args cells bytes) (λ i. u args cells i bytes) }
