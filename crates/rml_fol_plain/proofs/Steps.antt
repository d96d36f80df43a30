-- Steps, with what a path begins with.
use Rattle.std.proofs.Common.{◌≡◌, ℕ, zero, suc, ◌-◌, ◌<◌, refl, ap, sym, ◌∙◌, arith}
use Rattle.rml_simulation.specs.declared.partial.Trace.{Trace}
use Rattle.rml_simulation.specs.declared.partial.Partial.{Partial}
use Rattle.rml_simulation.specs.declared.partial.Partial.TheVariants.{Yes, CutOff}
use Rattle.rml_simulation.specs.Partial.{untraced, joined, after, take_step}
use Rattle.rml_evaluation.proofs.Callers.{joined_nothing, after_joined}
use Rattle.rml_fol.specs.Weights.{entry_weight}
use Rattle.rml_fol.specs.Statements.{weight_alone, retried}

-- with no step left
pub step_cut : {A : Type 0} (go : ℕ → Partial A) (n : ℕ) → n ≡ 0 → take_step go n ≡ CutOff untraced
step_cut go zero e = refl
step_cut go (suc n) e = absurd (omega arith)

-- with a step
pub step_more : {A : Type 0} (go : ℕ → Partial A) (n : ℕ) → 0 < n → take_step go n ≡ go (n - 1)
step_more go zero h = absurd (omega arith)
step_more go (suc n) h = let e : suc n - 1 ≡ n = omega arith in rw e refl

-- a failure that is taken, and then an answer
pub retried_answers : {A : Type 0} (a : A) (n : ℕ) → 0 < n → retried (λ m. Yes a untraced m) n ≡ Yes a (weight_alone (entry_weight 0)) (n - 1)
retried_answers a n h =
    step_more (λ m. Yes a (joined (weight_alone (entry_weight 0)) untraced) m) n h ∙ ap (λ t. Yes a t (n - 1)) (joined_nothing (weight_alone (entry_weight 0)))

pub ruleset step_rules = (joined_nothing, step_cut, step_more, retried_answers)

-- a failure that cannot be taken, behind a trace
pub failed_cut : {A : Type 0} (sofar more now : Trace) (go : ℕ → Partial A) (n : ℕ) → now ≡ joined sofar more → n ≡ 0
    → after sofar (after more (retried go n)) ≡ CutOff now
failed_cut sofar more now go n joins none =
    ap (λ w. after sofar (after more w)) (step_cut (λ m. after (weight_alone (entry_weight 0)) (go m)) n none)
    ∙ ap CutOff (ap (λ t. joined sofar t) (joined_nothing more) ∙ sym joins)

-- a failure that is taken, behind a trace
pub failed_more : {A : Type 0} (sofar more now begun weight : Trace) (go : ℕ → Partial A) (n : ℕ)
    → now ≡ joined sofar more → weight ≡ weight_alone (entry_weight 0) → begun ≡ joined now weight → 0 < n
    → after sofar (after more (retried go n)) ≡ after begun (go (n - 1))
failed_more {A = A} sofar more now begun weight go n joins weighs begins some =
    ap (λ (w : Partial A). after sofar (after more w)) (step_more (λ m. after (weight_alone (entry_weight 0)) (go m)) n some)
    ∙ sym (after_joined sofar more (after (weight_alone (entry_weight 0)) (go (n - 1))))
    ∙ ap (λ t. after t (after (weight_alone (entry_weight 0)) (go (n - 1)))) (sym joins)
    ∙ ap (λ t. after now (after t (go (n - 1)))) (sym weighs)
    ∙ sym (after_joined now weight (go (n - 1)))
    ∙ ap (λ t. after t (go (n - 1))) (sym begins)
