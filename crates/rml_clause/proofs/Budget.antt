-- Simulation on a budget: the weights that clause form meets between two steps are paid by what the search weighed at the first of them.
use Rattle.std.proofs.Common.{◌≡◌, ℕ, zero, suc, ◌+◌, ◌-◌, ◌<◌, ◌≤◌, refl, ◌∙◌, arith}
use Rattle.rml_base.specs.Run.{Wrong, Rest, step, weigh}
use Rattle.rml_simulation.specs.declared.partial.Trace.{Trace}
use Rattle.rml_simulation.specs.declared.partial.Partial.{Partial}
use Rattle.rml_simulation.specs.Partial.{traced, followed}
use Rattle.rml_simulation.specs.Simulates.{Credit, Simulates}
use Rattle.rml_simulation.specs.Calls.{Calls}
use Rattle.rml_simulation.specs.Carries.{SimulatesAct, kept, acted}
use Rattle.rml_simulation.proofs.Callers.{both_step, both_traced, equal, followed_after, lower, new_weigh, old_weigh, old_wrong, traced_weight}
use Rattle.rml_search.specs.Search.{weighted_step, step_trace}
use Rattle.rml_fol.specs.Statements.{weight_alone, weighing}

-- a step that is weighed, told what follows
pub followed_weighed_step : {A : Type 0} (weight : ℕ) (go : ℕ → Partial A) (k : A → Rest) (h : Rest) (n : ℕ) → followed (weighted_step weight go n) k h ≡ step (λ m. weigh weight (followed (go m) k h)) n
followed_weighed_step weight go k h zero = refl
followed_weighed_step weight go k h (suc n) = followed_after (step_trace weight) (go n) k h ∙ traced_weight weight (followed (go n) k h)

pub followed_weighing : {A : Type 0} (weight : ℕ) (w : Partial A) (k : A → Rest) (h : Rest) → followed (weighing weight w) k h ≡ weigh weight (followed w k h)
followed_weighing weight w k h = followed_after (weight_alone weight) w k h ∙ traced_weight weight (followed w k h)

-- base is what the search is ahead by, its weights aside when a path begins; a step of it weighs `most`
module _ (base : Credit) (most : ℕ) where
  abbrev credit : ℕ → Credit
  credit w = record base { weighed = w }

  -- the new run simulates the old one where the credit pays, beyond that of the base, for so much
  pub record Affords (j first : ℕ) (old new : Rest) : Type 0 where
    pub at : (w : ℕ) → base.weighed + first ≤ w → Simulates j (credit w) old new

  pub afford_less : (i j p q : ℕ) (f g : Rest) → j ≤ i → p ≤ q → Affords i p f g → Affords j q f g
  afford_less i j p q f g le more u = record { at = λ w h. lower i j (credit w) f g le (u.at w (omega arith)) }

  pub afford_equal : (j p : ℕ) (f f' g g' : Rest) → ((n : ℕ) → f n ≡ f' n) → ((n : ℕ) → g n ≡ g' n) → Affords j p f g → Affords j p f' g'
  afford_equal j p f f' g g' e d u = record { at = λ w h. equal j (credit w) f f' g g' e (λ m within. d m) (u.at w h) }

  pub afford_weigh : (j a p : ℕ) (f g : Rest) → Affords j p f g → Affords j (a + p) f (λ n. weigh a (g n))
  afford_weigh j a p f g u = record { at = λ w h. new_weigh j (credit w) a f g (omega arith) (u.at (w - a) (omega arith)) }

  pub afford_step : (j p q : ℕ) (f g : Rest) → q ≤ most → ((i : ℕ) → i < j → Affords i q f g) → Affords j p (step (λ m. weigh most (f m))) (step g)
  afford_step j p q f g less u = record {
    at = λ w h. both_step j (credit w) (λ m. weigh most (f m)) g (λ i lt. old_weigh i (credit w) most f g ((u i lt).at (most + w) (omega arith)));
  }

  pub afford_traced : (j p : ℕ) (t : Trace) (f g : Rest) → Affords j p f g → Affords j p (λ n. traced t (f n)) (λ n. traced t (g n))
  afford_traced j p t f g u = record { at = λ w h. both_traced j (credit w) t f g (u.at w h) }

  pub afford_wrong : (j p : ℕ) (f g : Rest) (n : ℕ) → (f n).outcome ≡ Wrong → Affords j p f g
  afford_wrong j p f g n e = record { at = λ w h. old_wrong j (credit w) f g n e }

  -- a relation that is called, where relations do simulate with fewer steps
  pub afford_call : {S A : Type 0} (i : ℕ) (olds news : Calls S A) → ((j : ℕ) → j < i → (r : ℕ) → SimulatesAct kept j (acted (olds r)) (acted (news r))) → (j p : ℕ) → j < i
      → (r : ℕ) (s : S) (k k' : A → Rest) (h h' : Rest) → ((a : A) → Affords j p (k a) (k' a)) → Affords j p h h'
      → Affords j p (λ n. followed (olds r s n) k h) (λ n. followed (news r s n) k' h')
  afford_call i olds news below j p lt r s k k' h h' ks hs = record { at = λ w le. (below j lt r).at j (credit w) k k' h h' (omega arith) (λ a. (ks a).at w le) (hs.at w le) s }
